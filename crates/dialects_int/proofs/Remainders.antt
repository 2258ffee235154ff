-- A signed remainder by division, modulo a power of 2.
use Rattle.std.proofs.Common.{◌≡◌, ℕ, suc, ◌+◌, ◌-◌, ◌*◌, ◌/◌, ◌%◌, ◌^◌, ◌<◌, ◌≤◌, ℤ, pos, negsuc, ◌+ℤ◌, ◌*ℤ◌, sym, ap, refl, ◌∙◌, arith, Bool, true, false, Some, None}
use Rattle.std.specs.Prelude.{int_div, int_rem, if◌then◌else◌}
use borrow.Author.Differences.{up, down, sum_is_lem, product_is}
use Rattle.std.proofs.lemmas.Nat.{mod_below, pow_pos, mul-mod, div-add-mod'}
use Rattle.std.proofs.lemmas.Int.{quot-rem}
use Rattle.std.proofs.Math.Nat.{mod-eq_of_lt, add-mod, mod-mod, mod-add-mod, add-mul-mod_self_right, add-mod_left}
use Rattle.ir_types.specs.Readings.{signed_of, wrapped}
use Rattle.ir_types.proofs.ReadingLaws.{bits_back, bits_below}
use Rattle.dialects_int.specs.Arithmetic.{difference_of, product_of, divides_signed, signed_quotient_of, signed_remainder_of}
use Rattle.dialects_int.proofs.Widths.{difference_is}

-- sums and products of numbers that are equal modulo n, and a common summand
module _ (n : ℕ) where
  sums_same : (x y u v : ℕ) → x % n ≡ y % n → u % n ≡ v % n → (x + u) % n ≡ (y + v) % n
  sums_same x y u v e f = add-mod x u n ∙ ap (λ k. (k + u % n) % n) e ∙ ap (λ k. (y % n + k) % n) f ∙ sym (add-mod y v n)

  products_same : (x y u v : ℕ) → x % n ≡ y % n → u % n ≡ v % n → (x * u) % n ≡ (y * v) % n
  products_same x y u v e f = mul-mod x u n ∙ ap (λ k. (k * (u % n)) % n) e ∙ ap (λ k. (y % n * k) % n) f ∙ sym (mul-mod y v n)

  filled : (x c : ℕ) → 0 < n → (x + c + (n - c % n)) % n ≡ x % n
  filled x c some =
      let low = mod_below c n some in
      let parts : c / n * n + c % n ≡ c = div-add-mod' c n in
      let once : (c / n + 1) * n ≡ c / n * n + n = grind arith in
      let whole : x + c + (n - c % n) ≡ x + (c / n + 1) * n = omega arith in
      ap (λ k. k % n) whole ∙ add-mul-mod_self_right x (c / n + 1) n

  cancelled : (x y c : ℕ) → 0 < n → (x + c) % n ≡ (y + c) % n → x % n ≡ y % n
  cancelled x y c some e = sym (filled x c some) ∙ sums_same (x + c) (y + c) (n - c % n) (n - c % n) e refl ∙ filled y c some

-- a number's bits represent the number
bits_same : (w : ℕ) (z : ℤ) → (wrapped w z + down z) % 2 ^ w ≡ up z % 2 ^ w
unfolding wrapped
bits_same w (pos a) = let e : a % 2 ^ w + 0 ≡ a % 2 ^ w = omega arith in ap (λ k. k % 2 ^ w) e ∙ mod-mod a (2 ^ w)
bits_same w (negsuc a) =
    let some = pow_pos w in
    let low = mod_below a (2 ^ w) some in
    let parts : a / 2 ^ w * 2 ^ w + a % 2 ^ w ≡ a = div-add-mod' a (2 ^ w) in
    let once : (a / 2 ^ w + 1) * 2 ^ w ≡ a / 2 ^ w * 2 ^ w + 2 ^ w = grind arith in
    let whole : 2 ^ w - 1 - a % 2 ^ w + suc a ≡ 0 + (a / 2 ^ w + 1) * 2 ^ w = omega arith in
    ap (λ k. k % 2 ^ w) whole ∙ add-mul-mod_self_right 0 (a / 2 ^ w + 1) (2 ^ w)

-- the bits of a product are the product of the bits
product_same : (w : ℕ) (x y : ℤ) → (wrapped w x * wrapped w y + down (x *ℤ y)) % 2 ^ w ≡ up (x *ℤ y) % 2 ^ w
product_same w x y =
    let n = 2 ^ w in
    let a = wrapped w x in
    let b = wrapped w y in
    let e = bits_same w x in
    let f = bits_same w y in
    let high : ((a + down x) * (b + down y)) % n ≡ (up x * up y) % n = products_same n (a + down x) (up x) (b + down y) (up y) e f in
    let left : ((a + down x) * down y) % n ≡ (up x * down y) % n = products_same n (a + down x) (up x) (down y) (down y) e refl in
    let right : (down x * (b + down y)) % n ≡ (down x * up y) % n = products_same n (down x) (down x) (b + down y) (up y) refl f in
    let both = sums_same n ((a + down x) * down y) (up x * down y) (down x * (b + down y)) (down x * up y) left right in
    let more = sums_same n ((a + down x) * (b + down y)) (up x * up y) (down x * down y) (down x * down y) high refl in
    let start : a * b + down (x *ℤ y) ≡ a * b + (up x * down y + down x * up y) = ap (λ k. a * b + k) (product_is x y).1 in
    let end : up (x *ℤ y) ≡ up x * up y + down x * down y = (product_is x y).0 in
    let middle : a * b + ((a + down x) * down y + down x * (b + down y)) ≡ (a + down x) * (b + down y) + down x * down y = grind arith in
    ap (λ k. k % n) start
    ∙ sym (sums_same n (a * b) (a * b) ((a + down x) * down y + down x * (b + down y)) (up x * down y + down x * up y) refl both)
    ∙ ap (λ k. k % n) middle
    ∙ more
    ∙ ap (λ k. k % n) (sym end)

-- bits of a sum with a product
divided_same : (w : ℕ) (a : ℕ) (x d q r : ℤ) → a < 2 ^ w → wrapped w x ≡ a → q *ℤ d +ℤ r ≡ x → a ≡ (wrapped w q * wrapped w d + wrapped w r) % 2 ^ w
divided_same w a x d q r h is whole =
    let n = 2 ^ w in
    let p = q *ℤ d in
    let s = wrapped w q * wrapped w d in
    let one : (s + down p) % n ≡ up p % n = product_same w q d in
    let two : (wrapped w r + down r) % n ≡ up r % n = bits_same w r in
    let three : (a + down x) % n ≡ up x % n = ap (λ k. (k + down x) % n) (sym is) ∙ bits_same w x in
    let joined : up x + down p + down r ≡ down x + up p + up r = ap (λ z. up z + down p + down r) (sym whole) ∙ sum_is_lem p r ∙ ap (λ z. down z + up p + up r) whole in
    let left = sums_same n (s + down p + (wrapped w r + down r)) (up p + up r) (down x) (down x) (sums_same n (s + down p) (up p) (wrapped w r + down r) (up r) one two) refl in
    let right = sums_same n (a + down x) (up x) (down p + down r) (down p + down r) three refl in
    let order : s + wrapped w r + (down p + down r + down x) ≡ s + down p + (wrapped w r + down r) + down x = omega arith in
    let turn : up p + up r + down x ≡ up x + (down p + down r) = omega arith in
    let back : a + down x + (down p + down r) ≡ a + (down p + down r + down x) = omega arith in
    let same : (s + wrapped w r + (down p + down r + down x)) % n ≡ (a + (down p + down r + down x)) % n =
    ap (λ k. k % n) order ∙ left ∙ ap (λ k. k % n) turn ∙ sym right ∙ ap (λ k. k % n) back in
    sym (mod-eq_of_lt h) ∙ sym (cancelled n (s + wrapped w r) a (down p + down r + down x) (pow_pos w) same)

-- the rest of a sum after one summand is subtracted
part_left : (w a p r : ℕ) → p < 2 ^ w → r < 2 ^ w → a ≡ (p + r) % 2 ^ w → difference_of w a p ≡ r
part_left w a p r h k e =
    let n = 2 ^ w in
    let off : p + r + (n - p) ≡ n + r = omega arith in
    difference_is w a p (omega arith) ∙ ap (λ m. (m + (n - p)) % n) e ∙ mod-add-mod (p + r) n (n - p) ∙ ap (λ m. m % n) off ∙ add-mod_left n r ∙ mod-eq_of_lt k

pub rest_of_signed_quotient : (w a b q : ℕ) → 1 ≤ w → a < 2 ^ w → b < 2 ^ w → signed_quotient_of w a b ≡ Some q → signed_remainder_of w a b ≡ Some (difference_of w a (product_of w q b))
unfolding signed_quotient_of signed_remainder_of product_of
rest_of_signed_quotient w a b q some ha hb = by (divides_signed w a b)
  where
    by : (t : Bool) → (if t then Some (wrapped w (int_div (signed_of w a) (signed_of w b))) else None) ≡ Some q → (if t then Some (wrapped w (int_rem (signed_of w a) (signed_of w b))) else None) ≡ Some (difference_of w a ((q * b) % 2 ^ w))
    by false e = absurd (cc e)
    by true e =
        let n = 2 ^ w in
        let x = signed_of w a in
        let d = signed_of w b in
        let is : wrapped w (int_div x d) ≡ q = cc e in
        let r = wrapped w (int_rem x d) in
        let whole : a ≡ (q * b + r) % n = divided_same w a x d (int_div x d) (int_rem x d) ha (bits_back w a some ha) (quot-rem x d) ∙ ap (λ k. (k * wrapped w d + r) % n) is ∙ ap (λ k. (q * k + r) % n) (bits_back w b some hb) in
        let cut : (q * b + r) % n ≡ (q * b % n + r) % n = sym (mod-add-mod (q * b) n r) in
        ap Some (sym (part_left w a (q * b % n) r (mod_below (q * b) n (pow_pos w)) (bits_below w (int_rem x d)) (whole ∙ cut)))
