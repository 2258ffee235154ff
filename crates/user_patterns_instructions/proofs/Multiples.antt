-- Products of a value and a literal, and operations by 0 and 1 that are the identity.
use Rattle.std.proofs.Common.{ℤ, pos, negsuc, ◌≡◌, ◌∙◌, ℕ, zero, suc, ◌+◌, ◌-◌, ◌*◌, ◌/◌, ◌%◌, ◌^◌, ◌<◌, ◌≤◌, ◌==◌, List, Bool, true, false, true≢false, not, nat_lt, nat_le, if◌then◌else◌, Option, Some, None, ◌⊎◌, inl, inr, ⊎_elim, refl, sym, ap, subst, arith}
use Rattle.std.specs.Int.{int_shr}
use Rattle.std.proofs.lemmas.Bool.{and_parts, cases_lt, eqb-true}
use Rattle.std.proofs.lemmas.Bool.Decides.{nat_tests}
use Rattle.std.proofs.lemmas.Nat.{mod_below, mul-mod, pow_pos, div-add-mod'}
use Rattle.std.proofs.Math.Nat.{add-mod, add-mul-mod_self_right, mod-eq_of_lt, mul-le-mul_right}
use Rattle.std.proofs.Math.Pow.{pow-lt}
use Rattle.ir_types.specs.Readings.{literal_number, signed_of, wrapped}
use Rattle.ir_types.proofs.Widths.{literal_low}
use Rattle.dialects_int.specs.declared.operations.Arithmetic.{Arithmetic}
use Rattle.dialects_int.specs.declared.operations.Arithmetic.TheVariants as op
use Rattle.dialects_int.specs.Arithmetic.{difference_of, left_shift_of, product_of, quotient_of, remainder_of, right_shift_of, sum_of, value_of, sign_extended, signed_right_shift_of}
use Rattle.dialects_int.proofs.PairLaws.{nothing_left}
use Rattle.dialects_int.proofs.Widths.{difference_is}
use Rattle.user_patterns_data.specs.declared.pattern.Literal.{Literal}
use Rattle.ir_types.specs.declared.bits.BitsKind.{BitsKind}
use Rattle.user_patterns_check.specs.Outcomes.{checked, divides, given}
use Rattle.width_claims.specs.declared.form.Form.TheVariants as form
use Rattle.width_claims.specs.declared.form.Expr.{Expr}
use Rattle.width_claims.specs.PatternOpValues.{at}
use Rattle.width_claims.specs.Right.{IsBelow}
use Rattle.user_patterns_instructions.specs.Expressions.{Made, is_number, literal_times, multiple, one_more, opposite, push_expr, quotient, quotient_by, remainder, times, twice, with_literal}
use Rattle.user_patterns_instructions.proofs.PatternOps.{Base, Is, Makes, base_on, makes_next, makes_same, same}
use Rattle.user_patterns_instructions.proofs.Ranges.{value_below}
use Rattle.user_patterns_instructions.proofs.Forms.{put_add, put_cut, put_number, put_quotient, put_resize, put_subtract}

-- ---- numbers modulo M

left_reduced : (M u v : ℕ) → 0 < M → (u % M + v) % M ≡ (u + v) % M
left_reduced M u v l =
    let e : u % M % M ≡ u % M = mod-eq_of_lt (mod_below u M l) in
    add-mod (u % M) v M ∙ ap (λ n. (n + v % M) % M) e ∙ sym (add-mod u v M)

both_reduced : (M u : ℕ) → (u % M + u % M) % M ≡ (u + u) % M
both_reduced M u = sym (add-mod u u M)

-- a shift by 0
shift_by_none : (z : ℤ) → int_shr z 0 ≡ z
shift_by_none (pos n) = let e : n / 1 ≡ n = omega arith in ap pos e
shift_by_none (negsuc n) = let e : n / 1 ≡ n = omega arith in ap negsuc e

-- the negation of a number modulo M
cancels : (M x r j : ℕ) → r < M → x + r ≡ j * M → x % M ≡ (M - r) % M
cancels M x r j l e = go r j l e
  where
    go : (r j : ℕ) → r < M → x + r ≡ j * M → x % M ≡ (M - r) % M
    go zero j l e =
        let a : x ≡ 0 + j * M = omega (arith, e) in
        let b : M - 0 ≡ 0 + 1 * M = omega arith in
        ap (λ n. n % M) a ∙ add-mul-mod_self_right 0 j M ∙ sym (ap (λ n. n % M) b ∙ add-mul-mod_self_right 0 1 M)
    go (suc r) zero l e = absurd (omega (arith, e))
    go (suc r) (suc j) l e =
        let m : suc j * M ≡ j * M + M = grind arith in
        let a : x ≡ (M - suc r) + j * M = omega (arith, e, l, m) in
        ap (λ n. n % M) a ∙ add-mul-mod_self_right (M - suc r) j M

-- the product by -m is the negation of the product by m
opposite_product : (M a m : ℕ) → 0 < M → m < M → (a * ((0 + (M - m)) % M)) % M ≡ (0 + (M - (a * m) % M)) % M
opposite_product M a m p l =
    let x = a * (M - m) in
    let r = (a * m) % M in
    let q = (a * m) / M in
    let parts : q * M + r ≡ a * m = div-add-mod' (a * m) M in
    let e : (M - m) + m ≡ M = omega (arith, l) in
    let whole : x + a * m ≡ a * M = sym (distributed a (M - m) m) ∙ ap (λ n. a * n) e in
    let most : q * M ≤ a * M = omega (arith, whole, parts) in
    let rest : (a - q) * M + q * M ≡ a * M = split q most in
    let same : x + r ≡ (a - q) * M = omega (arith, whole, parts, rest) in
    let zero_less : 0 + (M - m) ≡ M - m = omega arith in
    let zero_rest : 0 + (M - r) ≡ M - r = omega arith in
    mul-mod a ((0 + (M - m)) % M) M ∙ ap (λ n. (a % M * n) % M) (twice_reduced (0 + (M - m)) ∙ ap (λ n. n % M) zero_less) ∙ sym (mul-mod a (M - m) M)
    ∙ cancels M x r (a - q) (mod_below (a * m) M p) same ∙ ap (λ n. n % M) (sym zero_rest)
  where
    distributed : (a b c : ℕ) → a * (b + c) ≡ a * b + a * c
    distributed a b c = grind arith

    twice_reduced : (n : ℕ) → n % M % M ≡ n % M
    twice_reduced n = mod-eq_of_lt (mod_below n M p)

    split : (q : ℕ) → q * M ≤ a * M → (a - q) * M + q * M ≡ a * M
    split q h = on (a - q) (below q h)
      where
        below : (k : ℕ) → k * M ≤ a * M → (a - k) + k ≡ a
        below k h = ⊎_elim (λ (o : a < k). absurd (let n : a + 1 ≤ k = omega (arith, o) in let g : (a + 1) * M ≤ k * M = mul-le-mul_right M n in let f : (a + 1) * M ≡ a * M + M = grind arith in omega (arith, g, f, h, p))) (λ (o : k ≤ a). omega (arith, o)) (cases_lt a k)

        on : (d : ℕ) → d + q ≡ a → d * M + q * M ≡ a * M
        on d e = let f : (d + q) * M ≡ d * M + q * M = grind arith in sym f ∙ ap (λ n. n * M) e

is_difference : (w n : ℕ) → wrapped w (literal_number true n) ≡ difference_of w 0 n
unfolding difference_of
is_difference w n = refl

module _ (W : ℕ) (vs ws : List ℕ) where
  module _ (t i a : ℕ) where
    abbrev M : ℕ
    M = 2 ^ at ws t

    -- the product by 0
    zero_makes : (ps : List Expr) (n : ℕ) → n ≡ 0 → Base W vs ws ps → IsBelow W (at ws t) → Makes W vs ws ps (push_expr ps t (form.Literal 0)) t ((a * n) % M)
    zero_makes ps n e b low =
        let p = pow_pos (at ws t) in
        let none : a * n ≡ 0 = ap (λ k. a * k) e ∙ grind arith in
        makes_same W vs ws ps (push_expr ps t (form.Literal 0)) t (wrapped (at ws t) (literal_number false 0)) ((a * n) % M) (sym (literal_low (at ws t) 0 p) ∙ sym (ap (λ k. k % M) none ∙ mod-eq_of_lt p))
        (put_number W vs ws ps b t 0 low)

    -- the double of a product
    twice_makes : (ps : List Expr) (m : Made) (n : ℕ) → Base W vs ws ps → Makes W vs ws ps m t ((a * n) % M) → Makes W vs ws ps (twice t m) t ((a * (n + n)) % M)
    unfolding sum_of
    twice_makes ps m n b h =
        let c = base_on W vs ws ps m.0 b h.grown in
        let double : a * n + a * n ≡ a * (n + n) = grind arith in
        makes_same W vs ws ps (twice t m) t (((a * n) % M + (a * n) % M) % M) ((a * (n + n)) % M) (both_reduced M (a * n) ∙ ap (λ k. k % M) double)
        (makes_next W vs ws ps m (twice t m) t t ((a * n) % M) (((a * n) % M + (a * n) % M) % M) h (put_add W vs ws m.0 c m.1 m.1 t ((a * n) % M) ((a * n) % M) h.is h.is))

    -- one more summand, if there is a remainder
    more_makes : (ps : List Expr) (m : Made) (n r : ℕ) (c : Bool) → (r == 1) ≡ c → r < 2 → Base W vs ws ps → Is W vs ws ps i t a → Makes W vs ws ps m t ((a * n) % M) → Makes W vs ws ps (one_more c t i m) t ((a * (n + r)) % M)
    unfolding sum_of
    more_makes ps m n r true e l b is h =
        let one : r ≡ 1 = eqb-true r 1 e in
        let d = base_on W vs ws ps m.0 b h.grown in
        let sum : a * n + a ≡ a * (n + 1) = grind arith in
        let all : a * (n + 1) ≡ a * (n + r) = ap (λ k. a * (n + k)) (sym one) in
        makes_same W vs ws ps (one_more true t i m) t (((a * n) % M + a) % M) ((a * (n + r)) % M) (left_reduced M (a * n) a (pow_pos (at ws t)) ∙ ap (λ k. k % M) (sum ∙ all))
        (makes_next W vs ws ps m (one_more true t i m) t t ((a * n) % M) (((a * n) % M + a) % M) h (put_add W vs ws m.0 d m.1 i t ((a * n) % M) a h.is (h.grown.kept i t a is)))
    more_makes ps m n r false e l b is h =
        let none : r ≡ 0 = not_one r e l in
        let all : n ≡ n + r = omega (arith, none) in
        makes_same W vs ws ps m t ((a * n) % M) ((a * (n + r)) % M) (ap (λ k. (a * k) % M) all) h
      where
        not_one : (k : ℕ) → (k == 1) ≡ false → k < 2 → k ≡ 0
        not_one k f g = grind (arith, nat_tests)

    pub times_makes : (k n : ℕ) (ps : List Expr) → n ≤ k → Base W vs ws ps → Is W vs ws ps i t a → Makes W vs ws ps (times k n t i ps) t ((a * n) % M)
    times_makes zero n ps l b is = zero_makes ps n (omega (arith, l)) b is.low
    times_makes (suc k) n ps l b is = go (λ h. times_makes k (n / 2) ps h b is) (n == 0) refl (n == 1) refl
      where
        half_less : (m j : ℕ) → m ≤ suc j → (m == 0) ≡ false → m / 2 ≤ j
        half_less m j h e = let some : 0 < m = positive m e in omega (arith, h, some)
          where
            positive : (c : ℕ) → (c == 0) ≡ false → 0 < c
            positive c f = grind (arith, nat_tests)

        go : (n / 2 ≤ k → Makes W vs ws ps (times k (n / 2) t i ps) t ((a * (n / 2)) % M)) → (c : Bool) → (n == 0) ≡ c → (d : Bool) → (n == 1) ≡ d
            → Makes W vs ws ps (if c then push_expr ps t (form.Literal 0) else if d then push_expr ps t (form.Cut i) else one_more (n % 2 == 1) t i (twice t (times k (n / 2) t i ps))) t ((a * n) % M)
        go ih true e d f = zero_makes ps n (eqb-true n 0 e) b is.low
        go ih false e true f =
            let one : a * 1 ≡ a * n = ap (λ c. a * c) (sym (eqb-true n 1 f)) in
            let itself : a ≡ a * 1 = grind arith in
            makes_same W vs ws ps (push_expr ps t (form.Cut i)) t (a % M) ((a * n) % M) (ap (λ c. c % M) (itself ∙ one)) (put_cut W vs ws ps b i t t a is.low is)
        go ih false e false f =
            let h = half_less n k l e in
            let double = twice_makes ps (times k (n / 2) t i ps) (n / 2) b (ih h) in
            let small : n % 2 < 2 = omega arith in
            let parts : n / 2 + n / 2 + n % 2 ≡ n = omega arith in
            makes_same W vs ws ps (one_more (n % 2 == 1) t i (twice t (times k (n / 2) t i ps))) t ((a * (n / 2 + n / 2 + n % 2)) % M) ((a * n) % M) (ap (λ c. (a * c) % M) parts)
            (more_makes ps (twice t (times k (n / 2) t i ps)) (n / 2 + n / 2) (n % 2) (n % 2 == 1) refl small b is double)

  module _ (t i a : ℕ) where
    abbrev N : ℕ
    N = 2 ^ at ws t

    -- the number of a literal
    abbrev literal : Literal → ℕ
    literal l = wrapped (at ws t) (literal_number l.negative l.magnitude)

    opposite_makes : (ps : List Expr) (m : Made) (n : ℕ) → n < N → Base W vs ws ps → IsBelow W (at ws t) → Makes W vs ws ps m t ((a * n) % N) → Makes W vs ws ps (opposite t m) t ((a * wrapped (at ws t) (literal_number true n)) % N)
    opposite_makes ps m n l b low h =
        let p = pow_pos (at ws t) in
        let w = at ws t in
        let x = (a * n) % N in
        let c = base_on W vs ws ps m.0 b h.grown in
        let z = put_number W vs ws m.0 c t 0 low in
        let k = push_expr m.0 t (form.Literal 0) in
        let d = base_on W vs ws m.0 k.0 c z.grown in
        let none : Makes W vs ws m.0 k t 0 = makes_same W vs ws m.0 k t (wrapped w (literal_number false 0)) 0 (sym (literal_low w 0 p)) z in
        let last = put_subtract W vs ws k.0 d k.1 m.1 t 0 x none.is (z.grown.kept m.1 t x h.is) in
        let below : x < N = mod_below (a * n) N p in
        makes_same W vs ws ps (opposite t m) t (difference_of w 0 x) ((a * wrapped w (literal_number true n)) % N)
        (difference_is w 0 x (omega (arith, below)) ∙ sym (ap (λ c. (a * c) % N) (is_difference w n ∙ difference_is w 0 n (omega (arith, l))) ∙ opposite_product N a n p l))
        (makes_next W vs ws ps m (opposite t m) t t x (difference_of w 0 x) h (makes_next W vs ws m.0 k (opposite t m) t t 0 (difference_of w 0 x) none last))

    pub multiple_makes : (l : Literal) (ps : List Expr) → l.magnitude < N → Base W vs ws ps → Is W vs ws ps i t a → Makes W vs ws ps (multiple l t i ps) t ((a * wrapped (at ws t) (literal_number l.negative l.magnitude)) % N)
    multiple_makes l ps low b is = go l.negative
      where
        all : Makes W vs ws ps (times l.magnitude l.magnitude t i ps) t ((a * l.magnitude) % N)
        all = times_makes t i a l.magnitude l.magnitude ps (omega arith) b is

        go : (c : Bool) → Makes W vs ws ps (if c then opposite t (times l.magnitude l.magnitude t i ps) else times l.magnitude l.magnitude t i ps) t ((a * wrapped (at ws t) (literal_number c l.magnitude)) % N)
        go true = opposite_makes ps (times l.magnitude l.magnitude t i ps) l.magnitude low b is.low all
        go false = makes_same W vs ws ps (times l.magnitude l.magnitude t i ps) t ((a * l.magnitude) % N) ((a * wrapped (at ws t) (literal_number false l.magnitude)) % N) (ap (λ c. (a * c) % N) (literal_low (at ws t) l.magnitude low)) all

    module _ (l : Literal) (v : ℕ) (v_is : v ≡ wrapped (at ws t) (literal_number l.negative l.magnitude)) (low : l.magnitude < N) (ps : List Expr) (b : Base W vs ws ps) (is : Is W vs ws ps i t a) where
      -- an operation on a value and a literal
      pub record IsLiteral (o : Arithmetic) (m : Made) : Type 0 where
        pub total : (divides o ≡ false) ⊎ ((v == 0) ≡ false)
        pub value : ℕ
        pub value_is : (k : BitsKind) → checked o k v (value_of o (at ws t) a v) ≡ Some (Some (k, value))
        pub makes : Makes W vs ws ps m t value

      abbrev pub LiteralMakes : Arithmetic → Option Made → Type 0
      LiteralMakes o None = Unit {0}
      LiteralMakes o (Some m) = IsLiteral o m

      number_is : (n : ℕ) → is_number n l ≡ true → n < N → v ≡ n
      number_is n e h =
          let f = and_parts (not l.negative) (l.magnitude == n) e in
          v_is ∙ (λ r. wrapped (at ws t) (literal_number (positive l.negative f.0 r) (eqb-true l.magnitude n f.1 r))) ∙ sym (literal_low (at ws t) n h)
        where
          positive : (c : Bool) → not c ≡ true → c ≡ false
          positive true g = absurd (true≢false (sym g))
          positive false g = refl

      one_below : 1 < N
      one_below = let h = is.low.0 in let g = pow-lt {i = 0} {j = at ws t} h in omega (arith, g)

      some_width : nat_lt 0 (at ws t) ≡ true
      some_width = let h = is.low.0 in positive (at ws t) h
        where
          positive : (n : ℕ) → 1 ≤ n → nat_lt 0 n ≡ true
          positive n h = grind (arith, nat_tests)

      shifted_left : (c : Bool) → is_number 0 l ≡ c → LiteralMakes op.ShiftLeft (if c then Some (push_expr ps t (form.Cut i)) else None)
      unfolding left_shift_of
      shifted_left false e = tt
      shifted_left true e =
          let z = number_is 0 e (pow_pos (at ws t)) in
          let itself : a * 1 ≡ a = grind arith in
          record {
            total = inl refl;
            value = a % N;
            value_is = λ k. ap (checked op.ShiftLeft k v) (ap (λ n. if nat_lt n (at ws t) then Some ((a * 2 ^ n) % N) else None) z ∙ ap (λ c. if c then Some ((a * 1) % N) else None) some_width ∙ ap (λ n. Some (n % N)) itself);
            makes = put_cut W vs ws ps b i t t a is.low is;
          }

      itself_makes : Makes W vs ws ps (ps, i) t a
      itself_makes = record { grown = same W vs ws ps b.right; is = is }

      over_one : a / 1 ≡ a
      over_one = omega arith

      shifted_right : (c : Bool) → is_number 0 l ≡ c → LiteralMakes op.ShiftRightUnsigned (if c then Some (ps, i) else None)
      unfolding right_shift_of
      shifted_right false e = tt
      shifted_right true e =
          let z = number_is 0 e (pow_pos (at ws t)) in
          record {
            total = inl refl;
            value = a;
            value_is = λ k. ap (checked op.ShiftRightUnsigned k v) (ap (λ n. if nat_lt n (at ws t) then Some (a / 2 ^ n) else None) z ∙ ap (λ c. if c then Some (a / 1) else None) some_width ∙ ap Some over_one);
            makes = itself_makes;
          }

      shifted_signed : (c : Bool) → is_number 0 l ≡ c → LiteralMakes op.ShiftRightSigned (if c then Some (push_expr ps t (form.Resize t i)) else None)
      unfolding signed_right_shift_of sign_extended
      shifted_signed false e = tt
      shifted_signed true e =
          let z = number_is 0 e (pow_pos (at ws t)) in
          record {
            total = inl refl;
            value = wrapped (at ws t) (signed_of (at ws t) a);
            value_is = λ k. ap (checked op.ShiftRightSigned k v) (ap (λ n. if nat_lt n (at ws t) then Some (wrapped (at ws t) (int_shr (signed_of (at ws t) a) n)) else None) z
                ∙ ap (λ c. if c then Some (wrapped (at ws t) (int_shr (signed_of (at ws t) a) 0)) else None) some_width
                ∙ ap (λ n. Some (wrapped (at ws t) n)) (shift_by_none (signed_of (at ws t) a)));
            makes = put_resize W vs ws ps b i t t a is.low is;
          }

      -- the quotient by the literal
      record IsQuotient (m : Made) : Type 0 where
        some : (l.magnitude == 0) ≡ false
        number : v ≡ l.magnitude
        makes : Makes W vs ws ps m t (a / l.magnitude)

      abbrev QuotientMakes : Option Made → Type 0
      QuotientMakes None = Unit {0}
      QuotientMakes (Some m) = IsQuotient m

      quotients : (c : Bool) → l.negative ≡ c → QuotientMakes (if c then None else quotient l.magnitude t i ps)
      quotients true e = tt
      quotients false e = go (l.magnitude == 1) refl (l.magnitude == 0) refl (nat_le l.magnitude 4294967296)
        where
          number : v ≡ l.magnitude
          number = v_is ∙ (λ r. wrapped (at ws t) (literal_number (e r) l.magnitude)) ∙ sym (literal_low (at ws t) l.magnitude low)

          positive : (n : ℕ) → (n == 0) ≡ false → suc (n - 1) ≡ n
          positive n f = grind (arith, nat_tests)

          some_one : (n : ℕ) → (n == 1) ≡ true → (n == 0) ≡ false
          some_one n f = grind (arith, nat_tests)

          go : (c : Bool) → (l.magnitude == 1) ≡ c → (d : Bool) → (l.magnitude == 0) ≡ d → (e : Bool)
              → QuotientMakes (if c then Some (ps, i) else if d then None else if e then Some (push_expr ps t (form.Quotient i (l.magnitude - 1))) else None)
          go true f d g h =
              record {
                some = some_one l.magnitude f;
                number = number;
                makes = makes_same W vs ws ps (ps, i) t a (a / l.magnitude) (sym over_one ∙ ap (λ k. a / k) (sym (eqb-true l.magnitude 1 f))) itself_makes;
              }
          go false f true g h = tt
          go false f false g true =
              record {
                some = g;
                number = number;
                makes = makes_same W vs ws ps (push_expr ps t (form.Quotient i (l.magnitude - 1))) t (a / suc (l.magnitude - 1)) (a / l.magnitude) (ap (λ k. a / k) (positive l.magnitude g))
                    (put_quotient W vs ws ps b i t (l.magnitude - 1) a is);
              }
          go false f false g false = tt

      divided : (m : Option Made) → QuotientMakes m → LiteralMakes op.DivideUnsigned m
      unfolding quotient_of
      divided None q = tt
      divided (Some m) q =
          record {
            total = inr (ap (λ n. n == 0) q.number ∙ q.some);
            value = a / l.magnitude;
            value_is = λ k. ap (checked op.DivideUnsigned k v) (ap (λ n. if n == 0 then None else Some (a / n)) q.number ∙ ap (λ c. if c then None else Some (a / l.magnitude)) q.some);
            makes = q.makes;
          }

      -- a value without the multiple of a divisor
      rest_is : (n : ℕ) → 0 < n → n < N → difference_of (at ws t) a ((a / n * n) % N) ≡ a % n
      rest_is n some below =
          let p = pow_pos (at ws t) in
          let whole = div-add-mod' a n in
          let parts = div-add-mod' (a / n * n) N in
          let small : (a / n * n) % N < N = mod_below (a / n * n) N p in
          let r : a % n < n = mod_below a n some in
          let j = a / n * n / N in
          let once : (j + 1) * N ≡ j * N + N = grind arith in
          let sum : a + (N - (a / n * n) % N) ≡ a % n + (j + 1) * N = omega (arith, whole, parts, small, once) in
          difference_is (at ws t) a ((a / n * n) % N) (omega (arith, small)) ∙ ap (λ k. k % N) sum ∙ add-mul-mod_self_right (a % n) (j + 1) N ∙ mod-eq_of_lt (omega (arith, r, below))

      rest_makes : (m : Made) → IsQuotient m → Makes W vs ws ps (remainder l.magnitude t i m) t (a % l.magnitude)
      rest_makes m q =
          let n = l.magnitude in
          let product = times n n t m.1 m.0 in
          let c = base_on W vs ws ps m.0 b q.makes.grown in
          let made = times_makes t m.1 (a / n) n n m.0 (omega arith) c q.makes.is in
          let d = base_on W vs ws m.0 product.0 c made.grown in
          let here = made.grown.kept i t a (q.makes.grown.kept i t a is) in
          let last = put_subtract W vs ws product.0 d i product.1 t a ((a / n * n) % N) here made.is in
          makes_same W vs ws ps (remainder n t i m) t (difference_of (at ws t) a ((a / n * n) % N)) (a % n) (rest_is n (positive n q.some) low)
          (makes_next W vs ws ps m (remainder n t i m) t t (a / n) (difference_of (at ws t) a ((a / n * n) % N)) q.makes (makes_next W vs ws m.0 product (remainder n t i m) t t ((a / n * n) % N) (difference_of (at ws t) a ((a / n * n) % N)) made last))
        where
          positive : (n : ℕ) → (n == 0) ≡ false → 0 < n
          positive n e = grind (arith, nat_tests)

      nothing : (n : ℕ) → n * 0 ≡ 0
      nothing n = omega arith

      zero_made : Makes W vs ws ps (push_expr ps t (form.Literal 0)) t 0
      zero_made = makes_same W vs ws ps (push_expr ps t (form.Literal 0)) t ((a * 0) % N) 0 (ap (λ n. n % N) (nothing a) ∙ mod-eq_of_lt (pow_pos (at ws t))) (zero_makes t i a ps 0 refl b is.low)

      remaining : (c : Bool) → is_number 1 l ≡ c → (q : Option Made) → QuotientMakes q → LiteralMakes op.RemainderUnsigned (if c then Some (push_expr ps t (form.Literal 0)) else given q (λ m. Some (remainder l.magnitude t i m)))
      unfolding remainder_of
      remaining true e q h =
          let z = number_is 1 e one_below in
          let none : a % 1 ≡ 0 = omega arith in
          record {
            total = inr (ap (λ n. n == 0) z);
            value = 0;
            value_is = λ k. ap (checked op.RemainderUnsigned k v) (ap (λ n. if n == 0 then None else Some (a % n)) z ∙ ap Some none);
            makes = zero_made;
          }
      remaining false e None h = tt
      remaining false e (Some m) h =
          record {
            total = inr (ap (λ n. n == 0) h.number ∙ h.some);
            value = a % l.magnitude;
            value_is = λ k. ap (checked op.RemainderUnsigned k v) (ap (λ n. if n == 0 then None else Some (a % n)) h.number ∙ ap (λ c. if c then None else Some (a % l.magnitude)) h.some);
            makes = rest_makes m h;
          }

      -- no signed remainder is left by 1; where the division overflows, it is 0 too
      none_left : (c : Bool) → is_number 1 l ≡ c → LiteralMakes op.RemainderSigned (if c then Some (push_expr ps t (form.Literal 0)) else None)
      none_left false e = tt
      none_left true e =
          let z = number_is 1 e one_below in
          record {
            total = inr (ap (λ n. n == 0) z);
            value = 0;
            value_is = λ k. ap (λ n. checked op.RemainderSigned k n (value_of op.RemainderSigned (at ws t) a n)) z ∙ left k (value_of op.RemainderSigned (at ws t) a 1) refl;
            makes = zero_made;
          }
        where
          left : (k : BitsKind) (r : Option ℕ) → value_of op.RemainderSigned (at ws t) a 1 ≡ r → checked op.RemainderSigned k 1 r ≡ Some (Some (k, 0))
          left k None f = refl
          left k (Some x) f = let low_width = is.low.0 in ap (λ n. Some (Some (k, n))) (nothing_left (at ws t) a x low_width (value_below W vs ws ps i t a b.right is) f)

      product_makes : Makes W vs ws ps (multiple l t i ps) t ((a * v) % N)
      product_makes = subst (λ (n : ℕ). Makes W vs ws ps (multiple l t i ps) t ((a * n) % N)) (sym v_is) (multiple_makes l ps low b is)

      multiplied : IsLiteral op.Multiply (multiple l t i ps)
      unfolding product_of
      multiplied = record { total = inl refl; value = (a * v) % N; value_is = λ k. refl; makes = product_makes }

      pub with_makes : (o : Arithmetic) → LiteralMakes o (with_literal o t i l ps)
      with_makes op.Multiply = multiplied
      with_makes op.ShiftLeft = shifted_left (is_number 0 l) refl
      with_makes op.ShiftRightUnsigned = shifted_right (is_number 0 l) refl
      with_makes op.DivideUnsigned = divided (quotient_by l t i ps) (quotients l.negative refl)
      with_makes op.RemainderUnsigned = remaining (is_number 1 l) refl (quotient_by l t i ps) (quotients l.negative refl)
      with_makes op.Add = tt
      with_makes op.Subtract = tt
      with_makes op.And = tt
      with_makes op.Or = tt
      with_makes op.ExclusiveOr = tt
      with_makes op.MaximumSigned = tt
      with_makes op.MaximumUnsigned = tt
      with_makes op.MinimumSigned = tt
      with_makes op.MinimumUnsigned = tt
      with_makes op.DivideSigned = tt
      with_makes op.RemainderSigned = none_left (is_number 1 l) refl
      with_makes op.ShiftRightSigned = shifted_signed (is_number 0 l) refl

      -- an operation on a literal and a value
      pub record IsTurned (o : Arithmetic) (m : Made) : Type 0 where
        pub total : divides o ≡ false
        pub value : ℕ
        pub value_is : value_of o (at ws t) v a ≡ Some value
        pub makes : Makes W vs ws ps m t value

      abbrev pub TurnedMakes : Arithmetic → Option Made → Type 0
      TurnedMakes o None = Unit {0}
      TurnedMakes o (Some m) = IsTurned o m

      turned : IsTurned op.Multiply (multiple l t i ps)
      unfolding product_of
      turned = let e : v * a ≡ a * v = grind arith in record { total = refl; value = (a * v) % N; value_is = ap (λ n. Some (n % N)) e; makes = product_makes }

      pub times_value : (o : Arithmetic) → TurnedMakes o (literal_times o t i l ps)
      times_value op.Multiply = turned
      times_value op.ShiftLeft = tt
      times_value op.ShiftRightUnsigned = tt
      times_value op.DivideUnsigned = tt
      times_value op.RemainderUnsigned = tt
      times_value op.Add = tt
      times_value op.Subtract = tt
      times_value op.And = tt
      times_value op.Or = tt
      times_value op.ExclusiveOr = tt
      times_value op.MaximumSigned = tt
      times_value op.MaximumUnsigned = tt
      times_value op.MinimumSigned = tt
      times_value op.MinimumUnsigned = tt
      times_value op.DivideSigned = tt
      times_value op.RemainderSigned = tt
      times_value op.ShiftRightSigned = tt
