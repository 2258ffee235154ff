-- The types of a pattern as types of a claim, and literals in their range.
use Rattle.std.proofs.Common.{◌≡◌, ◌∙◌, ℕ, zero, suc, ◌+◌, ◌-◌, ◌*◌, ◌/◌, ◌^◌, ◌<◌, ◌≤◌, List, [], ◌∷◌, map, Bool, true, false, true≢false, ◌&&◌, nat_lt, nat_le, if◌then◌else◌, Option, Some, None, slice_get, refl, sym, ap, subst, arith}
use Rattle.std.specs.Prelude.{is_some}
use Rattle.std.proofs.lemmas.Bool.{and_parts, eqb-true}
use Rattle.std.proofs.lemmas.Bool.Decides.{nat_tests}
use Rattle.std.proofs.lemmas.Option.{none-some, same_Some}
use Rattle.std.proofs.Math.Pow.{pow-lt}
use Rattle.ir_types.specs.declared.bits.BitsKind.{BitsKind}
use Rattle.ir_types.specs.declared.bits.BitsKind.TheVariants as kind
use Rattle.ir_types.specs.Bits.{bits_of, type_of, width_of}
use Rattle.ir_types.specs.Limits.{index_width, most_width}
use Rattle.ir_types.specs.Readings.{literal_bits, literal_number, wrapped}
use Rattle.ir_types.specs.Reasons.{is_width}
use Rattle.ir_types.proofs.ReadingLaws.{bits_below}
use Rattle.user_patterns_check.specs.Outcomes.{constant_outcome, given}
use Rattle.user_patterns_data.specs.declared.pattern.PatternType.{PatternType}
use Rattle.user_patterns_data.specs.declared.pattern.PatternType.TheVariants as ty
use Rattle.user_patterns_data.specs.declared.pattern.Literal.{Literal}
use Rattle.user_patterns_data.specs.Fitting.{bits_with, is_literal_of, kind_at, or_zero}
use Rattle.width_claims.specs.PatternOpValues.{at}
use Rattle.width_claims.specs.Right.{IsBelow}
use Rattle.user_patterns_claims.specs.Outcomes.{AreKindsOf, are_kinds}
use Rattle.user_patterns_instructions.specs.Expressions.{is_one_bit, is_repeated, type_at, type_if, type_number}
use Rattle.user_patterns_claims.specs.Translation.{top_power}
use Rattle.user_patterns_instructions.proofs.Operands.{width_is}

pub width_low : (W w : ℕ) → most_width ≤ W → is_width w ≡ true → IsBelow W w
width_low W w most e =
    let h = and_parts (nat_lt 0 w) (nat_le w most_width) e in
    let a : 1 ≤ w = positive w h.0 in
    let b : w ≤ most_width = at_most w most_width h.1 in
    (a, omega (arith, b, most))
  where
    positive : (n : ℕ) → nat_lt 0 n ≡ true → 1 ≤ n
    positive n f = grind (arith, nat_tests)

    at_most : (n m : ℕ) → nat_le n m ≡ true → n ≤ m
    at_most n m f = grind (arith, nat_tests)

-- the kinds of a pattern and those of a claim, whose first type is i1; a type without a number has kind i1
abbrev pub kind_if : Bool → BitsKind → BitsKind
kind_if repeated j = if repeated then kind.Int 1 else j

abbrev pub kinds_from : List PatternType → ℕ → List PatternType → List BitsKind → List BitsKind
kinds_from all i [] ks = []
kinds_from all i (k ∷ value_types) [] = []
kinds_from all i (k ∷ value_types) (j ∷ ks) = kind_if (is_repeated i all k) j ∷ kinds_from all (i + 1) value_types ks

abbrev pub claim_kinds : List PatternType → List BitsKind → List BitsKind
claim_kinds value_types ks = kind.Int 1 ∷ kinds_from value_types 0 value_types ks

-- type u of a claim is type t of the pattern
pub record TypeIs (W : ℕ) (value_types : List PatternType) (ks : List BitsKind) (t u : ℕ) : Type 0 where
  pub same : kind_at (claim_kinds value_types ks) u ≡ kind_at ks t
  pub wide : is_width (width_of (kind_at ks t)) ≡ true
  pub low : IsBelow W (at (map width_of (claim_kinds value_types ks)) u)

abbrev KindIs : PatternType → BitsKind → Type 0
KindIs (ty.Concrete j) i = i ≡ j
KindIs (ty.Variable v) i = Unit {0}

entry : (value_types : List PatternType) (ks : List BitsKind) (t : ℕ) (k : PatternType) → AreKindsOf value_types ks → are_kinds ks ≡ true → slice_get value_types t ≡ Some k
    → (is_width (width_of (kind_at ks t)) ≡ true) × KindIs k (kind_at ks t)
entry [] ks t k a w e = absurd (none-some k e)
entry (ty.Concrete j ∷ value_types) [] t k a w e = absurd a
entry (ty.Variable v ∷ value_types) [] t k a w e = absurd a
entry (ty.Concrete j ∷ value_types) (i ∷ ks) zero k a w e = ((and_parts (is_width (width_of i)) (are_kinds ks) w).0, subst (λ (c : PatternType). KindIs c i) (same_Some (ty.Concrete j) k e) a.0)
entry (ty.Variable v ∷ value_types) (i ∷ ks) zero k a w e = ((and_parts (is_width (width_of i)) (are_kinds ks) w).0, subst (λ (c : PatternType). KindIs c i) (same_Some (ty.Variable v) k e) tt)
entry (ty.Concrete j ∷ value_types) (i ∷ ks) (suc t) k a w e = entry value_types ks t k a.1 (and_parts (is_width (width_of i)) (are_kinds ks) w).1 e
entry (ty.Variable v ∷ value_types) (i ∷ ks) (suc t) k a w e = entry value_types ks t k a (and_parts (is_width (width_of i)) (are_kinds ks) w).1 e

one_bit : (k : BitsKind) → is_one_bit k ≡ true → kind.Int 1 ≡ k
one_bit (kind.Int w) e = ap kind.Int (sym (eqb-true w 1 e))
one_bit kind.Index e = absurd (true≢false (sym e))

kind_used : (all value_types : List PatternType) (ks : List BitsKind) (i t : ℕ) (k : PatternType) → AreKindsOf value_types ks → slice_get value_types t ≡ Some k → is_repeated (i + t) all k ≡ false → kind_at (kinds_from all i value_types ks) t ≡ kind_at ks t
kind_used all [] ks i t k a e f = absurd (none-some k e)
kind_used all (ty.Concrete b ∷ value_types) [] i t k a e f = absurd a
kind_used all (ty.Variable v ∷ value_types) [] i t k a e f = absurd a
kind_used all (ty.Concrete b ∷ value_types) (j ∷ ks) i zero k a e f =
    let g : i + 0 ≡ i = omega arith in
    ap (λ c. kind_if c j) ((λ r. is_repeated (sym g r) all (same_Some (ty.Concrete b) k e r)) ∙ f)
kind_used all (ty.Variable v ∷ value_types) (j ∷ ks) i zero k a e f =
    let g : i + 0 ≡ i = omega arith in
    ap (λ c. kind_if c j) ((λ r. is_repeated (sym g r) all (same_Some (ty.Variable v) k e r)) ∙ f)
kind_used all (ty.Concrete b ∷ value_types) (j ∷ ks) i (suc t) k a e f = let g : i + 1 + t ≡ i + suc t = omega arith in kind_used all value_types ks (i + 1) t k a.1 e (ap (λ n. is_repeated n all k) g ∙ f)
kind_used all (ty.Variable v ∷ value_types) (j ∷ ks) i (suc t) k a e f = let g : i + 1 + t ≡ i + suc t = omega arith in kind_used all value_types ks (i + 1) t k a e (ap (λ n. is_repeated n all k) g ∙ f)

kind_next : (value_types : List PatternType) (ks : List BitsKind) (t : ℕ) (k : PatternType) → AreKindsOf value_types ks → slice_get value_types t ≡ Some k → is_repeated t value_types k ≡ false → kind_at (claim_kinds value_types ks) (t + 1) ≡ kind_at ks t
kind_next value_types ks t k a e f =
    let g : t + 1 ≡ suc t = omega arith in
    let h : 0 + t ≡ t = omega arith in
    ap (kind_at (claim_kinds value_types ks)) g ∙ kind_used value_types value_types ks 0 t k a e (ap (λ n. is_repeated n value_types k) h ∙ f)

number_kind : (value_types : List PatternType) (ks : List BitsKind) (t : ℕ) (k : PatternType) → kind_at (claim_kinds value_types ks) (t + 1) ≡ kind_at ks t → KindIs k (kind_at ks t) → kind_at (claim_kinds value_types ks) (type_number t k) ≡ kind_at ks t
number_kind value_types ks t (ty.Variable v) next i = next
number_kind value_types ks t (ty.Concrete j) next i = go (is_one_bit j) refl
  where
    go : (b : Bool) → is_one_bit j ≡ b → kind_at (claim_kinds value_types ks) (if b then 0 else t + 1) ≡ kind_at ks t
    go true e = one_bit j e ∙ sym i
    go false e = next

pub type_is : (W : ℕ) → most_width ≤ W → (value_types : List PatternType) (ks : List BitsKind) (t u : ℕ) → AreKindsOf value_types ks → are_kinds ks ≡ true → type_at value_types t ≡ Some u → TypeIs W value_types ks t u
type_is W most value_types ks t u a w e = on (slice_get value_types t) refl e
  where
    used : (k : PatternType) (b : Bool) → slice_get value_types t ≡ Some k → is_repeated t value_types k ≡ b → type_if b t k ≡ Some u → TypeIs W value_types ks t u
    used k true i g f = absurd (none-some u f)
    used k false i g f =
        let h = entry value_types ks t k a w i in
        let same : kind_at (claim_kinds value_types ks) u ≡ kind_at ks t = ap (kind_at (claim_kinds value_types ks)) (sym (same_Some (type_number t k) u f)) ∙ number_kind value_types ks t k (kind_next value_types ks t k a i g) h.1 in
        let wide : at (map width_of (claim_kinds value_types ks)) u ≡ width_of (kind_at ks t) = width_is (claim_kinds value_types ks) u ∙ ap width_of same in
        record { same = same; wide = h.0; low = subst (λ (n : ℕ). IsBelow W n) (sym wide) (width_low W (width_of (kind_at ks t)) most h.0) }

    on : (o : Option PatternType) → slice_get value_types t ≡ o → given o (λ k. type_if (is_repeated t value_types k) t k) ≡ Some u → TypeIs W value_types ks t u
    on None i f = absurd (none-some u f)
    on (Some k) i f = used k (is_repeated t value_types k) i refl f

-- ---- literals

-- a literal of a kind has bits, and a magnitude below 2^w
abbrev IsFitting : BitsKind → Bool → ℕ → Type 0
IsFitting k negative m = (literal_bits (type_of k) negative m ≡ Some (wrapped (width_of k) (literal_number negative m))) × (m < 2 ^ width_of k)

by_test : (w m x : ℕ) (c : Bool) → (c ≡ true → m < 2 ^ w) → is_some (if c then Some x else None) ≡ true → ((if c then Some x else None) ≡ Some x) × (m < 2 ^ w)
by_test w m x true f e = (refl, f refl)
by_test w m x false f e = absurd (true≢false (sym e))

below_half : (w m : ℕ) → 1 ≤ w → nat_lt m (2 ^ (w - 1)) ≡ true → m < 2 ^ w
below_half w m l e = let g = pow-lt {i = w - 1} {j = w} (omega (arith, l)) in let h = less m (2 ^ (w - 1)) e in omega (arith, g, h)
  where
    less : (n k : ℕ) → nat_lt n k ≡ true → n < k
    less n k f = grind (arith, nat_tests)

at_most_half : (w m : ℕ) → 1 ≤ w → nat_le m (2 ^ (w - 1)) ≡ true → m < 2 ^ w
at_most_half w m l e = let g = pow-lt {i = w - 1} {j = w} (omega (arith, l)) in let h = most m (2 ^ (w - 1)) e in omega (arith, g, h)
  where
    most : (n k : ℕ) → nat_le n k ≡ true → n ≤ k
    most n k f = grind (arith, nat_tests)

below_whole : (w m : ℕ) → nat_lt m (2 ^ w) ≡ true → m < 2 ^ w
below_whole w m e = less m (2 ^ w) e
  where
    less : (n k : ℕ) → nat_lt n k ≡ true → n < k
    less n k f = grind (arith, nat_tests)

fitting : (k : BitsKind) (negative : Bool) (m : ℕ) → 1 ≤ width_of k → is_some (literal_bits (type_of k) negative m) ≡ true → IsFitting k negative m
fitting (kind.Int w) true m l e = by_test w m (wrapped w (literal_number true m)) (nat_le m (2 ^ (w - 1))) (at_most_half w m l) e
fitting (kind.Int w) false m l e = by_test w m (wrapped w (literal_number false m)) (nat_lt m (2 ^ w)) (below_whole w m) e
fitting kind.Index true m l e = by_test index_width m (wrapped index_width (literal_number true m)) (nat_le m (2 ^ (index_width - 1))) (at_most_half index_width m l) e
fitting kind.Index false m l e = by_test index_width m (wrapped index_width (literal_number false m)) (nat_lt m (2 ^ (index_width - 1))) (below_half index_width m l) e

are_bits : (k : BitsKind) (n : ℕ) → is_width (width_of k) ≡ true → n < 2 ^ width_of k → bits_of k n ≡ Some (k, n)
are_bits k n wide l = ap (λ b. if b && nat_lt n (2 ^ width_of k) then Some (k, n) else None) wide ∙ ap (λ b. if b then Some (k, n) else None) (by_less n (2 ^ width_of k) l)
  where
    by_less : (n m : ℕ) → n < m → nat_lt n m ≡ true
    by_less n m l = grind (arith, nat_tests)

-- the outcome of a literal, and its magnitude
pub record LiteralIs (ks : List BitsKind) (l : Literal) : Type 0 where
  pub outcome : constant_outcome (kind_at ks l.ty) (or_zero (bits_with ks l)) ≡ Some (Some (kind_at ks l.ty, wrapped (width_of (kind_at ks l.ty)) (literal_number l.negative l.magnitude)))
  pub below : l.magnitude < 2 ^ width_of (kind_at ks l.ty)

pub literal_is : (W : ℕ) (value_types : List PatternType) (ks : List BitsKind) (l : Literal) (u : ℕ) → TypeIs W value_types ks l.ty u → is_literal_of ks l ≡ true → LiteralIs ks l
literal_is W value_types ks l u t e =
    let k = kind_at ks l.ty in
    let w = width_of k in
    let x = wrapped w (literal_number l.negative l.magnitude) in
    let there : bits_with ks l ≡ literal_bits (type_of k) l.negative l.magnitude = ap (λ c. if c then literal_bits (type_of k) l.negative l.magnitude else None) t.wide in
    let some : 1 ≤ w = positive w (and_parts (nat_lt 0 w) (nat_le w most_width) t.wide).0 in
    let h = fitting k l.negative l.magnitude some (sym (ap is_some there) ∙ e) in
    record {
      outcome = ap (λ o. constant_outcome k (or_zero o)) (there ∙ h.0) ∙ ap (λ o. given o (λ b. Some (Some b))) (are_bits k x t.wide (bits_below w (literal_number l.negative l.magnitude)));
      below = h.1;
    }
  where
    positive : (n : ℕ) → nat_lt 0 n ≡ true → 1 ≤ n
    positive n f = grind (arith, nat_tests)

-- ---- the power of two that limits a literal

two_or_more : (n : ℕ) → nat_le 2 n ≡ true → 2 ≤ n
two_or_more n f = grind (arith, nat_tests)

pub top_some : (k n : ℕ) → 1 ≤ top_power k n
top_some zero n = omega arith
top_some (suc k) n = go (nat_le 2 n) (top_some k (n / 2))
  where
    go : (b : Bool) → 1 ≤ top_power k (n / 2) → 1 ≤ (if b then 2 * top_power k (n / 2) else 1)
    go true l = omega (arith, l)
    go false l = omega arith

pub top_low : (k n : ℕ) → 1 ≤ n → top_power k n ≤ n
top_low zero n l = l
top_low (suc k) n l = go (nat_le 2 n) refl (top_low k (n / 2))
  where
    go : (b : Bool) → nat_le 2 n ≡ b → (1 ≤ n / 2 → top_power k (n / 2) ≤ n / 2) → (if b then 2 * top_power k (n / 2) else 1) ≤ n
    go true e h = let two : 2 ≤ n = two_or_more n e in let less = h (omega (arith, two)) in omega (arith, less)
    go false e h = l
