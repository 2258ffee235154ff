-- The rules that compute with new constants, and that replace one operation by several.
use Rattle.std.proofs.Common.{◌≡◌, ℕ, ◌+◌, ◌*◌, ◌/◌, ◌<◌, ◌≤◌, ◌^◌, ◌%◌, List, [], ◌∷◌, Bool, true, false, Some, None, refl, sym, ap, ◌∙◌, subst, arith}
use Rattle.std.specs.Prelude.{codes, if◌then◌else◌, bit_xor, bit_and, bit_or, ◌==◌, int_div}
use Rattle.std.specs.List.{list_all}
use Rattle.std.proofs.lemmas.Nat.{mod_below, pow_pos, or_lt, and_le_l, xor_lt}
use Rattle.ir_types.proofs.ReadingLaws.{bits_below}
use Rattle.ir_types.specs.Readings.{signed_of, wrapped}
use Rattle.std.proofs.Math.Nat.{div-le_self}
use Rattle.ir_types.specs.Words.{is_inherent, operations}
use Rattle.op_registry.specs.Properties.{is_allowed, is_of_kind, property_kinds}
use Rattle.op_registry.specs.Properties as property_kind
use Rattle.ir_types.specs.declared.bits.BitsKind.{BitsKind}
use Rattle.ir_types.specs.Bits.{width_of, type_of}
use Rattle.dialects_int.specs.declared.operations.Arithmetic.{Arithmetic}
use Rattle.dialects_int.specs.declared.operations.Arithmetic.TheVariants as op
use Rattle.dialects_int.specs.declared.operations.Rule.TheVariants as rule
use Rattle.dialects_int.specs.Arithmetic.{value_of, all_ones, divides_signed, difference_of, sum_of, product_of, quotient_of, signed_quotient_of, remainder_of, signed_remainder_of}
use Rattle.dialects_int.specs.Laws.{associates}
use Rattle.dialects_int.specs.Folds.{rule_of, rules, is_property}
use Rattle.dialects_int.proofs.PairLaws.{brackets}
use Rattle.dialects_int.proofs.CastLaws.{less_constant, less_by_complement, rest_of_quotient}
use Rattle.dialects_int.proofs.Remainders.{rest_of_signed_quotient}
use Rattle.patterns_laws.specs.Words.{associative, flagged, division_of_remainder}
use Rattle.patterns_laws.specs.Made.{constant, flags, given_by, gives}
use Rattle.patterns_laws.specs.Keeps.{Each, given, Regrouping, AddingTheNegative, AddingTheComplement, Dividing}
use Rattle.patterns_laws.proofs.KnownFolds.{some_bits, below, pair_gives, pair_gave, constant_gives, given_some, given_at, by_exclusive_or}
use Rattle.patterns_laws.proofs.PairRules.{one_below}
use Rattle.std.proofs.lemmas.Option.{same_Some}

-- results of these operations are values of the width
pub regrouped_below : (o : Arithmetic) (w a b v : ℕ) → associates o ≡ true → a < 2 ^ w → b < 2 ^ w → value_of o w a b ≡ Some v → v < 2 ^ w
unfolding sum_of product_of
regrouped_below op.Add w a b v s ha hb e = subst (λ n. n < 2 ^ w) (same_Some ((a + b) % 2 ^ w) v e) (mod_below (a + b) (2 ^ w) (pow_pos w))
regrouped_below op.Multiply w a b v s ha hb e = subst (λ n. n < 2 ^ w) (same_Some ((a * b) % 2 ^ w) v e) (mod_below (a * b) (2 ^ w) (pow_pos w))
regrouped_below op.And w a b v s ha hb e = subst (λ n. n < 2 ^ w) (same_Some (bit_and a b) v e) (omega (arith, and_le_l a b))
regrouped_below op.Or w a b v s ha hb e = subst (λ n. n < 2 ^ w) (same_Some (bit_or a b) v e) (or_lt w a b ha hb)
regrouped_below op.ExclusiveOr w a b v s ha hb e = subst (λ n. n < 2 ^ w) (same_Some (bit_xor a b) v e) (xor_lt w a b ha hb)
regrouped_below _ w a b v s ha hb e = absurd (grind arith)

regrouped_total : (o : Arithmetic) (w a b : ℕ) → associates o ≡ true → (n : ℕ) × (value_of o w a b ≡ Some n)
regrouped_total op.Add w a b s = (sum_of w a b, refl)
regrouped_total op.Multiply w a b s = (product_of w a b, refl)
regrouped_total op.And w a b s = (bit_and a b, refl)
regrouped_total op.Or w a b s = (bit_or a b, refl)
regrouped_total op.ExclusiveOr w a b s = (bit_xor a b, refl)
regrouped_total _ w a b s = absurd (grind arith)

-- ---- `regroup-constants`
regrouped : (name : List ℕ) (o : Arithmetic) → rule_of name ≡ Some (rule.Binary o) → associates o ≡ true → list_all (is_property name) (flags name) ≡ true → Regrouping name
regrouped name o r s fine k p q a c d v ha hc hd h =
    let w : ℕ = width_of k in
    let la : a < 2 ^ w = below k a ha in
    let lc : c < 2 ^ w = below k c hc in
    let ld : d < 2 ^ w = below k d hd in
    let inner = given_some (given_by name p (type_of k) ((k, a) ∷ (k, c) ∷ [])) (λ y. given_by name q (type_of k) (y ∷ (k, d) ∷ [])) v h in
    let g = pair_gave name o p k a c inner.0 r la lc inner.1 in
    let ac : ℕ = g.number in
    let outer : given_by name q (type_of k) ((k, ac) ∷ (k, d) ∷ []) ≡ Some v = subst (λ y. given_by name q (type_of k) (y ∷ (k, d) ∷ []) ≡ Some v) (sym g.whole) inner.2 in
    let lac : ac < 2 ^ w = regrouped_below o w a c ac s la lc g.is in
    let f = pair_gave name o q k ac d v r lac ld outer in
    let cd = regrouped_total o w c d s in
    let lcd : cd.0 < 2 ^ w = regrouped_below o w c d cd.0 s lc ld cd.1 in
    let same : value_of o w a cd.0 ≡ Some f.number = sym (brackets o w a c d ac cd.0 s g.is cd.1) ∙ f.is in
    given_at (given_by name [] (type_of k) ((k, c) ∷ (k, d) ∷ [])) (k, cd.0) (λ n. given (gives (constant (type_of k) n.1) []) (λ e. given_by name (flags name) (type_of k) ((k, a) ∷ e ∷ []))) (Some v)
    (pair_gives name o [] k c d cd.0 r refl lc ld cd.1)
    (given_at (gives (constant (type_of k) cd.0) []) (k, cd.0) (λ e. given_by name (flags name) (type_of k) ((k, a) ∷ e ∷ [])) (Some v)
    (constant_gives k cd.0) (pair_gives name o (flags name) k a cd.0 f.number r fine la lcd same ∙ ap Some f.whole))

pub all_regrouped : Each Regrouping associative
unfolding rule_of rules associative flagged is_inherent operations is_allowed is_of_kind property_kind.kind_of property_kinds
all_regrouped = (
  regrouped (codes "arith.addi") op.Add refl refl refl,
  (
    regrouped (codes "arith.muli") op.Multiply refl refl refl,
    (
      regrouped (codes "arith.andi") op.And refl refl refl,
      (
        regrouped (codes "arith.ori") op.Or refl refl refl,
        (regrouped (codes "arith.xori") op.ExclusiveOr refl refl refl, tt),
      ),
    ),
  ),
)

-- ---- `add-negative`, `expand-difference`, `expand-remainder`
by_add : rule_of (codes "arith.addi") ≡ Some (rule.Binary op.Add)
unfolding rule_of rules
by_add = refl

by_subtract : rule_of (codes "arith.subi") ≡ Some (rule.Binary op.Subtract)
unfolding rule_of rules
by_subtract = refl

by_multiply : rule_of (codes "arith.muli") ≡ Some (rule.Binary op.Multiply)
unfolding rule_of rules
by_multiply = refl

add_fine : list_all (is_property (codes "arith.addi")) (flags (codes "arith.addi")) ≡ true
unfolding flagged is_inherent operations is_allowed is_of_kind property_kind.kind_of property_kinds
add_fine = refl

subtract_fine : list_all (is_property (codes "arith.subi")) (flags (codes "arith.subi")) ≡ true
unfolding flagged is_inherent operations is_allowed is_of_kind property_kind.kind_of property_kinds
subtract_fine = refl

multiply_fine : list_all (is_property (codes "arith.muli")) (flags (codes "arith.muli")) ≡ true
unfolding flagged is_inherent operations is_allowed is_of_kind property_kind.kind_of property_kinds
multiply_fine = refl

exclusive_or_fine : list_all (is_property (codes "arith.xori")) (flags (codes "arith.xori")) ≡ true
unfolding flagged
exclusive_or_fine = refl

sum_below : (w a b : ℕ) → sum_of w a b < 2 ^ w
unfolding sum_of
sum_below w a b = mod_below (a + b) (2 ^ w) (pow_pos w)

difference_below : (w a b : ℕ) → difference_of w a b < 2 ^ w
unfolding difference_of
difference_below w a b = bits_below w _

product_below : (w a b : ℕ) → product_of w a b < 2 ^ w
unfolding product_of
product_below w a b = mod_below (a * b) (2 ^ w) (pow_pos w)

sum_gives : (k : BitsKind) (a b : ℕ) → a < 2 ^ width_of k → b < 2 ^ width_of k → given_by (codes "arith.addi") (flags (codes "arith.addi")) (type_of k) ((k, a) ∷ (k, b) ∷ []) ≡ Some (k, sum_of (width_of k) a b)
sum_gives k a b ha hb = pair_gives (codes "arith.addi") op.Add (flags (codes "arith.addi")) k a b (sum_of (width_of k) a b) by_add add_fine ha hb refl

pub negative_added : AddingTheNegative
negative_added k p a c v ha hc h =
    let w : ℕ = width_of k in
    let g = pair_gave (codes "arith.subi") op.Subtract p k a c v by_subtract (below k a ha) (below k c hc) h in
    let n : ℕ = difference_of w 0 c in
    given_at (gives (constant (type_of k) n) []) (k, n) (λ e. given_by (codes "arith.addi") (flags (codes "arith.addi")) (type_of k) ((k, a) ∷ e ∷ [])) (Some v)
    (constant_gives k n)
    (sum_gives k a n (below k a ha) (difference_below w 0 c) ∙ ap Some (ap (λ m. (k, m)) (sym (less_constant w a c (below k c hc)) ∙ same_Some (difference_of w a c) g.number g.is) ∙ g.whole))

pub complement_added : AddingTheComplement
complement_added k p a b v ha hb h =
    let w : ℕ = width_of k in
    let la : a < 2 ^ w = below k a ha in
    let lb : b < 2 ^ w = below k b hb in
    let some : 1 ≤ w = some_bits k a ha in
    let g = pair_gave (codes "arith.subi") op.Subtract p k a b v by_subtract la lb h in
    let ones : ℕ = all_ones w in
    let lones : ones < 2 ^ w = omega (arith, pow_pos w) in
    let x : ℕ = bit_xor b ones in
    let lx : x < 2 ^ w = xor_lt w b ones lb lones in
    let n : ℕ = sum_of w x 1 in
    given_at (gives (constant (type_of k) ones) []) (k, ones) _ (Some v) (constant_gives k ones)
    (given_at (given_by (codes "arith.xori") (flags (codes "arith.xori")) (type_of k) ((k, b) ∷ (k, ones) ∷ [])) (k, x) _ (Some v) (pair_gives (codes "arith.xori") op.ExclusiveOr (flags (codes "arith.xori")) k b ones x by_exclusive_or exclusive_or_fine lb lones refl)
    (given_at (gives (constant (type_of k) 1) []) (k, 1) _ (Some v) (constant_gives k 1)
    (given_at (given_by (codes "arith.addi") (flags (codes "arith.addi")) (type_of k) ((k, x) ∷ (k, 1) ∷ [])) (k, n) _ (Some v) (sum_gives k x 1 lx (one_below w some))
    (sum_gives k a n la (sum_below w x 1) ∙ ap Some (ap (λ m. (k, m)) (sym (less_by_complement w a b lb) ∙ same_Some (difference_of w a b) g.number g.is) ∙ g.whole)))))

-- a remainder has a quotient that is a value of the width
abbrev Quotient : Arithmetic → Arithmetic → Type 0
Quotient r d = (w a b n : ℕ) → 1 ≤ w → a < 2 ^ w → b < 2 ^ w → value_of r w a b ≡ Some n → (q : ℕ) × (value_of d w a b ≡ Some q) × (q < 2 ^ w) × (n ≡ difference_of w a (product_of w q b))

quotient_there : Quotient op.RemainderUnsigned op.DivideUnsigned
unfolding quotient_of remainder_of
quotient_there w a b n some la lb h = by (b == 0) refl
  where
    by : (t : Bool) → (b == 0) ≡ t → (q : ℕ) × ((if b == 0 then None else Some (a / b)) ≡ Some q) × (q < 2 ^ w) × (n ≡ difference_of w a (product_of w q b))
    by true e = absurd (grind arith)
    by false e =
        let there : (if b == 0 then None else Some (a / b)) ≡ Some (a / b) = rw (e) refl in
        (a / b, there, omega (arith, div-le_self a b), same_Some n (difference_of w a (product_of w (a / b) b)) (sym h ∙ rest_of_quotient w a b (a / b) la there))

signed_quotient_there : Quotient op.RemainderSigned op.DivideSigned
unfolding signed_quotient_of signed_remainder_of
signed_quotient_there w a b n some la lb h = by (divides_signed w a b) refl
  where
    q : ℕ
    q = wrapped w (int_div (signed_of w a) (signed_of w b))

    by : (t : Bool) → divides_signed w a b ≡ t → (q : ℕ) × ((if divides_signed w a b then Some (wrapped w (int_div (signed_of w a) (signed_of w b))) else None) ≡ Some q) × (q < 2 ^ w) × (n ≡ difference_of w a (product_of w q b))
    by false e = absurd (grind arith)
    by true e =
        let there : (if divides_signed w a b then Some (wrapped w (int_div (signed_of w a) (signed_of w b))) else None) ≡ Some q = rw (e) refl in
        (q, there, bits_below w (int_div (signed_of w a) (signed_of w b)), same_Some n (difference_of w a (product_of w q b)) (sym h ∙ rest_of_signed_quotient w a b q some la lb there))

divided : (rem div : List ℕ) (r d : Arithmetic) → rule_of rem ≡ Some (rule.Binary r) → rule_of div ≡ Some (rule.Binary d) → list_all (is_property div) (flags div) ≡ true
    → Quotient r d → Dividing (rem, div)
divided rem div r d by_r by_d fine law k p a b v ha hb h =
    let w : ℕ = width_of k in
    let la : a < 2 ^ w = below k a ha in
    let lb : b < 2 ^ w = below k b hb in
    let g = pair_gave rem r p k a b v by_r la lb h in
    let l = law w a b g.number (some_bits k a ha) la lb g.is in
    let m : ℕ = product_of w l.0 b in
    given_at (given_by div (flags div) (type_of k) ((k, a) ∷ (k, b) ∷ [])) (k, l.0) _ (Some v) (pair_gives div d (flags div) k a b l.0 by_d fine la lb l.1)
    (given_at (given_by (codes "arith.muli") (flags (codes "arith.muli")) (type_of k) ((k, l.0) ∷ (k, b) ∷ [])) (k, m) _ (Some v) (pair_gives (codes "arith.muli") op.Multiply (flags (codes "arith.muli")) k l.0 b m by_multiply multiply_fine l.2 lb refl)
    (pair_gives (codes "arith.subi") op.Subtract (flags (codes "arith.subi")) k a m (difference_of w a m) by_subtract subtract_fine la (product_below w l.0 b) refl ∙ ap Some (ap (λ n. (k, n)) (sym l.3) ∙ g.whole)))

pub all_divided : Each Dividing division_of_remainder
unfolding rule_of rules division_of_remainder flagged
all_divided = (
  divided (codes "arith.remsi") (codes "arith.divsi") op.RemainderSigned op.DivideSigned refl refl refl signed_quotient_there,
  (divided (codes "arith.remui") (codes "arith.divui") op.RemainderUnsigned op.DivideUnsigned refl refl refl quotient_there, tt),
)
