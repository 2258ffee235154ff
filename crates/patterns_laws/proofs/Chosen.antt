-- The rules on comparisons and selects.
use Rattle.std.proofs.Common.{◌≡◌, ℕ, zero, suc, [], ◌∷◌, true, Some, refl, sym, ap, ◌∙◌, subst, arith, lit<}
use Rattle.std.specs.Prelude.{codes, slice_get, nat_le, ◌&&◌, bit_xor}
use Rattle.std.specs.List.{list_all}
use Rattle.std.proofs.lemmas.Bool.Decides.{nat_tests}
use Rattle.dialects_int.specs.declared.operations.Arithmetic.TheVariants as op
use Rattle.ir_types.specs.Words.{is_inherent, operations}
use Rattle.op_registry.specs.Properties.{is_allowed, is_of_kind, property_kinds}
use Rattle.op_registry.specs.Properties as property_kind
use Rattle.ir_types.specs.declared.bits.BitsKind.{BitsKind}
use Rattle.ir_types.specs.Bits.{width_of, type_of}
use Rattle.dialects_int.specs.declared.operations.Predicate.{Predicate}
use Rattle.dialects_int.specs.declared.operations.Predicate.TheVariants as asks
use Rattle.dialects_int.specs.declared.operations.Rule.TheVariants as rule
use Rattle.dialects_int.specs.Arithmetic.{comparison_of, truth, choice_of}
use Rattle.dialects_int.specs.Laws as law
use Rattle.dialects_int.specs.Folds.{Known, rule_of, rules, is_property, predicates, property_of, requested}
use Rattle.dialects_int.proofs.KnownOperands.{compare_folds, select_folds}
use Rattle.dialects_int.proofs.CastLaws.{mirror, with_itself, below_zero, not_below_zero, same_choice, own_choice, other_choice}
use Rattle.patterns_laws.specs.Made.{Entries, i1, predicate_entry, given_by}
use Rattle.patterns_laws.specs.Keeps.{truth_kind, is_true_when_equal, swapped_predicate, ComparingItself, Mirroring, NotBelowZero, ChoosingOne, ChoosingByConstant, ChoosingTruth, ChoosingByOpposite}
use Rattle.patterns_laws.proofs.KnownFolds.{below, kind_back, fine_of, pair_gave, constant_gives, given_some, by_exclusive_or}
use Rattle.std.proofs.lemmas.Option.{same_Some}

by_compare : rule_of (codes "arith.cmpi") ≡ Some rule.Compare
unfolding rule_of rules
by_compare = refl

by_select : rule_of (codes "arith.select") ≡ Some rule.Select
unfolding rule_of rules
by_select = refl

-- the predicate with a number, if there is one
requested_at : (n : ℕ) → requested (property_of (codes "predicate") (predicate_entry n)) ≡ slice_get predicates n
requested_at n = refl

-- the result of a comparison: none, if no predicate has its number
pub compare_gives : (n : ℕ) (p : Predicate) (k : BitsKind) (a b : ℕ) → list_all (is_property (codes "arith.cmpi")) (predicate_entry n) ≡ true → slice_get predicates n ≡ Some p
    → given_by (codes "arith.cmpi") (predicate_entry n) i1 ((k, a) ∷ (k, b) ∷ []) ≡ Some (truth_kind, truth (comparison_of (width_of k) p a b))
compare_gives n p k a b fine e =
    compare_folds (codes "arith.cmpi") p (predicate_entry n) i1 (record { by = by_compare; fine = fine; kind = refl }) k a b (requested_at n ∙ e)

-- the predicate of a number, and that of its mirrored predicate
pub record Asks (n : ℕ) : Type 0 where
  pub what : Predicate
  pub there : slice_get predicates n ≡ Some what
  pub turned : slice_get predicates (swapped_predicate n) ≡ Some (law.mirrored what)
  pub fine : list_all (is_property (codes "arith.cmpi")) (predicate_entry (swapped_predicate n)) ≡ true
  pub itself : is_true_when_equal n ≡ truth (law.holds_of_itself what)

number_fine : (n : ℕ) → list_all (is_property (codes "arith.cmpi")) (predicate_entry n) ≡ (nat_le n 9 && true)
unfolding is_inherent operations is_allowed is_of_kind property_kind.kind_of property_kinds
number_fine n = refl

past : (n : ℕ) → (nat_le (suc (suc (suc (suc (suc (suc (suc (suc (suc (suc n)))))))))) 9 && true) ≡ true → ⊥
past n h = grind (arith, nat_tests)

pub asks_of : (n : ℕ) → list_all (is_property (codes "arith.cmpi")) (predicate_entry n) ≡ true → Asks n
unfolding predicates
asks_of zero h = record { what = asks.Equal; there = refl; turned = refl; fine = number_fine _; itself = refl }
asks_of (suc zero) h = record { what = asks.NotEqual; there = refl; turned = refl; fine = number_fine _; itself = refl }
asks_of (suc (suc zero)) h = record { what = asks.SignedLess; there = refl; turned = refl; fine = number_fine _; itself = refl }
asks_of (suc (suc (suc zero))) h = record { what = asks.SignedLessOrEqual; there = refl; turned = refl; fine = number_fine _; itself = refl }
asks_of (suc (suc (suc (suc zero)))) h = record { what = asks.SignedGreater; there = refl; turned = refl; fine = number_fine _; itself = refl }
asks_of (suc (suc (suc (suc (suc zero))))) h = record { what = asks.SignedGreaterOrEqual; there = refl; turned = refl; fine = number_fine _; itself = refl }
asks_of (suc (suc (suc (suc (suc (suc zero)))))) h = record { what = asks.UnsignedLess; there = refl; turned = refl; fine = number_fine _; itself = refl }
asks_of (suc (suc (suc (suc (suc (suc (suc zero))))))) h = record { what = asks.UnsignedLessOrEqual; there = refl; turned = refl; fine = number_fine _; itself = refl }
asks_of (suc (suc (suc (suc (suc (suc (suc (suc zero)))))))) h = record { what = asks.UnsignedGreater; there = refl; turned = refl; fine = number_fine _; itself = refl }
asks_of (suc (suc (suc (suc (suc (suc (suc (suc (suc zero))))))))) h = record { what = asks.UnsignedGreaterOrEqual; there = refl; turned = refl; fine = number_fine _; itself = refl }
asks_of (suc (suc (suc (suc (suc (suc (suc (suc (suc (suc n)))))))))) h = absurd (past n (sym (number_fine _) ∙ h))

-- ---- comparisons
requested_of : (k : BitsKind) (n a b : ℕ) (v : Known) → given_by (codes "arith.cmpi") (predicate_entry n) i1 ((k, a) ∷ (k, b) ∷ []) ≡ Some v → Asks n
requested_of k n a b v h = asks_of n (fine_of (codes "arith.cmpi") (predicate_entry n) (Some (k, a) ∷ Some (k, b) ∷ []) i1 v h)

fine_at : (k : BitsKind) (n a b : ℕ) (v : Known) → given_by (codes "arith.cmpi") (predicate_entry n) i1 ((k, a) ∷ (k, b) ∷ []) ≡ Some v → list_all (is_property (codes "arith.cmpi")) (predicate_entry n) ≡ true
fine_at k n a b v h = fine_of (codes "arith.cmpi") (predicate_entry n) (Some (k, a) ∷ Some (k, b) ∷ []) i1 v h

pub itself_compared : ComparingItself
itself_compared k n a v h =
    let g = requested_of k n a a v h in
    constant_gives truth_kind (is_true_when_equal n)
    ∙ ap (λ m. Some (truth_kind, m)) (g.itself ∙ ap truth (sym (with_itself g.what (width_of k) a)))
    ∙ sym (compare_gives n g.what k a a (fine_at k n a a v h) g.there) ∙ h

pub comparison_mirrored : Mirroring
comparison_mirrored k n a b v h =
    let g = requested_of k n a b v h in
    compare_gives (swapped_predicate n) (law.mirrored g.what) k b a g.fine g.turned
    ∙ ap (λ t. Some (truth_kind, truth t)) (sym (mirror g.what (width_of k) a b))
    ∙ sym (compare_gives n g.what k a b (fine_at k n a b v h) g.there) ∙ h

pub nothing_below : NotBelowZero 6 0
unfolding predicates
nothing_below k a v h =
    constant_gives truth_kind 0 ∙ ap (λ t. Some (truth_kind, truth t)) (sym (below_zero (width_of k) a))
    ∙ sym (compare_gives 6 asks.UnsignedLess k a 0 (fine_at k 6 a 0 v h) refl) ∙ h

pub all_at_least : NotBelowZero 9 1
unfolding predicates
all_at_least k a v h =
    constant_gives truth_kind 1 ∙ ap (λ t. Some (truth_kind, truth t)) (sym (not_below_zero (width_of k) a))
    ∙ sym (compare_gives 9 asks.UnsignedGreaterOrEqual k a 0 (fine_at k 9 a 0 v h) refl) ∙ h

-- ---- selects
pub select_gives : (p : Entries) (k : BitsKind) (c a b : ℕ) → list_all (is_property (codes "arith.select")) p ≡ true → given_by (codes "arith.select") p (type_of k) ((truth_kind, c) ∷ (k, a) ∷ (k, b) ∷ []) ≡ Some (k, choice_of c a b)
select_gives p k c a b fine = select_folds (codes "arith.select") p (type_of k) k (record { by = by_select; fine = fine; kind = kind_back k }) c a b

pub select_fine : (p : Entries) (k : BitsKind) (c a b : ℕ) (v : Known) → given_by (codes "arith.select") p (type_of k) ((truth_kind, c) ∷ (k, a) ∷ (k, b) ∷ []) ≡ Some v → list_all (is_property (codes "arith.select")) p ≡ true
select_fine p k c a b v h = fine_of (codes "arith.select") p (Some (truth_kind, c) ∷ Some (k, a) ∷ Some (k, b) ∷ []) (type_of k) v h

pub select_gave : (p : Entries) (k : BitsKind) (c a b : ℕ) (v : Known) → given_by (codes "arith.select") p (type_of k) ((truth_kind, c) ∷ (k, a) ∷ (k, b) ∷ []) ≡ Some v → (k, choice_of c a b) ≡ v
select_gave p k c a b v h = same_Some (k, choice_of c a b) v (sym (select_gives p k c a b (select_fine p k c a b v h)) ∙ h)

pub one_chosen : ChoosingOne
one_chosen k p c a b v hc h = ap (λ n. (k, n)) (sym (same_choice c a)) ∙ select_gave p k c a a v h

pub chosen_by_constant : ChoosingByConstant
chosen_by_constant k p c a b v hc h = select_gave p k c a b v h

pub truth_chosen : ChoosingTruth
truth_chosen p c v hc h = ap (λ n. (truth_kind, n)) (sym (own_choice c (below truth_kind c hc))) ∙ select_gave p truth_kind c 1 0 v h

pub chosen_by_opposite : ChoosingByOpposite
chosen_by_opposite k p q c a b v hc h =
    let inner = given_some (given_by (codes "arith.xori") p i1 ((truth_kind, c) ∷ (truth_kind, 1) ∷ [])) (λ y. given_by (codes "arith.select") q (type_of k) (y ∷ (k, a) ∷ (k, b) ∷ [])) v h in
    let g = pair_gave (codes "arith.xori") op.ExclusiveOr p truth_kind c 1 inner.0 by_exclusive_or (below truth_kind c hc) (lit< tt) inner.1 in
    let turned : (truth_kind, bit_xor c 1) ≡ inner.0 = ap (λ n. (truth_kind, n)) (same_Some (bit_xor c 1) g.number g.is) ∙ g.whole in
    let outer : given_by (codes "arith.select") q (type_of k) ((truth_kind, bit_xor c 1) ∷ (k, a) ∷ (k, b) ∷ []) ≡ Some v = subst (λ y. given_by (codes "arith.select") q (type_of k) (y ∷ (k, a) ∷ (k, b) ∷ []) ≡ Some v) (sym turned) inner.2 in
    select_gives q k c b a (select_fine q k (bit_xor c 1) a b v outer)
    ∙ ap Some (ap (λ n. (k, n)) (sym (other_choice c a b (below truth_kind c hc))) ∙ select_gave q k (bit_xor c 1) a b v outer)
