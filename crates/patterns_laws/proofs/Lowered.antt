-- The rule that replaces index by i64, folds over known operands, and minima and maxima by a comparison and a select.
use Rattle.std.proofs.Common.{◌≡◌, ℕ, ◌<◌, ◌≤◌, ◌^◌, List, [], ◌∷◌, Bool, true, false, map, Some, None, refl, sym, ap, ◌∙◌, subst, arith}
use Rattle.std.specs.Prelude.{Option, codes, if◌then◌else◌, slice_get}
use Rattle.std.specs.List.{list_all}
use Rattle.std.specs.Option.{option_map}
use Rattle.ir_types.specs.Words.{is_inherent, operations}
use Rattle.op_registry.specs.Properties.{is_allowed, is_of_kind, property_kinds}
use Rattle.op_registry.specs.Properties as property_kind
use Rattle.ir_types.specs.declared.node.Sign.TheVariants.{Signless, Signed, Unsigned}
use Rattle.ir_types.specs.Terms.{TypeTerm}
use Rattle.ir_types.specs.Terms as term
use Rattle.dialects_int.specs.declared.operations.Rule.{Rule}
use Rattle.ir_types.specs.declared.bits.BitsKind.{BitsKind}
use Rattle.ir_types.specs.declared.bits.BitsKind.TheVariants as kind
use Rattle.ir_types.specs.Bits.{width_of, type_of}
use Rattle.dialects_int.specs.declared.operations.Arithmetic.{Arithmetic}
use Rattle.dialects_int.specs.declared.operations.Arithmetic.TheVariants as op
use Rattle.dialects_int.specs.declared.operations.Predicate.{Predicate}
use Rattle.dialects_int.specs.declared.operations.Predicate.TheVariants as asks
use Rattle.dialects_int.specs.declared.operations.Rule.TheVariants as rule
use Rattle.dialects_int.specs.Arithmetic.{value_of, comparison_of, truth, choice_of}
use Rattle.dialects_int.specs.Folds.{Known, rule_of, rules, is_property, fold_of, predicates, kind_of, with, fold_by}
use Rattle.dialects_int.proofs.KnowingMore.{knowing_more}
use Rattle.dialects_int.proofs.CastLaws.{signed_maximum_chosen, signed_minimum_chosen, maximum_chosen, minimum_chosen}
use Rattle.patterns_laws.specs.Words.{arithmetic, predicate_of_min_max}
use Rattle.patterns_laws.specs.Made.{Entries, i1, constant, predicate_entry, given_by, gives}
use Rattle.patterns_laws.specs.Keeps.{Each, truth_kind, Folding, Choosing, lowered, LoweringTwo, LoweringComparison, LoweringChoice, LoweringConstant}
use Rattle.patterns_laws.proofs.KnownFolds.{some_bits, below, fine_of, mapped_some, pair_gives, pair_gave, constant_gives, given_at}
use Rattle.patterns_laws.proofs.Chosen.{asks_of, compare_gives, select_gives, select_gave, select_fine}
use Rattle.std.proofs.lemmas.Option.{same_Some}

-- ---- `expand-min-max`
chosen : (name : List ℕ) (o : Arithmetic) (n : ℕ) (p : Predicate) → rule_of name ≡ Some (rule.Binary o) → list_all (is_property (codes "arith.cmpi")) (predicate_entry n) ≡ true → slice_get predicates n ≡ Some p
    → ((w a b : ℕ) → 1 ≤ w → a < 2 ^ w → b < 2 ^ w → value_of o w a b ≡ Some (choice_of (truth (comparison_of w p a b)) a b)) → Choosing (name, n)
chosen name o n p r fine there law k q a b v ha hb h =
    let w : ℕ = width_of k in
    let g = pair_gave name o q k a b v r (below k a ha) (below k b hb) h in
    let c : ℕ = truth (comparison_of w p a b) in
    given_at (given_by (codes "arith.cmpi") (predicate_entry n) i1 ((k, a) ∷ (k, b) ∷ [])) (truth_kind, c) (λ c. given_by (codes "arith.select") [] (type_of k) (c ∷ (k, a) ∷ (k, b) ∷ [])) (Some v)
    (compare_gives n p k a b fine there)
    (select_gives [] k c a b refl ∙ ap Some (ap (λ m. (k, m)) (same_Some (choice_of c a b) g.number (sym (law w a b (some_bits k a ha) (below k a ha) (below k b hb)) ∙ g.is)) ∙ g.whole))

pub all_chosen : Each Choosing predicate_of_min_max
unfolding rule_of rules predicate_of_min_max predicates is_inherent operations is_allowed is_of_kind property_kind.kind_of property_kinds
all_chosen = (
  chosen (codes "arith.maxsi") op.MaximumSigned 4 asks.SignedGreater refl refl refl (λ w a b s la lb. ap Some (signed_maximum_chosen w a b s la lb)),
  (
    chosen (codes "arith.maxui") op.MaximumUnsigned 8 asks.UnsignedGreater refl refl refl (λ w a b s la lb. ap Some (maximum_chosen w a b)),
    (
      chosen (codes "arith.minsi") op.MinimumSigned 2 asks.SignedLess refl refl refl (λ w a b s la lb. ap Some (signed_minimum_chosen w a b s la lb)),
      (chosen (codes "arith.minui") op.MinimumUnsigned 6 asks.UnsignedLess refl refl refl (λ w a b s la lb. ap Some (minimum_chosen w a b)), tt),
    ),
  ),
)

-- ---- `fold-to-constant`
type_back : (ty : TypeTerm) (k : BitsKind) → kind_of ty ≡ Some k → type_of k ≡ ty
type_back (term.Integer Signless w) k h = ap type_of (sym (same_Some (kind.Int w) k h))
type_back (term.Integer Signed w) k h = absurd (grind arith)
type_back (term.Integer Unsigned w) k h = absurd (grind arith)
type_back term.Index k h = ap type_of (sym (same_Some kind.Index k h))
type_back (term.Function is os) k h = absurd (grind arith)
type_back (term.Memref ds e) k h = absurd (grind arith)
type_back (term.OpaqueType s) k h = absurd (grind arith)

kind_first : (r : Option Rule) (x : Option BitsKind) (f : Rule → BitsKind → Option ℕ) (c : Known) → with (λ r. with (λ k. option_map (λ bits. (k, bits)) (f r k)) x) r ≡ Some c → x ≡ Some c.0
kind_first None x f c h = absurd (grind arith)
kind_first (Some r) None f c h = absurd (grind arith)
kind_first (Some r) (Some k) f c h = let by = mapped_some k (f r k) c h in ap (λ (z : Known). Some z.0) by.2

kind_of_fold : (name : List ℕ) (p : Entries) (operands : List (Option Known)) (ty : TypeTerm) (c : Known) → fold_of name p operands (ty ∷ []) ≡ Some c → kind_of ty ≡ Some c.0
unfolding fold_of
kind_of_fold name p operands ty c = by (list_all (is_property name) p)
  where
    by : (t : Bool) → (if t then with (λ r. with (λ k. option_map (λ bits. (k, bits)) (fold_by r p k operands)) (kind_of ty)) (rule_of name) else None) ≡ Some c → kind_of ty ≡ Some c.0
    by true h = kind_first (rule_of name) (kind_of ty) (λ r k. fold_by r p k operands) c h
    by false h = absurd (grind arith)

pub folded : Folding
folded name p ty some values c v more e h =
    let same : Some c ≡ Some v = sym (knowing_more name p some (map Some values) (ty ∷ []) c more e) ∙ h in
    let back : type_of c.0 ≡ ty = type_back ty c.0 (kind_of_fold name p some ty c e) in
    subst (λ t. gives (constant t c.1) [] ≡ Some v) back (constant_gives c.0 c.1 ∙ same)

-- ---- `lower-index`
lowered_two : (name : List ℕ) (o : Arithmetic) → rule_of name ≡ Some (rule.Binary o) → LoweringTwo name
lowered_two name o r p a b v ha hb h =
    let g = pair_gave name o p kind.Index a b v r (below kind.Index a ha) (below kind.Index b hb) h in
    pair_gives name o p (kind.Int 64) a b g.number r g.fine (below kind.Index a ha) (below kind.Index b hb) g.is ∙ ap (λ z. Some (lowered z)) g.whole

pub all_lowered_two : Each LoweringTwo arithmetic
unfolding rule_of rules arithmetic
all_lowered_two = (
  lowered_two (codes "arith.addi") op.Add refl,
  (
    lowered_two (codes "arith.subi") op.Subtract refl,
    (
      lowered_two (codes "arith.muli") op.Multiply refl,
      (
        lowered_two (codes "arith.shli") op.ShiftLeft refl,
        (
          lowered_two (codes "arith.divsi") op.DivideSigned refl,
          (
            lowered_two (codes "arith.divui") op.DivideUnsigned refl,
            (
              lowered_two (codes "arith.remsi") op.RemainderSigned refl,
              (
                lowered_two (codes "arith.remui") op.RemainderUnsigned refl,
                (
                  lowered_two (codes "arith.andi") op.And refl,
                  (
                    lowered_two (codes "arith.ori") op.Or refl,
                    (
                      lowered_two (codes "arith.xori") op.ExclusiveOr refl,
                      (
                        lowered_two (codes "arith.shrsi") op.ShiftRightSigned refl,
                        (
                          lowered_two (codes "arith.shrui") op.ShiftRightUnsigned refl,
                          (
                            lowered_two (codes "arith.maxsi") op.MaximumSigned refl,
                            (
                              lowered_two (codes "arith.maxui") op.MaximumUnsigned refl,
                              (
                                lowered_two (codes "arith.minsi") op.MinimumSigned refl,
                                (lowered_two (codes "arith.minui") op.MinimumUnsigned refl, tt),
                              ),
                            ),
                          ),
                        ),
                      ),
                    ),
                  ),
                ),
              ),
            ),
          ),
        ),
      ),
    ),
  ),
)

compared_at : (n : ℕ) (a b : ℕ) (v : Known) → given_by (codes "arith.cmpi") (predicate_entry n) i1 ((kind.Index, a) ∷ (kind.Index, b) ∷ []) ≡ Some v → list_all (is_property (codes "arith.cmpi")) (predicate_entry n) ≡ true
compared_at n a b v h = fine_of (codes "arith.cmpi") (predicate_entry n) (Some (kind.Index, a) ∷ Some (kind.Index, b) ∷ []) i1 v h

pub comparison_lowered : LoweringComparison
comparison_lowered n a b v h =
    let fine = compared_at n a b v h in
    let g = asks_of n fine in
    compare_gives n g.what (kind.Int 64) a b fine g.there ∙ sym (compare_gives n g.what kind.Index a b fine g.there) ∙ h

pub choice_lowered : LoweringChoice
choice_lowered p c a b v h =
    select_gives p (kind.Int 64) c a b (select_fine p kind.Index c a b v h) ∙ ap (λ z. Some (lowered z)) (select_gave p kind.Index c a b v h)

pub constant_lowered : LoweringConstant
constant_lowered n v h = constant_gives (kind.Int 64) n ∙ ap (λ z. Some (lowered z)) (same_Some (kind.Index, n) v (sym (constant_gives kind.Index n) ∙ h))
