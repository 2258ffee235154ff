-- Refined outcomes, and the premises for an operation to be monotone in them.
use Rattle.std.specs.Prelude.{◌≡◌, ◌<◌, ℕ, ◌==◌, nat_lt, List, [], ◌∷◌, map, Bool, true, false, ◌&&◌, Option, Some, None, is_some}
use Rattle.ir_types.specs.declared.bits.BitsKind.{BitsKind}
use Rattle.ir_types.specs.declared.bits.BitsKind.TheVariants as kind
use Rattle.ir_types.specs.Bits.{is_bits, width_of}
use Rattle.ir_types.specs.Reasons.{is_width}
use Rattle.ir_tree.specs.declared.value.Value.{Value}
use Rattle.ir_tree.specs.declared.value.Value.TheVariants.{Arg, Result}
use Rattle.ir_tree.specs.Tree.{head}
use Rattle.ir_tree.specs.Ids.{HasDistinctIds, find}
use Rattle.ir_tree.specs.Meaning.{Operation}
use Rattle.ir_tree_laws.specs.Values.{type_of_value}
use Rattle.dialects_int.specs.declared.operations.Arithmetic.TheVariants as op
use Rattle.dialects_int.specs.declared.operations.Cast.{Cast}
use Rattle.dialects_int.specs.declared.operations.Cast.TheVariants as cast
use Rattle.dialects_int.specs.declared.operations.Rule.{Rule}
use Rattle.dialects_int.specs.declared.operations.Rule.TheVariants as rule
use Rattle.dialects_int.specs.Arithmetic.{all_ones}
use Rattle.dialects_int.specs.Folds.{Known, fold_of, kind_of, rule_of, same_kind}
use Rattle.user_patterns_check.specs.Checks.{refines}
use Rattle.user_patterns_check.specs.Outcomes.{Outcome, given}
use Rattle.user_patterns_data.specs.Matching.{Header}
use Rattle.patterns_refinement.specs.Meaning.{AreOfTypes, Assignment, Each, FitsAll, breaks_flags, is_arithmetic, makes, owner, result_kind}

-- outcomes are equal, or the old ones were poison, at the values of operations with ids below n
abbrev pub Better : ℕ → Assignment → Assignment → Type 0
Better n a c = (v : Value) → owner v < n → refines (a v) (c v) ≡ true

-- the same for the outcomes of operands, one by one
abbrev pub AllBetter : List Outcome → List Outcome → Type 0
AllBetter [] [] = Unit {0}
AllBetter [] (y ∷ ys) = ⊥
AllBetter (x ∷ xs) [] = ⊥
AllBetter (x ∷ xs) (y ∷ ys) = (refines x y ≡ true) × AllBetter xs ys

-- ---- the kinds that operations need
abbrev pub kind_in : Operation → Value → Option BitsKind
kind_in t v = given (type_of_value v t) kind_of

abbrev pub is_kind : BitsKind → Option BitsKind → Bool
is_kind k None = false
is_kind k (Some j) = same_kind j k

-- a truncation is to fewer bits
abbrev pub narrows : Cast → Option BitsKind → BitsKind → Bool
narrows c None k = false
narrows cast.Truncate (Some j) k = nat_lt (width_of k) (width_of j)
narrows cast.ExtendSigned (Some j) k = true
narrows cast.ExtendUnsigned (Some j) k = true

-- two operands of one kind, for a result of i1
abbrev pub compares : BitsKind → Option BitsKind → Option BitsKind → Bool
compares k None j = false
compares k (Some i) j = is_kind i j && same_kind (kind.Int 1) k

abbrev pub are_its_bits : Option Known → Bool
are_its_bits None = true
are_its_bits (Some x) = is_bits x.0 x.1

-- the rule accepts operands of these kinds, for a result of a kind; a constant has no operands, and a number of its
-- kind
abbrev pub takes : Rule → Header → BitsKind → List (Option BitsKind) → Bool
takes rule.Constant h k js = are_its_bits (fold_of h.name h.properties [] h.results)
takes (rule.Binary o) h k (i ∷ j ∷ []) = is_kind k i && is_kind k j
takes (rule.Binary o) h k _ = false
takes rule.Compare h k (i ∷ j ∷ []) = compares k i j
takes rule.Compare h k _ = false
takes rule.Select h k (c ∷ i ∷ j ∷ []) = is_kind (kind.Int 1) c && (is_kind k i && is_kind k j)
takes rule.Select h k _ = false
takes (rule.IntegerCast c) h k (j ∷ []) = narrows c j k
takes (rule.IntegerCast c) h k _ = false
takes (rule.IndexCast c) h k (j ∷ []) = narrows c j k
takes (rule.IndexCast c) h k _ = false

-- An arithmetic operation whose result has a kind has operands of the kinds that it needs, and a valid width. An
-- operation whose result has no kind, such as f32 or a vector, isn't arithmetic here and has no such premise.
abbrev pub takes_its : Option Rule → Option BitsKind → Header → List (Option BitsKind) → Bool
takes_its None k h js = true
takes_its (Some rule.Constant) None h js = true
takes_its (Some (rule.Binary o)) None h js = true
takes_its (Some rule.Compare) None h js = true
takes_its (Some rule.Select) None h js = true
takes_its (Some (rule.IntegerCast c)) None h js = true
takes_its (Some (rule.IndexCast c)) None h js = true
takes_its (Some r) (Some k) h js = is_width (width_of k) && takes r h k js

abbrev pub is_kinded : Operation → Header → Bool
is_kinded t h = takes_its (rule_of h.name) (result_kind h) h (map (kind_in t) h.operands)

-- all operations of a tree have operands of the kinds that they need
abbrev pub AreKinded : Operation → Type 0
AreKinded t = Each (λ h. is_kinded t h ≡ true) t

-- an operation whose result has no kind satisfies the premise
abbrev pub OthersAreKinded : Type 0
OthersAreKinded = (t : Operation) (h : Header) → result_kind h ≡ None → is_kinded t h ≡ true

-- ---- signed division of poison
-- A signed division of poison by -1. The division of the least value by -1 is undefined, so the division of poison
-- may be anything. The model makes it poison; with a known dividend it may be undefined.
abbrev pub is_poison_by_ones : List Outcome → Bool
is_poison_by_ones (None ∷ Some y ∷ []) = y.1 == all_ones (width_of y.0)
is_poison_by_ones _ = false

abbrev pub is_signed_quotient : Option Rule → Bool
is_signed_quotient (Some (rule.Binary op.DivideSigned)) = true
is_signed_quotient _ = false

abbrev pub may_overflow : Header → List Outcome → Bool
may_overflow h xs = is_signed_quotient (rule_of h.name) && is_poison_by_ones xs

-- no executed arithmetic operation is such a division
abbrev pub IsSure : Assignment → (ℕ → Bool) → Header → Type 0
IsSure a done h = done h.id ≡ true → is_arithmetic h ≡ true → may_overflow h (map a h.operands) ≡ false

abbrev pub AllSure : Assignment → (ℕ → Bool) → Operation → Type 0
AllSure a done t = Each (IsSure a done) t

-- ---- the laws of one operation and of a tree
-- known outcomes have these kinds
abbrev pub AreOf : List (Option BitsKind) → List Outcome → Type 0
AreOf [] ys = Unit {0}
AreOf (j ∷ js) [] = Unit {0}
AreOf (j ∷ js) (y ∷ ys) = ((k : BitsKind) (x : Known) → j ≡ Some k → y ≡ Some x → x.0 ≡ k) × AreOf js ys

-- the operation is defined for the refined operands, and its result refines x
pub record GivesNoLess (h : Header) (x : Outcome) (ys : List Outcome) : Type 0 where
  pub outcome : Outcome
  pub is_made : makes h ys ≡ Some outcome
  pub better : refines x outcome ≡ true

abbrev pub Monotone : Type 0
Monotone =
    (h : Header) (js : List (Option BitsKind)) (xs ys : List Outcome) (x : Outcome)
    → takes_its (rule_of h.name) (result_kind h) h js ≡ true → AreOf js ys → may_overflow h xs ≡ false → AllBetter xs ys
    → makes h xs ≡ Some x → GivesNoLess h x ys

-- the operation computes its outcome or a refinement; if its outcome is known, its operands don't break its flags
abbrev pub KeepsFlags : Header → Outcome → List Outcome → Type 0
KeepsFlags h x ys = is_some x ≡ true → breaks_flags h ys ≡ false

abbrev pub GivesLess : Assignment → (ℕ → Bool) → Header → Type 0
GivesLess a done h =
    done h.id ≡ true → is_arithmetic h ≡ true → GivesNoLess h (a (Result h.id 0)) (map a h.operands) × KeepsFlags h (a (Result h.id 0)) (map a h.operands)

-- whether an executed arithmetic operation computes the value
abbrev pub is_arithmetic_there : Option Operation → Bool
is_arithmetic_there None = false
is_arithmetic_there (Some o) = is_arithmetic (head o)

abbrev pub gives : (ℕ → Bool) → Operation → Value → Bool
gives done t (Result x k) = done x && is_arithmetic_there (find x t)
gives done t (Arg x r k) = false

-- refined outcomes that fit a tree; values that no executed arithmetic operation computes are unchanged
pub record Settled (a : Assignment) (done : ℕ → Bool) (t : Operation) : Type 0 where
  pub now : Assignment
  pub better : (v : Value) → refines (a v) (now v) ≡ true
  pub stays : (v : Value) → gives done t v ≡ false → now v ≡ a v
  pub fits : FitsAll now done t
  pub typed : AreOfTypes now t
  pub sure : AllSure now done t

-- if each operation of a tree computes its outcome or a refinement, there are refined outcomes that fit the tree:
-- poison values are recomputed along their uses
abbrev pub Settles : Type 0
Settles =
    (a : Assignment) (done : ℕ → Bool) (t : Operation)
    → HasDistinctIds t → AreKinded t → AreOfTypes a t → AllSure a done t → Each (GivesLess a done) t → Settled a done t
