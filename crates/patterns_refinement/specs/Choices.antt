-- A `select` by an integer or `index` of values that are neither, such as memrefs and tensors: a choice. Such values
-- have no outcome. Each of them represents a value, or nothing. If a choice is executed and its condition is known, its
-- result may represent what the chosen operand represents. Otherwise it represents nothing.
use Rattle.std.specs.Prelude.{◌≡◌, ◌<◌, ◌≤◌, ℕ, List, [], ◌∷◌, map, Bool, true, false, ◌&&◌, not, Option, Some, None, is_some}
use Rattle.ir_types.specs.declared.bits.BitsKind.{BitsKind}
use Rattle.ir_types.specs.Words.{is_isolated}
use Rattle.ir_tree.specs.declared.value.Value.{Value}
use Rattle.ir_tree.specs.declared.value.Value.TheVariants.{Arg, Result}
use Rattle.ir_tree.specs.Tree.{head}
use Rattle.ir_tree.specs.Ids.{find}
use Rattle.ir_tree.specs.WellFormed.{IsWellFormed}
use Rattle.ir_tree.specs.Meaning.{Operation}
use Rattle.ir_event.specs.Modules.{Module}
use Rattle.dialects_int.specs.declared.operations.Rule.{Rule}
use Rattle.dialects_int.specs.declared.operations.Rule.TheVariants as rule
use Rattle.dialects_int.specs.Arithmetic.{choice_of}
use Rattle.dialects_int.specs.Folds.{Known, rule_of}
use Rattle.user_patterns_data.specs.Matching.{Header}
use Rattle.patterns_refinement.specs.Meaning.{Assignment, Each, owner, result_kind}
use Rattle.patterns_refinement.specs.Better.{gives, kind_in}

-- ---- choices
abbrev pub is_select : Option Rule → Bool
is_select None = false
is_select (Some rule.Constant) = false
is_select (Some (rule.Binary o)) = false
is_select (Some rule.Compare) = false
is_select (Some rule.Select) = true
is_select (Some (rule.IntegerCast c)) = false
is_select (Some (rule.IndexCast c)) = false

-- Returns whether the first operand has a kind.
abbrev pub has_condition : List (Option BitsKind) → Bool
has_condition [] = false
has_condition (c ∷ js) = is_some c

-- Returns whether an operation of a tree is a choice. A `select` by a tensor or a vector of i1 isn't one.
abbrev pub is_choice : Operation → Header → Bool
is_choice t h = is_select (rule_of h.name) && (not (is_some (result_kind h)) && has_condition (map (kind_in t) h.operands))

abbrev pub is_choice_there : Operation → Option Operation → Bool
is_choice_there t None = false
is_choice_there t (Some o) = is_choice t (head o)

-- Returns whether a choice gives the value.
abbrev pub is_chosen : Operation → Value → Bool
is_chosen t (Result x k) = is_choice_there t (find x t)
is_chosen t (Arg x r k) = false

-- ---- what values represent
-- what each value represents: a value, or nothing
abbrev pub Origins : Type 0
Origins = Value → Option Value

-- the condition is known, and the chosen operand represents y
abbrev pub Chosen : Assignment → Origins → Value → List Value → Type 0
Chosen a o y (c ∷ u ∷ v ∷ []) = (k : Known) × (a c ≡ Some k) × (o (choice_of k.1 u v) ≡ Some y)
Chosen a o y [] = Unit {0}
Chosen a o y (c ∷ []) = Unit {0}
Chosen a o y (c ∷ u ∷ []) = Unit {0}
Chosen a o y (c ∷ u ∷ v ∷ w ∷ vs) = Unit {0}

-- if the result of a choice represents y, the choice is executed, its condition is known, and the chosen operand
-- represents y
abbrev pub Chooses : Assignment → Origins → (ℕ → Bool) → Operation → Header → Type 0
Chooses a o done t h = is_choice t h ≡ true → (y : Value) → o (Result h.id 0) ≡ Some y → (done h.id ≡ true) × Chosen a o y h.operands

-- Origins of the values of a tree with ids below n, given outcomes and the executed operations. A value that an
-- arithmetic operation computes is seen by its outcome, and represents nothing.
pub record AreOrigins (n : ℕ) (a : Assignment) (o : Origins) (done : ℕ → Bool) (t : Operation) : Type 0 where
  pub chosen : Each (Chooses a o done t) t
  pub computed : (v : Value) → gives (λ x. true) t v ≡ true → o v ≡ None
  pub unused : (v : Value) → n ≤ owner v → o v ≡ None

-- ---- operands that represent the same
-- The new value represents what the old value represented, or the old value represented nothing.
abbrev pub IsStill : Option Value → Option Value → Type 0
IsStill None w = Unit {0}
IsStill (Some v) w = w ≡ Some v

-- the same for operands, one by one
abbrev pub AllStill : Origins → List Value → List Value → Type 0
AllStill o [] [] = Unit {0}
AllStill o [] (w ∷ ws) = ⊥
AllStill o (v ∷ vs) [] = ⊥
AllStill o (v ∷ vs) (w ∷ ws) = IsStill (o v) (o w) × AllStill o vs ws

-- In a well-formed module, each value may represent itself, unless an arithmetic operation or a choice gives it.
abbrev pub MayStandForThemselves : Type 0
MayStandForThemselves =
    (m : Module) → IsWellFormed is_isolated m → (a : Assignment) (done : ℕ → Bool)
    → (o : Origins) × AreOrigins m.next a o done m.tree
    × ((v : Value) → owner v < m.next → gives (λ x. true) m.tree v ≡ false → is_chosen m.tree v ≡ false → o v ≡ Some v)
