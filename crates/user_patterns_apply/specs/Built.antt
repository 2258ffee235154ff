-- The operations of a rewrite plan, in a context whose next free id is n.
use Rattle.std.specs.Prelude.{◌≡◌, ℕ, ◌+◌, List, [], ◌∷◌, ◌++◌, map, length, Bool, true, false}
use Rattle.std.specs.Prelude.{Option, Some, None, option_map}
use Rattle.std.specs.List.{All}
use Rattle.ir_event.specs.types.Things.{ContextModel}
use Rattle.ir_event.specs.types.WordNames.{word_bytes}
use Rattle.ir_event.specs.trees.declared.value.Value.{Value}
use Rattle.ir_event.specs.trees.declared.value.Value.TheVariants.{Result}
use Rattle.ir_event.specs.trees.Meaning.{Operation}
use Rattle.patterns_base.specs.Made.{Entries, flags, made, predicate_entry, value_entry}
use Rattle.ir_event.specs.types.Terms.{TypeTerm}
use Rattle.user_patterns_check.specs.Outcomes.{Outcome, given}
use Rattle.user_patterns_data.specs.declared.pattern.NewValue.{NewValue}
use Rattle.user_patterns_data.specs.Matching.{BoundValues, binding_at, when}
use Rattle.user_patterns_data.specs.Matching as matching
use Rattle.user_patterns_data.specs.Planning.{Plan, all_made, and_more, planned}
use Rattle.user_patterns_data.specs.Names.{predicate_number}
use Rattle.user_patterns_data.specs.Shapes.{PatternModel}
use Rattle.user_patterns_data.specs.declared.pattern.Expression.{Expression}
use Rattle.user_patterns_data.specs.declared.pattern.Expression.TheVariants as form
use Rattle.user_patterns_build.specs.CanBuild.{can_build}
use Rattle.user_patterns_apply.specs.Types.{TypeIsOf, type_in}
use Rattle.user_patterns_apply.specs.declared.rewrite_plan.Operand.{Operand}
use Rattle.user_patterns_apply.specs.declared.rewrite_plan.Operand.TheVariants as operand
use Rattle.user_patterns_apply.specs.declared.rewrite_plan.Property.{Property}
use Rattle.user_patterns_apply.specs.declared.rewrite_plan.Property.TheVariants as property
use Rattle.user_patterns_apply.specs.declared.rewrite_plan.NewOp.{NewOp}
use Rattle.user_patterns_apply.specs.declared.rewrite_plan.BuildPlan.{BuildPlan}

-- the value of an operand, and the values of all places
abbrev pub operand_in : ℕ → Operand → Value
operand_in n (operand.Existing v) = v
operand_in n (operand.New i) = Result (n + i) 0

abbrev pub operands_in : ℕ → List (Option Operand) → BoundValues Value
operands_in n os = map (option_map (operand_in n)) os

-- the new operation with its properties
abbrev pub entries_in : ContextModel → NewOp → Property → Entries
entries_in c m property.Flags = flags (word_bytes m.word)
entries_in c m (property.Predicate p) = predicate_entry p
entries_in c m (property.Bits bits) = value_entry (type_in c m.ty) bits

abbrev pub made_in : ContextModel → ℕ → NewOp → Operation
made_in c n m =
    made (word_bytes m.word) (map (operand_in n) m.operands.items) (type_in c m.ty) (entries_in c m m.property)

-- the new operations, and the value that replaces the result
abbrev pub plan_in : ContextModel → ℕ → BuildPlan → Plan
plan_in c n p = (map (made_in c n) p.made.items, operand_in n p.result)

-- the types of the new operations are in the context
abbrev pub AreMadeOf : ContextModel → List NewOp → Type 0
AreMadeOf c ms = All (λ (m : NewOp). TypeIsOf c m.ty) ms

abbrev pub BuiltIsOf : ContextModel → BuildPlan → Type 0
BuiltIsOf c p = AreMadeOf c p.made.items

-- the rewrite plan of a pattern at operation x, if the pattern can be built
abbrev pub plan_of : Operation → (matching.Header → Bool) → ℕ → PatternModel → ℕ → Option Plan
plan_of t verified n p x = when (can_build p) (planned t verified n p x)

-- if a pattern can be built, that is every planned rewrite
abbrev pub IsPlanned : Type 0
IsPlanned =
    (t : Operation) (verified : matching.Header → Bool) (n : ℕ) (p : PatternModel) (x : ℕ) → can_build p ≡ true
    → plan_of t verified n p x ≡ planned t verified n p x

-- the new operations, and the values bound after them
abbrev pub AllMade : Type 0
AllMade = List Operation × BoundValues Value

-- the code made all new operations and bound their results, or returned `None` because something is unbound
abbrev pub AreAllMade : ContextModel → ℕ → Option AllMade → Option (List NewOp) → List (Option Operand) → Type 0
AreAllMade c n all None operands = all ≡ None
AreAllMade c n all (Some made) operands = all ≡ Some (map (made_in c n) made, operands_in n operands)

-- the properties of an operation that isn't a constant
abbrev pub property_for : Expression → Property
property_for (form.Compare p i j) = property.Predicate (predicate_number p)
property_for _ = property.Flags

-- existing values as operands, and the operands bound at places
abbrev pub as_operands : BoundValues Value → List (Option Operand)
as_operands vs = map (option_map operand.Existing) vs

abbrev pub operands_at : List ℕ → List (Option Operand) → Option (List Operand)
operands_at [] os = Some []
operands_at (k ∷ ks) os = given (binding_at k os) (λ o. and_more o (operands_at ks os))

-- a list prepended to another list, if there is one
abbrev pub with_more : {X : Type 0} → List X → Option (List X) → Option (List X)
with_more xs None = None
with_more xs (Some ys) = Some (xs ++ ys)

-- operations prepended to the other new operations
abbrev pub trailing : List Operation → Option AllMade → Option AllMade
trailing os None = None
trailing os (Some r) = Some (os ++ r.0, r.1)

-- the operations made after `made`, starting at a place
abbrev pub made_after : ContextModel → ℕ → BoundValues TypeTerm → List Outcome → ℕ → List NewValue → List NewOp
    → List (Option Operand) → Option AllMade
made_after c n ts env k ws made os =
    trailing (map (made_in c n) made) (all_made ts env (n + length made) k ws (operands_in n os))

-- the step made one more operation, or failed because something that the operation needs is unbound
abbrev pub IsMadeNext : Bool → Option AllMade → Option AllMade → Type 0
IsMadeNext true old new = new ≡ old
IsMadeNext false old new = old ≡ None
