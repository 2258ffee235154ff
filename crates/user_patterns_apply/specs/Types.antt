-- The types bound to the types of a pattern, in a context.
use Rattle.std.specs.Prelude.{List, Bool, false, map, Option, Some, None, option_map, IfSome}
use Rattle.std.specs.List.{All}
use Rattle.ir_event.specs.types.declared.bits.BitsKind.{BitsKind}
use Rattle.ir_event.specs.types.Bits.{type_of}
use Rattle.ir_event.specs.types.Things.{ContextModel, IsType}
use Rattle.ir_event.specs.types.Terms.{TypeTerm, type_term}
use Rattle.dialects_int.specs.Folds.{same_kind}
use Rattle.ir_event.specs.trees.declared.value.Value.{Value}
use Rattle.ir_event.specs.trees.Meaning.{Operation}
use Rattle.user_patterns_check.specs.Outcomes.{given}
use Rattle.user_patterns_data.specs.Matching.{Header, BoundValues, types_at}
use Rattle.user_patterns_data.specs.Planning.{old_place}
use Rattle.user_patterns_data.specs.Shapes.{PatternModel}
use Rattle.user_patterns_data.specs.declared.pattern.PatternOp.{PatternOp}
use Rattle.user_patterns_data.specs.declared.pattern.PatternType.{PatternType}
use Rattle.user_patterns_data.specs.declared.pattern.PatternType.TheVariants as kind
use Rattle.user_patterns_apply.specs.declared.types.BoundType.{BoundType}
use Rattle.user_patterns_apply.specs.declared.types.BoundType.TheVariants as bound

-- the type that a bound type represents, and the types of a list
abbrev pub type_in : ContextModel → BoundType → TypeTerm
type_in c (bound.Matched n) = type_term c n
type_in c (bound.Concrete k) = type_of k

abbrev pub types_in : ContextModel → List (Option BoundType) → BoundValues TypeTerm
types_in c ts = map (option_map (type_in c)) ts

-- the type's number is in the context, and so are the numbers of a list
abbrev pub TypeIsOf : ContextModel → BoundType → Type 0
TypeIsOf c (bound.Matched n) = IsType c n
TypeIsOf c (bound.Concrete k) = Unit {0}

abbrev pub AreTypesOf : ContextModel → List (Option BoundType) → Type 0
AreTypesOf c ts = All (λ t. IfSome t (TypeIsOf c)) ts

-- the types that the pattern names
abbrev pub written_of : PatternType → Option BoundType
written_of (kind.Concrete k) = Some (bound.Concrete k)
written_of (kind.Variable v) = None

-- whether there is a kind, and it is k
abbrev pub is_kind : BitsKind → Option BitsKind → Bool
is_kind k None = false
is_kind k (Some own) = same_kind k own

-- the types of the matched values, added to the types that the pattern names
abbrev pub typed_over : Operation → (Header → Bool) → PatternModel → BoundValues Value → BoundValues TypeTerm
    → Option (BoundValues TypeTerm)
typed_over t verified p b ts =
    given (types_at t verified 0 p.values b ts) (types_at t verified (old_place p) (map PatternOp.ty p.old) b)
