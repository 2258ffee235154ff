-- How a match is tried: first with all defining operations, and then the matched ones are verified.
use Rattle.std.specs.Prelude.{ℕ, List, [], Bool, true, false, Option, Some, None, is_some, eqb, if◌then◌else◌}
use Rattle.std.specs.List.{list_all, list_any}
use Rattle.ir_event.specs.trees.declared.value.Value.{Value}
use Rattle.ir_event.specs.trees.declared.value.Value.TheVariants.{Result, Arg}
use Rattle.ir_event.specs.trees.Uses.{same_value}
use Rattle.ir_event.specs.trees.Meaning.{Operation}
use Rattle.patterns_base.specs.Looks.{is_constant}
use Rattle.user_patterns_check.specs.Outcomes.{given}
use Rattle.user_patterns_data.specs.Matching.{Header, BoundValues, bound, defining_op_head, nothing, ops_match, placed, binding_at}
use Rattle.user_patterns_check.specs.Outcomes.{Outcome}
use Rattle.user_patterns_data.specs.Planning.{known_at, old_place, places}
use Rattle.user_patterns_data.specs.Shapes.{PatternModel}
use Rattle.user_patterns_data.specs.declared.pattern.PatternOp.{PatternOp}
use Rattle.ir_event.specs.types.WordNames.{word_bytes}
use Rattle.ir_event.specs.types.declared.word.Word.{Word}

-- every operation counts as verified
abbrev pub any : Header → Bool
any h = true

-- the name of a word, if there is a word
abbrev pub name_by : Option Word → List ℕ
name_by None = []
name_by (Some word) = word_bytes word

-- the values that a match at operation x binds
abbrev pub matched : Operation → (Header → Bool) → PatternModel → ℕ → Option (BoundValues Value)
matched t verified p x =
    given (bound same_value p.root (Result x 0) (nothing (places p)))
    (λ b. ops_match t verified (placed (old_place p) p.old) b)

-- whether a value is the first result of an operation
abbrev pub is_first : Value → Bool
is_first (Result x k) = eqb k 0
is_first (Arg x r k) = false

-- whether a verified operation defines the value at a place
abbrev pub is_verified_value : Operation → (Header → Bool) → Option Value → Bool
is_verified_value t verified None = false
is_verified_value t verified (Some v) = is_some (defining_op_head t verified v)

abbrev pub all_verified : Operation → (Header → Bool) → BoundValues Value → List (ℕ × PatternOp) → Bool
all_verified t verified b ps = list_all (λ (p : ℕ × PatternOp). is_verified_value t verified (binding_at p.0 b)) ps

-- whether a constant defines the value at a place, verified or not
abbrev pub is_constant_value : Operation → Option Value → Bool
is_constant_value t None = false
is_constant_value t (Some v) = is_constant t v

-- the known number of the value at a place, if the pattern has a constant there
abbrev pub outcome_at : Operation → (Header → Bool) → ℕ → PatternModel → BoundValues Value → ℕ → Outcome
outcome_at t verified n p b k = if list_any (eqb k) p.constants then known_at t verified n p b k else None
