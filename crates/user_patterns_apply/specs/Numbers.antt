-- The numbers of a pattern at an operation.
use Rattle.std.specs.Prelude.{ℕ, List, [], map, take, Bool, Option, Some, None}
use Rattle.ir_event.specs.types.declared.bits.BitsKind.{BitsKind}
use Rattle.ir_event.specs.types.Terms.{TypeTerm}
use Rattle.ir_event.specs.trees.declared.value.Value.{Value}
use Rattle.ir_event.specs.trees.declared.value.Value.TheVariants.{Result, Arg}
use Rattle.ir_event.specs.trees.Ids.{find}
use Rattle.ir_event.specs.trees.Meaning.{Operation}
use Rattle.ir_event.specs.trees.Tree.{head}
use Rattle.ir_event.specs.tree_laws.Values.{type_of_value}
use Rattle.ir_event.specs.Modules.{Module}
use Rattle.dialects_int.specs.Folds.{kind_of}
use Rattle.patterns_base.specs.Looks.{is_verified, known, predicate}
use Rattle.user_patterns_check.specs.Contents.{Content}
use Rattle.user_patterns_check.specs.Outcomes.{Outcome, given, run}
use Rattle.user_patterns_data.specs.Fitting.{content_with}
use Rattle.user_patterns_data.specs.Matching.{BoundValues, Header}
use Rattle.user_patterns_data.specs.Planning.{bound_type, outcomes, typed}
use Rattle.user_patterns_data.specs.Shapes.{PatternModel}
use Rattle.user_patterns_apply.specs.Matched.{any, matched}

abbrev pub or_empty : Option (List Outcome) → List Outcome
or_empty None = []
or_empty (Some env) = env

-- the numbers of the pattern's variables and then the first `most` computed ones, if the pattern ops match at operation
-- x, their types agree, and these numbers are defined
abbrev pub numbers_at : Operation → (Header → Bool) → ℕ → PatternModel → ℕ → ℕ → List Outcome
numbers_at t verified n p x most = or_empty (given (matched t any p x) (λ b. given (typed t verified n p b) (λ ts.
    run (take most (Content.given (content_with (map bound_type ts) p))) (outcomes t verified n p 0 p.values b))))

-- the same, given the values and the types that a match bound
abbrev pub numbers_given : Operation → (Header → Bool) → ℕ → PatternModel → ℕ → BoundValues Value → BoundValues TypeTerm → List Outcome
numbers_given t verified n p most b ts = or_empty (run (take most (Content.given (content_with (map bound_type ts) p))) (outcomes t verified n p 0 p.values b))

-- the same in a module
abbrev pub numbers_in : Module → PatternModel → ℕ → ℕ → List Outcome
numbers_in m p x most = numbers_at m.tree (is_verified m.tree) m.next p x most

-- the number of a value, if a verified constant defines the value
abbrev pub found_number : Operation → Value → Outcome
found_number t v = known t v

-- the predicate of the operation that defines a value
abbrev pub predicate_at : Operation → Option Value → Option ℕ
predicate_at t None = None
predicate_at t (Some (Arg x r k)) = None
predicate_at t (Some (Result x k)) = given (find x t) (λ o. predicate (head o))

-- the kind of a value's type, if that is a signless integer type or index
abbrev pub kind_at : Operation → Value → Option BitsKind
kind_at t v = given (type_of_value v t) kind_of
