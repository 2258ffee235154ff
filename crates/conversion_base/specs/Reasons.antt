-- The reason why a rule doesn't apply at an operation: the first of its conditions that doesn't hold.
use Rattle.std.specs.Prelude.{◌≡◌, ℕ, List, [], ◌∷◌, Bool, false, is_none, is_some, Option, Some, None}
use Rattle.ir_event.specs.trees.declared.place.Place.{Place}
use Rattle.ir_event.specs.trees.Ids.{find}
use Rattle.ir_event.specs.trees.Meaning.{Operation}
use Rattle.ir_event.specs.trees.Tree.{head}
use Rattle.ir_event.specs.tree_laws.Members.{In}
use Rattle.ir_event.specs.Modules.{Module}
use Rattle.patterns_base.specs.Keeps.{given}
use Rattle.patterns_base.specs.Looks.{insertion_of}
use Rattle.patterns_base.specs.Rewrites.{edits_of, eligible}
use Rattle.patterns_base.specs.Rules.{has_rule, rule, rules_for}
use Rattle.patterns_base.specs.declared.rule.Rule.{Rule}
use Rattle.patterns_lowering.specs.region_rules.Reason.{Reason}
use Rattle.patterns_lowering.specs.region_rules.Reason.TheVariants.{IsRoot, NotVerified, WrongOperation}
use Rattle.patterns_lowering.specs.region_rules.Conditions.{Test, asks, first_failed_test}
use Rattle.patterns_lowering.specs.region_rules.RuleTests.{tests}

-- the rules that the table lists for the name of an optional operation, by ascending number
abbrev pub rules_for_op : Option Operation → List Rule
rules_for_op None = []
rules_for_op (Some o) = rules_for (head o).name

-- the first test of rule r that fails at operation x of a module, after a place, if x is in the module
abbrev pub IsReasonAt : Rule → Module → ℕ → Place → Option Reason → Type 0
IsReasonAt r m x point c = (o : Operation) → find x m.tree ≡ Some o
    → c ≡ first_failed_test (tests r m.tree o (is_some (rule r m.tree m.next point o)))

-- whether rule r applies at operation x of a module
abbrev pub applies : Rule → Module → ℕ → Bool
applies r m x = is_some (edits_of r m x)

-- the conditions of rule r at operation x of a module, in order
abbrev pub conditions : Rule → Module → ℕ → Operation → List Test
conditions r m x o =
    asks IsRoot (is_some (insertion_of x m.tree))
    ∷ asks NotVerified (eligible r m.tree (head o))
    ∷ asks WrongOperation (has_rule r (head o).name)
    ∷ tests r m.tree o (applies r m x)

-- the first condition that doesn't hold, if the operation is in the module
unfoldable pub reason_of : Rule → Module → ℕ → Option Reason
reason_of r m x = given (find x m.tree) (λ o. first_failed_test (conditions r m x o))

-- there is no reason exactly if the rule applies
abbrev pub NoReasonWhereRulesApply : Type 0
NoReasonWhereRulesApply = (r : Rule) (m : Module) (x : ℕ) (o : Operation) → find x m.tree ≡ Some o
    → is_none (reason_of r m x) ≡ applies r m x

-- a reported reason is a condition of the rule that doesn't hold
abbrev pub ReportedReasonsHold : Type 0
ReportedReasonsHold = (r : Rule) (m : Module) (x : ℕ) (c : Reason) → reason_of r m x ≡ Some c
    → (o : Operation) × (find x m.tree ≡ Some o) × In (asks c false) (conditions r m x o)
