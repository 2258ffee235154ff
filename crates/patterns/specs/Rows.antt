-- The rules of a list by operation name, and the first of them that applies.
use Rattle.std.specs.Prelude.{◌≡◌, ℕ, List, [], true, map, All, Option, Some, None, slice_index_or, Vec}
use Rattle.std.specs.List.{filter}
use Rattle.std.specs.declared.alloc.Global.{Global}
use Rattle.ir_event.specs.types.Things.{ContextModel}
use Rattle.ir_event.specs.types.Terms.{name_term}
use Rattle.ir_event.specs.types.Sound.{IsSound}
use Rattle.ir_event.specs.declared.world.World.{World}
use Rattle.ir_event.specs.Modules.{module_in}
use Rattle.patterns_soundness.specs.base.RuleNames.{is_canonical}
use Rattle.patterns_soundness.specs.base.Rules.{has_rule}
use Rattle.patterns_soundness.specs.base.declared.rule.Rule.{Rule}
use Rattle.patterns.specs.FirstMatching.{first_matching_rule}
use Rattle.patterns.specs.HighestPriority.{IsMadeOf}
use Rattle.patterns.specs.declared.apply_highest_priority.MatchedRule.{MatchedRule}
use Rattle.patterns.specs.declared.rules_by_name.RulesByName.{RulesByName}

-- the rules of a list that may apply at operations with a name, in order
abbrev pub those_for : List Rule → List ℕ → List Rule
those_for rs name = filter (λ r. has_rule r name) rs

-- the rules at an index of the entries, and none past their end
abbrev pub row_at : List (Vec Rule Global) → ℕ → List Rule
row_at rows n = slice_index_or (map (λ (row : Vec Rule Global). row.items) rows) n []

-- the entry at the number of each name has the rules of the list that may apply at operations with that name
abbrev pub AreRowsOf : List Rule → List (Vec Rule Global) → Type 0
AreRowsOf rs rows = (c : ContextModel) → IsSound c → (n : ℕ) → row_at rows n ≡ those_for rs (name_term c n)

abbrev pub IsByName : RulesByName → Type 0
IsByName rows = AreRowsOf rows.rules.now rows.rows.items

-- canonicalization tries each of the rules
abbrev pub AreCanonical : List Rule → Type 0
AreCanonical rs = All (λ r. is_canonical r ≡ true) rs

-- rules that a run may try: they are indexed by name, and canonicalization tries each of them
pub record IsRuleTable (rows : RulesByName) : Type 0 where
  pub by_name : IsByName rows
  pub canonical : AreCanonical rows.rules.now

-- the first of some rules that applies, with its plan, or none applies
abbrev pub IsFirstOf : List Rule → World → ℕ → Option MatchedRule → Type 0
IsFirstOf rs w x None = first_matching_rule rs (module_in w) x ≡ None
IsFirstOf rs w x (Some f) =
    IsMadeOf w x f.planned.point f.rule f.planned.made × (first_matching_rule rs (module_in w) x ≡ Some f.rule)
