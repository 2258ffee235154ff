-- The highest-priority rule that applies at an operation.
use Rattle.std.specs.Prelude.{◌≡◌, ℕ, List, [], ◌∷◌, true, Option, Some, None}
use Rattle.std.specs.List.{filter}
use Rattle.ir_event.specs.trees.declared.place.Place.{Place}
use Rattle.ir_event.specs.declared.world.World.{World}
use Rattle.ir_event.specs.Modules.{module_in}
use Rattle.patterns_soundness.specs.base.Canonicalization.{greedy_rules}
use Rattle.patterns_soundness.specs.base.Rewrites.{edits_of}
use Rattle.patterns_soundness.specs.base.RuleNames.{is_canonical}
use Rattle.patterns_soundness.specs.base.declared.rule.Rule.{Rule}
use Rattle.patterns_soundness.specs.base.declared.rule.Rule.TheVariants.{EraseDead}
use Rattle.patterns_plans.specs.Planned.{IsDead}
use Rattle.patterns.specs.FirstMatching.{first_matching_rule}
use Rattle.patterns.specs.Planned.{MadeIsOf, made_edits}
use Rattle.patterns.specs.declared.plan.RulePlan.{RulePlan}
use Rattle.patterns.specs.declared.apply_highest_priority.MatchedRule.{MatchedRule}

-- the rules of a list that canonicalization tries
abbrev pub greedy : List Rule → List Rule
greedy rs = filter is_canonical rs

-- the plan of rule r at operation x after a place
pub record IsMadeOf (w : World) (x : ℕ) (point : Place) (r : Rule) (p : RulePlan) : Type 0 where
  pub edits : Some (made_edits w.ctx (module_in w).next x point p) ≡ edits_of r (module_in w) x
  pub of : MadeIsOf w.ctx p

-- rule r may be left out at operation x
abbrev pub IsLeftOut : Rule → World → ℕ → Type 0
IsLeftOut r w x = (rs : List Rule) → first_matching_rule (greedy (r ∷ rs)) (module_in w) x
    ≡ first_matching_rule (greedy rs) (module_in w) x

-- the rules of a list from the first one that may apply, or none may
abbrev pub AreLikely : List Rule → World → ℕ → Option (List Rule) → Type 0
AreLikely rs w x None = first_matching_rule (greedy rs) (module_in w) x ≡ None
AreLikely rs w x (Some ks) = first_matching_rule (greedy rs) (module_in w) x ≡ first_matching_rule (greedy ks) (module_in w) x

-- rule r is a canonicalization rule and may apply at operation x
pub record IsLikely (r : Rule) (w : World) (x : ℕ) : Type 0 where
  pub attempted : is_canonical r ≡ true
  pub dead : r ≡ EraseDead → IsDead w x

-- the first of some rules, if there is one, is such a rule
abbrev pub BeginsLikely : List Rule → World → ℕ → Type 0
BeginsLikely [] w x = Unit {0}
BeginsLikely (r ∷ rs) w x = IsLikely r w x

-- the first rule applies, with its plan, or may be left out
abbrev pub FirstMatch : Rule → World → ℕ → Place → Option RulePlan → Type 0
FirstMatch r w x point None = IsLeftOut r w x
FirstMatch r w x point (Some p) =
    IsMadeOf w x point r p × ((rs : List Rule)
    → first_matching_rule (greedy (r ∷ rs)) (module_in w) x ≡ Some r)

-- the first of some rules that applies, with its plan, or none applies
abbrev pub IsFirst : List Rule → World → ℕ → Place → Option (Rule × RulePlan) → Type 0
IsFirst rs w x point None = first_matching_rule (greedy rs) (module_in w) x ≡ None
IsFirst rs w x point (Some f) =
    IsMadeOf w x point f.0 f.1 × (first_matching_rule (greedy rs) (module_in w) x ≡ Some f.0)

-- the highest-priority rule that applies, with its plan, or none applies
abbrev pub IsHighestPriority : World → ℕ → Option MatchedRule → Type 0
IsHighestPriority w x None = first_matching_rule greedy_rules (module_in w) x ≡ None
IsHighestPriority w x (Some f) =
    IsMadeOf w x f.planned.point f.rule f.planned.made × (first_matching_rule greedy_rules (module_in w) x ≡ Some f.rule)
