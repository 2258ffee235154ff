-- The pattern set of a run: rules, or rules and user patterns, in an order.
use Rattle.std.specs.Prelude.{◌≡◌, ℕ, eqb, ◌+◌, List, [], ◌∷◌, map, true, All, Option, Some, None, option_map, if◌then◌else◌, ⊤}
use Rattle.ir_event.specs.Modules.{Module}
use Rattle.patterns_base.specs.declared.rule.Rule.{Rule}
use Rattle.patterns_base.specs.RuleNames.{is_canonical}
use Rattle.patterns_base.specs.Rewrites.{Rewrite, none, refused, becomes, rewrite_of}
use Rattle.patterns_base.specs.Canonicalization.{or_else, first_rule}
use Rattle.patterns.specs.FirstMatching.{first_matching_rule}
use Rattle.user_patterns_data.specs.Shapes.{PatternModel, pattern_model}
use Rattle.user_patterns_data.specs.Depth.{is_shallow}
use Rattle.user_patterns_apply.specs.Own.{user_pattern_rewrite}
use Rattle.greedy.specs.declared.applied_rewrite.AppliedPattern.{AppliedPattern}
use Rattle.greedy.specs.declared.applied_rewrite.AppliedPattern.TheVariants as by
use Rattle.greedy.specs.declared.pattern_set.RuleOrPattern.{RuleOrPattern}
use Rattle.greedy.specs.declared.pattern_set.RuleOrPattern.TheVariants as candidates

-- the rewrite that the set makes at an operation, and the entry that makes it
pub record PatternSetModel : Type 0 where
  pub comes : Module → ℕ → Rewrite
  pub fires : Module → ℕ → Option AppliedPattern

-- the rules of a list, in its order
abbrev pub by_rules : List Rule → PatternSetModel
by_rules rs = record { comes = first_rule rs; fires = λ m x. option_map by.Rule (first_matching_rule rs m x) }

-- a set that is tried at one operation only
abbrev pub only_at : ℕ → PatternSetModel → PatternSetModel
only_at x a = record {
  comes = λ m y. if eqb y x then a.comes m y else none;
  fires = λ m y. if eqb y x then a.fires m y else None;
}

-- ---- rules and patterns

-- a rule, or a user pattern
pub data RuleOrPatternModel : Type 0 where
  OfRule : Rule → RuleOrPatternModel
  OfUserPattern : PatternModel → RuleOrPatternModel

abbrev pub rule_or_pattern_of : RuleOrPattern → RuleOrPatternModel
rule_or_pattern_of (candidates.Rule r) = OfRule r
rule_or_pattern_of (candidates.UserPattern p) = OfUserPattern (pattern_model p.now)

-- the rewrite that an entry makes at an operation. A user pattern is tried only if it is shallow: it reads the root,
-- the defining operations of its operands, and their defining operations
abbrev pub rewrite_by_entry : RuleOrPatternModel → Module → ℕ → Rewrite
rewrite_by_entry (OfRule r) m x = rewrite_of r m x
rewrite_by_entry (OfUserPattern p) m x = if is_shallow p then user_pattern_rewrite p m x else none

-- the rewrite of the first entry that applies at an operation
unfoldable pub first_applicable_rewrite : List RuleOrPatternModel → Module → ℕ → Rewrite
first_applicable_rewrite [] m x = none
first_applicable_rewrite (a ∷ rest) m x = or_else (rewrite_by_entry a m x) (first_applicable_rewrite rest m x)

-- how a trace records an entry: a rule, or a user pattern by its index in the list
abbrev pub traced_as : ℕ → RuleOrPatternModel → AppliedPattern
traced_as k (OfRule r) = by.Rule r
traced_as k (OfUserPattern p) = by.UserPattern k

-- the entry if it makes a rewrite, or else another
abbrev pub by_or : Rewrite → AppliedPattern → Option AppliedPattern → Option AppliedPattern
by_or none b other = other
by_or (refused e) b other = Some b
by_or (becomes m) b other = Some b

-- the first entry that applies, with the index of the first entry of the list
unfoldable pub first_matching_entry : ℕ → List RuleOrPatternModel → Module → ℕ → Option AppliedPattern
first_matching_entry k [] m x = None
first_matching_entry k (a ∷ rest) m x = by_or (rewrite_by_entry a m x) (traced_as k a) (first_matching_entry (k + 1) rest m x)

-- the rules and patterns of a list, in its order
abbrev pub pattern_set_from : List RuleOrPatternModel → PatternSetModel
pattern_set_from rules_and_patterns = record { comes = first_applicable_rewrite rules_and_patterns; fires = first_matching_entry 0 rules_and_patterns }

abbrev pub patterns_of : List RuleOrPattern → List RuleOrPatternModel
patterns_of ts = map rule_or_pattern_of ts

-- canonicalization tries each rule of a list
abbrev pub MayUse : RuleOrPatternModel → Type 0
MayUse (OfRule r) = is_canonical r ≡ true
MayUse (OfUserPattern p) = ⊤

abbrev pub MayUseAll : List RuleOrPatternModel → Type 0
MayUseAll rules_and_patterns = All MayUse rules_and_patterns
