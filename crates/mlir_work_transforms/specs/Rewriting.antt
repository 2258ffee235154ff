-- Rewriting by the named rules, as a transformation.
use Rattle.std.specs.Prelude.{ℕ, List, [], ◌∷◌, false, Option, Some, None, option_and_then, option_map, if◌then◌else◌}
use Rattle.conversion.specs.rewriter.Commands.{RuleName}
use Rattle.conversion.specs.rewriter.Machine.{Transformation}
use Rattle.conversion.specs.patterns.RuleNames.{is_canonical}
use Rattle.conversion.specs.patterns.Rule.{Rule}
use Rattle.greedy.specs.Changes.{rewriting}
use Rattle.greedy.specs.PatternSet.{by_rules}
use Rattle.mlir_work_registry.specs.RuleLists.{opened}
use Rattle.mlir_work_transforms.specs.Applying.{rule_named}

-- a rule, if it is a canonicalization rule
abbrev pub if_canonical : Rule → Option Rule
if_canonical r = if is_canonical r then Some r else None

-- the canonicalization rule with this name
abbrev pub canonical_named : RuleName → Option Rule
canonical_named name = option_and_then if_canonical (rule_named name)

-- the rules with these names in order, if each name is a rule's
abbrev pub each_rule : List RuleName → Option (List Rule)
each_rule [] = Some []
each_rule (name ∷ names) =
    option_and_then (λ r. option_map (λ rs. r ∷ rs) (each_rule names)) (canonical_named name)

-- the rules of a list in which `canon` stands for the rules 1 to 24
abbrev pub rules_named : List RuleName → Option (List Rule)
rules_named names = each_rule (opened false names)

-- the transformation of a command with at most so many rewrites
abbrev pub rewriting_named : List RuleName → ℕ → Option Transformation
rewriting_named names limit = option_map (λ rs. rewriting (by_rules rs) limit) (rules_named names)
