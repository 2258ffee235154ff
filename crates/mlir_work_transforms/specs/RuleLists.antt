-- Lists of rules and registered patterns, by name.
use Rattle.std.specs.Prelude.{ℕ, List, [], ◌∷◌, map, Bool, Option, Some, None, codes, is_some, option_map, option_and_then}
use Rattle.std.specs.List.{list_any}
use Rattle.ir_event.specs.Modules.{Module}
use Rattle.mlir_work_transforms.specs.greedy.Changes.{rewriting}
use Rattle.mlir_work_transforms.specs.greedy.Tracing.{trace_of}
use Rattle.mlir_work_transforms.specs.greedy.PatternSet.{RuleOrPatternModel, OfUserPattern, OfRule, pattern_set_from}
use Rattle.mlir_work_transforms.specs.rewriter.Commands.{Numbered, RuleName, Worded}
use Rattle.mlir_work_transforms.specs.rewriter.Machine.{Transformation}
use Rattle.mlir_work_transforms.specs.Rewriting.{canonical_named}
use Rattle.mlir_work_transforms.specs.TraceText.{trace_text}
use Rattle.mlir_work_registry.specs.Registry.{RegistryModel, Kept, found}
use Rattle.mlir_work_registry.specs.RuleLists.{opened}

-- the registered pattern with this name
abbrev pub pattern_named : RuleName → RegistryModel → Option Kept
pattern_named (Numbered n) registry = None
pattern_named (Worded word) registry = found word registry

-- a rule, or a pattern with its name
pub record Listed : Type 0 where
  pub rule_or_pattern : RuleOrPatternModel
  pub name : List ℕ

-- a name resolves to a registered pattern, or else to a canonicalization rule
abbrev pub or_rule : Option Kept → RuleName → Option Listed
or_rule None name = option_map (λ r. record { rule_or_pattern = OfRule r; name = [] }) (canonical_named name)
or_rule (Some k) name = Some (record { rule_or_pattern = OfUserPattern k.rewrite_pattern; name = k.name })

abbrev pub listed_named : RegistryModel → RuleName → Option Listed
listed_named registry name = or_rule (pattern_named name registry) name

-- all names resolved, if each can be
abbrev pub each_listed : RegistryModel → List RuleName → Option (List Listed)
each_listed registry [] = Some []
each_listed registry (name ∷ names) =
    option_and_then (λ l. option_map (λ ls. l ∷ ls) (each_listed registry names)) (listed_named registry name)

-- whether a pattern is named `canon`
abbrev pub has_canon : RegistryModel → Bool
has_canon registry = is_some (found (codes "canon") registry)

-- all names of a list resolved, if each can be; if no pattern is named `canon`, the word stands for the rules 1 to 24
abbrev pub all_listed : RegistryModel → List RuleName → Option (List Listed)
all_listed registry names = each_listed registry (opened (has_canon registry) names)

-- whether a name is that of a registered pattern
abbrev pub names_user_pattern : RegistryModel → List RuleName → Bool
names_user_pattern registry names = list_any (λ name. is_some (pattern_named name registry)) names

-- the rules and patterns, and their names for a trace
abbrev pub rules_and_patterns_in : List Listed → List RuleOrPatternModel
rules_and_patterns_in ls = map Listed.rule_or_pattern ls

abbrev pub names_in : List Listed → List (List ℕ)
names_in ls = map Listed.name ls

-- the transformation of a list with at most so many rewrites
abbrev pub rule_list_transformation : RegistryModel → List RuleName → ℕ → Option Transformation
rule_list_transformation registry names limit = option_map (λ ls. rewriting (pattern_set_from (rules_and_patterns_in ls)) limit) (all_listed registry names)

-- the trace of a list
abbrev pub rule_list_trace : Option (List Listed) → ℕ → Module → List ℕ
rule_list_trace None limit m = []
rule_list_trace (Some ls) limit m = trace_text (names_in ls) (trace_of (pattern_set_from (rules_and_patterns_in ls)) limit m)
