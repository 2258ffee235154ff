-- The model of a rule list, read from memory.
use Rattle.std.specs.Prelude.{◌≡◌, List, map, Option, Some, None}
use Rattle.ir_event.specs.trees.Tree.{Op}
use Rattle.mlir_work_transforms.specs.greedy.PatternSet.{MayUseAll, rule_or_pattern_of, patterns_of}
use Rattle.mlir_work_transforms.specs.RuleLists.{Listed, rules_and_patterns_in, names_in}
use Rattle.mlir_work_transforms.specs.declared.rule_items.RuleItem.{RuleItem as Coded}
use Rattle.mlir_work_transforms.specs.Unproved.{Noted}
use Rattle.mlir_work_transforms.specs.declared.rule_list.RuleList.{RuleList}
use Rattle.mlir_work_transforms.specs.declared.unproved.Noted.{Noted as NotedCode}

abbrev pub listed_view : Coded → Listed
listed_view l = record { rule_or_pattern = rule_or_pattern_of l.candidate; name = l.name.now }

-- the rules and patterns of a list, and their names
pub record IsRuleListOf (m : RuleList) (ls : List Listed) : Type 0 where
  pub rules_and_patterns : patterns_of m.candidates.items ≡ rules_and_patterns_in ls
  pub names : map (λ n. n.items) m.names.items ≡ names_in ls

-- the model of a parsed list: it is absent if an item couldn't be resolved
abbrev pub IsRuleList : Option RuleList → Option (List Listed) → Type 0
IsRuleList None found = found ≡ None
IsRuleList (Some m) found = (ls : List Listed) × (found ≡ Some ls) × IsRuleListOf m ls × MayUseAll (rules_and_patterns_in ls)

abbrev pub noted_view : NotedCode → Noted
noted_view n = record { name = n.name.now; is_typed = n.is_typed; said = n.said }

abbrev pub noted_views : List NotedCode → List Noted
noted_views ns = map noted_view ns

-- a copied tree, or no tree
abbrev pub IsCopy : Option Op → Op → Type 0
IsCopy None t = Unit {0}
IsCopy (Some copy) t = copy ≡ t
