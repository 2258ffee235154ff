use Rattle.std.proofs.Common.{◌≡◌}
use Rattle.std.specs.List.{list_all}
use Rattle.std.specs.Option.{option_copied}
use Rattle.mlir_work_script_base.specs.Items.{items_after}
use Rattle.mlir_work_script_base.specs.RuleNames.{are_rewriting_rules, is_rewriting_rule}
use Rattle.mlir_work_script_base.proofs.Listed.{left_of}
use Rattle.mlir_work_script_base.proofs.rule_name.are_rewriting_rules.Given as goal

abbrev pub invariant-items : goal.invariant-items
invariant-items l = list_all is_rewriting_rule (items_after (option_copied l.rest)) ≡ are_rewriting_rules l.fn.text

abbrev pub decreases-items : goal.decreases-items
decreases-items l = left_of (option_copied l.rest)
