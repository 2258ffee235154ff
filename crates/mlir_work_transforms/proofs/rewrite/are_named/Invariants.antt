use Rattle.std.proofs.Common.{◌≡◌, length}
use Rattle.std.specs.Prelude.{is_some}
use Rattle.mlir_work_registry.specs.RuleLists.{names_left, names_of}
use Rattle.mlir_work_transforms.specs.Rewriting.{each_rule, rules_named}
use Rattle.mlir_work_transforms.proofs.rewrite.are_named.Given as goal

abbrev pub invariant-names : goal.invariant-names
invariant-names l = is_some (rules_named (names_of l.fn.list)) ≡ is_some (each_rule (names_left l.names))

abbrev pub decreases-names : goal.decreases-names
decreases-names l = length (names_left l.names)
