use Rattle.std.proofs.Common.{◌≡◌, length}
use Rattle.mlir_work_registry.specs.RuleLists.{names_left, names_of}
use Rattle.mlir_work_transforms.specs.Rewriting.{each_rule, rules_named}
use Rattle.mlir_work_transforms.proofs.Ruled.{joined}
use Rattle.mlir_work_transforms.proofs.rewrite.rules_in.Given as goal

-- the rules found so far, followed by those of the remaining names, are those of the whole list
abbrev pub invariant-names : goal.invariant-names
invariant-names l = joined l.rules.items (each_rule (names_left l.names)) ≡ rules_named (names_of l.fn.list)

abbrev pub decreases-names : goal.decreases-names
decreases-names l = length (names_left l.names)
