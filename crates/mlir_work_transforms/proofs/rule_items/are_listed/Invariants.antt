use Rattle.std.proofs.Common.{◌≡◌, length}
use Rattle.std.specs.Prelude.{is_some}
use Rattle.mlir_work_registry.specs.Registry.{registry_model}
use Rattle.mlir_work_registry.specs.RuleLists.{names_left, names_of}
use Rattle.mlir_work_transforms.specs.RuleLists.{all_listed, each_listed}
use Rattle.mlir_work_transforms.proofs.rule_items.are_listed.Given as goal

abbrev pub invariant-names : goal.invariant-names
invariant-names l = is_some (all_listed (registry_model l.fn.registry) (names_of l.fn.list)) ≡ is_some (each_listed (registry_model l.fn.registry) (names_left l.names))

abbrev pub decreases-names : goal.decreases-names
decreases-names l = length (names_left l.names)
