use Rattle.std.proofs.Common.{◌≡◌, length}
use Rattle.mlir_work_registry.specs.Registry.{registry_model}
use Rattle.mlir_work_registry.specs.RuleLists.{names_left, names_of}
use Rattle.mlir_work_transforms.specs.RuleLists.{names_user_pattern}
use Rattle.mlir_work_transforms.proofs.named_patterns.names_pattern.Given as goal

abbrev pub invariant-names : goal.invariant-names
invariant-names l = names_user_pattern (registry_model l.fn.registry) (names_of l.fn.list) ≡ names_user_pattern (registry_model l.fn.registry) (names_left l.names)

abbrev pub decreases-names : goal.decreases-names
decreases-names l = length (names_left l.names)
