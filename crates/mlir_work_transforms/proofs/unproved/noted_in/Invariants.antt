use Rattle.std.proofs.Common.{◌≡◌, [], length}
use Rattle.mlir_work_registry.specs.Registry.{registry_model}
use Rattle.mlir_work_registry.specs.RuleLists.{names_left, names_of}
use Rattle.mlir_work_transforms.specs.Unproved.{noted_after}
use Rattle.mlir_work_transforms.specs.Views.{noted_views}
use Rattle.mlir_work_transforms.proofs.unproved.noted_in.Given as goal

-- the patterns found so far, followed by those of the remaining names, are those of the whole list
abbrev pub invariant-names : goal.invariant-names
invariant-names l = noted_after (registry_model l.fn.registry) (noted_views l.noted.items) (names_left l.names) ≡ noted_after (registry_model l.fn.registry) [] (names_of l.fn.list)

abbrev pub decreases-names : goal.decreases-names
decreases-names l = length (names_left l.names)
