use Rattle.std.proofs.Common.{◌≡◌, ◌++◌, length}
use Rattle.ir_event.specs.Modules.{module_in}
use Rattle.mlir_work_transforms.specs.Unproved.{unproved_text}
use Rattle.mlir_work_transforms.specs.Views.{IsCopy, noted_views}
use Rattle.mlir_work_transforms.proofs.unproved.text_of.Given as goal

abbrev pub invariant-noted : goal.invariant-noted
invariant-noted l =
    (l.out.items ++ unproved_text (module_in l.fn.world).tree (noted_views l.rest) ≡ unproved_text (module_in l.fn.world).tree (noted_views l.fn.noted))
    × IsCopy l.tree l.fn.world.store.module_of.tree

abbrev pub decreases-noted : goal.decreases-noted
decreases-noted l = length l.rest
