use Rattle.ir_event.specs.trees.Meaning.{meaning}
use Rattle.mlir_work_session_base.proofs.OperationObjects.{object_written}
use Rattle.mlir_work_session_base.proofs.operation_objects.write_object.Goals as goal

pub returns : goal.returns
returns c =
    object_written c.args.place.now (meaning c.args.ctx.now c.args.tree.now) _ _ _ _ _ c.in_ok-push.ensures.items c.in_ok-write_first.ensures c.in_ok-write_last.ensures c.in_ok-push-2.ensures.items
