use Rattle.ir_text_names.specs.States.{state_of}
use Rattle.ir_text_operations.specs.PrecedingReading.{start_view}
use Rattle.ir_text_operations.proofs.OpParts.{no_outputs, not_bound, is_finished}
use Rattle.ir_text_operations.proofs.Outputs.{outputs_few}
use Rattle.ir_text_operations.proofs.tail.finished.Goals as goal

pub returns-in-Err-clause-reads : goal.returns-in-Err-clause-reads
returns-in-Err-clause-reads c = no_outputs c.args.id (start_view c.args.preceding.now) (state_of c.args.bytes.now c.args.scope.now c.args.ctx.now) c.in-Err.e (rw c.deref.ensures.value at c.in-Err.ensures.reads)

pub finish-requires : goal.finish-requires
finish-requires c = rw c.deref-2.ensures.value (outputs_few _ _ _ _ c.in-Ok.ensures.reads)

pub returns-in-Ok-finish-clause-reads : goal.returns-in-Ok-finish-clause-reads
returns-in-Ok-finish-clause-reads c =
    let outputs = rw c.deref.ensures.value at c.in-Ok.ensures.reads in
    is_finished c.args.id (start_view c.args.preceding.now) (state_of c.args.bytes.now c.args.scope.now c.args.ctx.now) (c.in-Ok.found.0.items, (c.in-Ok.found.1.now, c.outputs.new.ctx)) outputs c.finish.new.names (rw c.deref-2.ensures.value at c.in-Ok-finish.ensures)

pub returns-clause-reads : goal.returns-clause-reads
returns-clause-reads c =
    let outputs = rw c.deref.ensures.value at c.in-Ok.ensures.reads in
    not_bound c.args.id (start_view c.args.preceding.now) (state_of c.args.bytes.now c.args.scope.now c.args.ctx.now) (c.in-Ok.found.0.items, (c.in-Ok.found.1.now, c.outputs.new.ctx)) outputs c.in-Err-finish.e (rw c.deref-2.ensures.value at c.in-Err-finish.ensures)
