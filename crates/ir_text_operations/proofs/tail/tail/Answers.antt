use Rattle.std.proofs.Common.{map}
use Rattle.ir_tree.specs.View.{region_view}
use Rattle.ir_text_names.specs.States.{state_of}
use Rattle.ir_text_operations.specs.PrecedingReading.{start_view}
use Rattle.ir_text_operations.proofs.OpParts.{no_attributes, not_finished, closed}
use Rattle.ir_text_operations.proofs.tail.tail.Goals as goal

pub returns-in-Err-clause-reads : goal.returns-in-Err-clause-reads
returns-in-Err-clause-reads c = no_attributes c.args.id c.args.opening.name (start_view c.args.opening.preceding) c.args.opening.written.items (map region_view c.args.regions.items) (state_of c.args.bytes.now c.args.scope.now c.args.ctx.now) c.in-Err.e (rw c.deref.ensures.value at c.in-Err.ensures.reads)

pub returns-in-Err-finished-clause-reads : goal.returns-in-Err-finished-clause-reads
returns-in-Err-finished-clause-reads c = not_finished c.args.id c.args.opening.name (start_view c.args.opening.preceding) c.args.opening.written.items (map region_view c.args.regions.items) (state_of c.args.bytes.now c.args.scope.now c.args.ctx.now) (c.in-Ok.found.0.items, (c.in-Ok.found.1.now, c.attributes.new.ctx)) (rw c.deref.ensures.value at c.in-Ok.ensures.reads) c.in-Err-finished.e c.in-Err-finished.ensures.reads

pub returns-in-Ok-made-clause-reads : goal.returns-in-Ok-made-clause-reads
returns-in-Ok-made-clause-reads c = rw (c.in-Ok-made.ensures, c.deref-2.ensures.value) (closed c.args.id c.args.opening.name (start_view c.args.opening.preceding) c.args.opening.written.items (map region_view c.args.regions.items) (state_of c.args.bytes.now c.args.scope.now c.args.ctx.now) (c.in-Ok.found.0.items, (c.in-Ok.found.1.now, c.attributes.new.ctx)) (rw c.deref.ensures.value at c.in-Ok.ensures.reads) (c.in-Ok-finished.found.0.items, state_of c.in-Ok-finished.found.1.now c.finished.new.scope c.finished.new.ctx) c.in-Ok-finished.ensures.reads)
