use Rattle.ir_text_operations.specs.Free.{free_bound}
use Rattle.ir_text_operations.proofs.OpParts.{no_start, no_number, no_properties, opened}
use Rattle.ir_text_operations.proofs.opening.read_opening.Goals as goal

pub returns-in-Err-clause-reads : goal.returns-in-Err-clause-reads
returns-in-Err-clause-reads g c = no_start (free_bound (g.O.Outer.types c.args.outer.now)) c.args.names.now.here (c.args.bytes.now, c.args.ctx.now) c.in-Err.e c.in-Err.ensures

pub returns-in-Err-name-clause-reads : goal.returns-in-Err-name-clause-reads
returns-in-Err-name-clause-reads g c = no_number (free_bound (g.O.Outer.types c.args.outer.now)) c.args.names.now.here (c.args.bytes.now, c.args.ctx.now) _ c.in-Ok.ensures c.in-Err-name.e (rw c.as_slice.ensures.value at c.in-Err-name.ensures.reads)

pub returns-in-Err-properties-clause-reads : goal.returns-in-Err-properties-clause-reads
returns-in-Err-properties-clause-reads g c = no_properties (free_bound (g.O.Outer.types c.args.outer.now)) c.args.names.now.here (c.args.bytes.now, c.args.ctx.now) _ c.in-Ok.ensures (c.in-Ok-name.name, c.name.new.ctx) (rw c.as_slice.ensures.value at c.in-Ok-name.ensures.reads) c.in-Err-properties.e c.in-Err-properties.ensures.reads

pub returns-clause-reads : goal.returns-clause-reads
returns-clause-reads g c = rw c.isolated-isolated.ensures (opened (free_bound (g.O.Outer.types c.args.outer.now)) c.args.names.now.here (c.args.bytes.now, c.args.ctx.now) _ c.in-Ok.ensures (c.in-Ok-name.name, c.name.new.ctx) (rw c.as_slice.ensures.value at c.in-Ok-name.ensures.reads) c.in-Ok-properties.found.0.items (c.in-Ok-properties.found.1.now, c.properties.new.ctx) c.in-Ok-properties.ensures.reads)
