use Rattle.ir_text_operations.specs.Free.{free_bound}
use Rattle.ir_text_operations.proofs.OpParts.{no_results, not_called, no_operands, started}
use Rattle.ir_text_operations.proofs.op_header.start.Goals as goal

pub returns-in-Err : goal.returns-in-Err
returns-in-Err g c = no_results (free_bound (g.O.Outer.types c.args.outer.now)) c.args.names.now.here c.args.bytes.now c.in-Err.e c.in-Err.ensures

pub returns-in-Err-called : goal.returns-in-Err-called
returns-in-Err-called g c = not_called (free_bound (g.O.Outer.types c.args.outer.now)) c.args.names.now.here c.args.bytes.now _ c.in-Ok.ensures c.in-Err-called.e c.in-Err-called.ensures

pub returns-in-Err-operands : goal.returns-in-Err-operands
returns-in-Err-operands g c = no_operands (free_bound (g.O.Outer.types c.args.outer.now)) c.args.names.now.here c.args.bytes.now _ c.in-Ok.ensures _ c.in-Ok-called.ensures c.in-Err-operands.e c.in-Err-operands.ensures

pub returns : goal.returns
returns g c = started (free_bound (g.O.Outer.types c.args.outer.now)) c.args.names.now.here c.args.bytes.now _ c.in-Ok.ensures _ c.in-Ok-called.ensures c.in-Ok-operands.found.0.items c.in-Ok-operands.found.1.now c.in-Ok-operands.ensures
