use Rattle.ir_text_operations.specs.Free.{free_bound}
use Rattle.ir_text_operations.proofs.Uses.{no_name, named}
use Rattle.ir_text_operations.proofs.op_header.operand.Goals as goal

pub returns-in-Err : goal.returns-in-Err
returns-in-Err g c = no_name (free_bound (g.O.Outer.types c.args.outer.now)) c.args.names.now.here c.args.bytes.now c.in-Err.e c.in-Err.ensures

pub returns-in-Some : goal.returns-in-Some
returns-in-Some g c =
    let used = named (free_bound (g.O.Outer.types c.args.outer.now)) c.args.names.now.here c.args.bytes.now (c.in-Ok.found.0.now, c.in-Ok.found.1.now) c.in-Ok.ensures in
    rw (used, ← c.in-Some.ensures) c.member.ensures

pub returns-in-None : goal.returns-in-None
returns-in-None g c =
    let used = named (free_bound (g.O.Outer.types c.args.outer.now)) c.args.names.now.here c.args.bytes.now (c.in-Ok.found.0.now, c.in-Ok.found.1.now) c.in-Ok.ensures in
    rw (used, ← c.in-None.ensures) c.free_member.ensures
