use Rattle.std.proofs.Common.{sym}
use Rattle.ir_event.proofs.Shifting.{located}
use Rattle.ir_event.proofs.edits.shift_in.Goals as goal

pub returns-in_default-clause-refused : goal.returns-in_default-clause-refused
returns-in_default-clause-refused c = absurd (located c.args.ctx.now c.args.op c.args.place.now c.args.store.now c.shift.new.self c.requires c.in-Ok.ensures.done.0 (sym c.in_default.ensures))

pub returns-in_default-clause-err : goal.returns-in_default-clause-err
returns-in_default-clause-err c = absurd (located c.args.ctx.now c.args.op c.args.place.now c.args.store.now c.shift.new.self c.requires c.in-Ok.ensures.done.0 (sym c.in_default.ensures))
