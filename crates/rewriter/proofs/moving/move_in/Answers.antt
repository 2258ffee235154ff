use Rattle.std.proofs.Common.{sym}
use Rattle.ir_event.proofs.Shifting.{located}
use Rattle.rewriter.proofs.Unchecked.{may_move}
use Rattle.rewriter.proofs.moving.move_in.Goals as goal

pub returns-in_default-clause-done : goal.returns-in_default-clause-done
returns-in_default-clause-done c = absurd (located c.args.ctx.now c.args.op c.args.place.now c.args.store.now c.args.store.now c.requires.wellformed c.requires.free (sym c.in_default.ensures))

pub move_unchecked-requires : goal.move_unchecked-requires
move_unchecked-requires c = may_move c.args.ctx.now c.args.op c.args.place.now c.args.store.now c.requires.free
