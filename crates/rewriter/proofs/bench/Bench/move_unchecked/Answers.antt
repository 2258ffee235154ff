use Rattle.std.proofs.Common.{refl, ap, inr}
use Rattle.rewriter.specs.Edits as edit
use Rattle.rewriter.proofs.Going.{edit_goes, refused_marked}
use Rattle.rewriter.specs.Held.{TransactionModel}
use Rattle.rewriter.proofs.Noted.{made_ctx, made_journaled, recorded_left}
use Rattle.rewriter.proofs.Notified.{made_notified, made_led, led_left}
use Rattle.rewriter.proofs.bench.Bench.move_unchecked.Goals as goal

pub returns-in-Ok-clause-led : goal.returns-in-Ok-clause-led
returns-in-Ok-clause-led g c = rw (← c.self.view_is) (made_led g.L.Analysis.meaning _ _ _ (made_notified g.L.Analysis.meaning _ _ _ _ _ c.world.result.now _ _ c.in-Ok.ensures.ok c.world.ensures.ctx c.world.ensures.store c.tell.ensures c.settle.ensures))

pub returns-in-Err-clause-led : goal.returns-in-Err-clause-led
returns-in-Err-clause-led g c = rw (← c.self.view_is) (led_left g.L.Analysis.meaning _ _ _ c.in-Err.ensures.err)

pub returns-in-Ok-clause-does : goal.returns-in-Ok-clause-does
returns-in-Ok-clause-does g c = rw (← c.self.view_is) (edit_goes g.L.Analysis.meaning (edit.Move c.args.op c.args.place) _ _ _ _ refl (rw (← c.self.view_is) at c.requires) refl (made_notified g.L.Analysis.meaning _ _ _ _ _ c.world.result.now _ _ c.in-Ok.ensures.ok c.world.ensures.ctx c.world.ensures.store c.tell.ensures c.settle.ensures))

pub returns-in-Err-clause-does : goal.returns-in-Err-clause-does
returns-in-Err-clause-does g c = rw (← c.self.view_is) (refused_marked g.L.Analysis.meaning (edit.Move c.args.op c.args.place) _ _ _ _ (inr c.in-Err.ensures.refused) c.in-Err.ensures.err)

pub returns-in-Ok-clause-ctx : goal.returns-in-Ok-clause-ctx
returns-in-Ok-clause-ctx g c = rw (← c.self.view_is) (made_ctx g.L.Analysis.meaning _ _ _ (made_notified g.L.Analysis.meaning _ _ _ _ _ c.world.result.now _ _ c.in-Ok.ensures.ok c.world.ensures.ctx c.world.ensures.store c.tell.ensures c.settle.ensures))

pub returns-in-Ok-clause-journal : goal.returns-in-Ok-clause-journal
returns-in-Ok-clause-journal g c = rw (← c.self.view_is) (made_journaled g.L.Analysis.meaning _ _ _ (made_notified g.L.Analysis.meaning _ _ _ _ _ c.world.result.now _ _ c.in-Ok.ensures.ok c.world.ensures.ctx c.world.ensures.store c.tell.ensures c.settle.ensures))

pub returns-in-Err-clause-ctx : goal.returns-in-Err-clause-ctx
returns-in-Err-clause-ctx g c = rw (← c.self.view_is) (ap (λ (h : TransactionModel). h.ctx) c.in-Err.ensures.err)

pub returns-in-Err-clause-journal : goal.returns-in-Err-clause-journal
returns-in-Err-clause-journal g c = rw (← c.self.view_is) (recorded_left _ _ c.in-Err.ensures.err)

pub shift_unchecked-requires : goal.shift_unchecked-requires
shift_unchecked-requires g c = rw (← c.self.view_is) at c.requires
