use Rattle.std.proofs.Common.{◌≡◌, refl, sym, ap, inr, rules}
use Rattle.rewriter.specs.Edits as edit
use Rattle.rewriter.specs.Machine.{DoneAs}
use Rattle.rewriter.proofs.Going.{edit_goes, refused_always}
use Rattle.rewriter.specs.Held.{TransactionModel}
use Rattle.rewriter.proofs.Noted.{made_ctx, made_journaled, recorded_left}
use Rattle.rewriter.proofs.Notified.{made_notified, made_led, led_left}
use Rattle.rewriter.proofs.bench.Bench.make_unchecked.Goals as goal

pub returns-in-Ok-clause-led : goal.returns-in-Ok-clause-led
returns-in-Ok-clause-led g c = rw (← c.self.view_is) (made_led g.L.Analysis.meaning _ _ _ (made_notified g.L.Analysis.meaning _ _ _ _ _ c.world-in-Ok.result.now _ _ c.in-Ok.ensures.ok c.world-in-Ok.ensures.ctx c.world-in-Ok.ensures.store c.tell.ensures c.settle.ensures))

pub returns-in-Err-clause-led : goal.returns-in-Err-clause-led
returns-in-Err-clause-led g c = rw (← c.self.view_is) (led_left g.L.Analysis.meaning _ _ _ c.in-Err.ensures.err)

pub returns-in-Ok-clause-does : goal.returns-in-Ok-clause-does
returns-in-Ok-clause-does g c =
    let free : c.new-op.result ≡ c.self.inside.transaction.store.module_of.next = search rules in
    rw (← c.self.view_is) (edit_goes g.L.Analysis.meaning (edit.Make c.args.place c.args.header.now) _ _ _ _ (ap DoneAs (sym free)) (rw (← c.self.view_is) at c.requires.free) refl (made_notified g.L.Analysis.meaning _ _ _ _ _ c.world-in-Ok.result.now _ _ c.in-Ok.ensures.ok c.world-in-Ok.ensures.ctx c.world-in-Ok.ensures.store c.tell.ensures c.settle.ensures))

pub returns-in-Err-clause-does : goal.returns-in-Err-clause-does
returns-in-Err-clause-does g c = rw (← c.self.view_is) (refused_always g.L.Analysis.meaning (edit.Make c.args.place c.args.header.now) _ _ _ _ refl (inr (c.in-Err.ensures.refused, tt)) c.in-Err.ensures.err)

pub returns-in-Ok-clause-ctx : goal.returns-in-Ok-clause-ctx
returns-in-Ok-clause-ctx g c = rw (← c.self.view_is) (made_ctx g.L.Analysis.meaning _ _ _ (made_notified g.L.Analysis.meaning _ _ _ _ _ c.world-in-Ok.result.now _ _ c.in-Ok.ensures.ok c.world-in-Ok.ensures.ctx c.world-in-Ok.ensures.store c.tell.ensures c.settle.ensures))

pub returns-in-Ok-clause-journal : goal.returns-in-Ok-clause-journal
returns-in-Ok-clause-journal g c = rw (← c.self.view_is) (made_journaled g.L.Analysis.meaning _ _ _ (made_notified g.L.Analysis.meaning _ _ _ _ _ c.world-in-Ok.result.now _ _ c.in-Ok.ensures.ok c.world-in-Ok.ensures.ctx c.world-in-Ok.ensures.store c.tell.ensures c.settle.ensures))

pub returns-in-Err-clause-ctx : goal.returns-in-Err-clause-ctx
returns-in-Err-clause-ctx g c = rw (← c.self.view_is) (ap (λ (h : TransactionModel). h.ctx) c.in-Err.ensures.err)

pub returns-in-Err-clause-journal : goal.returns-in-Err-clause-journal
returns-in-Err-clause-journal g c = rw (← c.self.view_is) (recorded_left _ _ c.in-Err.ensures.err)

pub put_unchecked-requires-clause-free : goal.put_unchecked-requires-clause-free
put_unchecked-requires-clause-free g c = rw (← c.self.view_is) at c.requires.free
