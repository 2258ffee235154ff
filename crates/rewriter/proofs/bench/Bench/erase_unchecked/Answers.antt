use Rattle.std.proofs.Common.{◌≡◌, refl, subst, sym, None}
use Rattle.ir_event.specs.store.Calls.{after_take}
use Rattle.rewriter.specs.Contents.{tests_in}
use Rattle.rewriter.specs.Edits.{Erase, reason_by}
use Rattle.rewriter.specs.Machine.{Done}
use Rattle.rewriter.specs.RewriterCalls.{Benched}
use Rattle.rewriter.proofs.Going.{edit_goes}
use Rattle.rewriter.proofs.bench.Bench.erase_unchecked.Goals as goal

pub returns-in-Ok-clause-does : goal.returns-in-Ok-clause-does
returns-in-Ok-clause-does g c =
    let a = c.args.self.now in
    edit_goes g.L.Analysis.meaning (Erase c.args.op) Done (after_take c.args.op a.transaction.store) a c.take.new.self refl
    c.requires refl c.in-Ok.ensures.ok

pub erase_inside-requires : goal.erase_inside-requires
erase_inside-requires g c =
    subst (λ (b : Benched g.row.L.Denot). reason_by (tests_in b.transaction.ctx) (Erase c.args.op) b.transaction.store.module_of ≡ None) (sym c.in-Err.ensures.err) c.requires
