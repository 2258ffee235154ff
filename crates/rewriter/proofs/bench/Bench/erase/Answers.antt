use Rattle.std.proofs.Common.{refl}
use Rattle.ir_event.specs.store.Calls.{after_take}
use Rattle.rewriter.specs.Edits.{Erase}
use Rattle.rewriter.specs.Machine.{Done}
use Rattle.rewriter.proofs.Going.{edit_goes}
use Rattle.rewriter.proofs.Leaf.{may_erase}
use Rattle.rewriter.proofs.bench.Bench.erase.Goals as goal

pub returns-in-Ok-clause-does : goal.returns-in-Ok-clause-does
returns-in-Ok-clause-does g c =
    let a = c.args.self.now in
    edit_goes g.L.Analysis.meaning (Erase c.args.op) Done (after_take c.args.op a.transaction.store) a c.take.new.self refl
    (may_erase c.args.op a.transaction.store.module_of.tree c.is_wellformed.ensures.wellformed.distinct c.in-Ok.ensures.refused) refl c.in-Ok.ensures.ok
