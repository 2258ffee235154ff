use Rattle.std.proofs.Common.{◌∙◌, ap, drop}
use Rattle.ir_event.specs.Modules.{Module, module_in}
use Rattle.patterns.specs.rewriter.Held.{module_at, module_held}
use Rattle.greedy.specs.Listing.{TouchedUpTo}
use Rattle.greedy.specs.Near.{Leads}
use Rattle.greedy.specs.Shown.{shown_operands}
use Rattle.greedy.proofs.Adding.{on_ok}
use Rattle.greedy.proofs.Journaled.{journal_touched}
use Rattle.greedy.proofs.journal.touched.Goals as goal

pub returns-clause-ok : goal.returns-clause-ok
returns-clause-ok g c =
    let w = c.world.result.now in
    let h = c.args.bench.now.transaction in
    on_ok ((m : Module) → Leads (shown_operands w.store) w.ctx c.events_from.result.now m (module_in w) → TouchedUpTo c.args.passed m (module_in w) c.touched_by.new.ops.items) (TouchedUpTo c.args.passed (module_at c.args.from h) (module_held h) c.touched_by.new.ops.items) c.touched_by.result
    (λ f. journal_touched w h c.args.from c.args.passed c.events_from.result.now c.touched_by.new.ops.items c.world.ensures.ctx c.world.ensures.store (c.events_from.ensures ∙ ap (drop c.args.from) c.journal.ensures) c.is_wellformed.ensures.leads f) c.touched_by.ensures.ok
