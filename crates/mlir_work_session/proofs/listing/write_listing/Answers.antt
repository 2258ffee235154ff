use Rattle.std.proofs.Common.{subst, sym}
use Rattle.ir_event.specs.Modules.{module_in, context_model}
use Rattle.ir_event.specs.Panels.{AllKept}
use Rattle.mlir_work_script_base.proofs.Joins.{then_put, then_none}
use Rattle.mlir_work_transforms.specs.rewriter.Panels.{all_shown}
use Rattle.mlir_work_transforms.specs.rewriter.RewriterCalls.{state_of}
use Rattle.mlir_work_session.specs.Output.{IsModule, AreKinds, IsListing}
use Rattle.mlir_work_session.proofs.Listings.{some_kinds}
use Rattle.mlir_work_session.proofs.Reading.{all_held, listing_held}
use Rattle.mlir_work_session.proofs.listing.write_listing.Goals as goal

pub returns-in-Ok : goal.returns-in-Ok
returns-in-Ok g c =
    let meaning = g.L.Analysis.meaning in
    let t = (module_in c.world-world.result.now).tree in
    then_put (IsModule t) (AreKinds t (all_shown meaning c.args.bench.now.listeners)) (IsListing (state_of meaning c.args.bench.now)) _ _ _ c.write_listeners.result
    (λ xs ys p q. listing_held meaning c.args.bench.now c.world-world.result.now c.world-world.ensures.ctx c.world-world.ensures.store xs ys p q) c.in-Ok.ensures (rw c.listeners.ensures at c.write_listeners.ensures)

pub returns-in-Err : goal.returns-in-Err
returns-in-Err g c =
    let meaning = g.L.Analysis.meaning in
    let t = (module_in c.world-world.result.now).tree in
    then_none (IsModule t) (AreKinds t (all_shown meaning c.args.bench.now.listeners)) (IsListing (state_of meaning c.args.bench.now)) (g.W.Sink.stream c.args.writer.now) (g.W.Sink.stream c.write_module.new.writer)
    (λ xs ys p q. listing_held meaning c.args.bench.now c.world-world.result.now c.world-world.ensures.ctx c.world-world.ensures.store xs ys p q) c.in-Err.ensures (some_kinds _ _)

pub write_listeners-requires : goal.write_listeners-requires
write_listeners-requires g c =
    let world = c.world-world.result.now in
    subst (AllKept g.L.Analysis.meaning (context_model world) (module_in world)) (sym c.listeners.ensures) (all_held g.L.Analysis.meaning c.args.bench.now world c.world-world.ensures.ctx c.world-world.ensures.store c.requires)
