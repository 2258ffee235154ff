use Rattle.std.proofs.Common.{◌++◌, drop, append_assoc, append-nil, refl, ◌+◌, arith, []}
use Rattle.ir_event.specs.Modules.{module_in}
use Rattle.mlir_work_script_base.proofs.Joins.{grows_join, preceding_within}
use Rattle.mlir_work_transforms.specs.rewriter.Panels.{all_shown}
use Rattle.mlir_work_session.proofs.Listings.{some_kinds, shown_step, none_left}
use Rattle.mlir_work_session.proofs.listing.write_listeners.Goals as goal

pub returns-in-Err : goal.returns-in-Err
returns-in-Err g c =
    let meaning = g.L.Analysis.meaning in
    let preceding = c.loop-listener.invariant.preceding in
    let first = c.in-Err.ensures.0 in
    let rest = some_kinds (module_in c.args.world.now).tree (all_shown meaning (drop (c.loop-listener.listener-index + 1) c.args.listeners.now)) in
    let step = shown_step meaning c.args.listeners.now c.loop-listener.listener-index c.listener-item.result c.loop-listener-test.true c.listener-item.is in
    (preceding ++ (first ++ rest.0), c.loop-listener.invariant.whole (first ++ rest.0) (rw step (first, rest.0, c.in-Err.ensures.1, rest.1, refl)), preceding_within _ _ _ _ preceding first rest.0 refl c.loop-listener.invariant.wrote c.in-Err.ensures.2)

pub loop-listener-preserved : goal.loop-listener-preserved
loop-listener-preserved g c =
    let meaning = g.L.Analysis.meaning in
    let preceding = c.loop-listener.invariant.preceding in
    let first = c.in-Ok.ensures.0 in
    let step = shown_step meaning c.args.listeners.now c.loop-listener.listener-index c.listener-item.result c.loop-listener-test.true c.listener-item.is in
    record {
      preceding = preceding ++ first;
      wrote = grows_join _ _ _ preceding first c.loop-listener.invariant.wrote c.in-Ok.ensures.2;
      whole = λ rest h. rw append_assoc (c.loop-listener.invariant.whole (first ++ rest) (rw step (first, rest, c.in-Ok.ensures.1, h, refl)));
    }

pub returns : goal.returns
returns g c =
    let preceding = c.loop-listener.invariant.preceding in
    (preceding, rw append-nil at (c.loop-listener.invariant.whole [] (none_left g.L.Analysis.meaning (module_in c.args.world.now).tree c.args.listeners.now c.loop-listener.listener-index (omega arith))), c.loop-listener.invariant.wrote)
