use Rattle.std.proofs.Common.{◌++◌, ◌&&◌, ◌∙◌, ap, sym, length, [], true, refl, append_assoc, append-nil, is_none}
use Rattle.std.specs.Vec.Iter.{into_iter_items}
use Rattle.mlir_work_script_base.proofs.Joins.{grows_join, grows_none, preceding_within}
use Rattle.mlir_work_transforms.specs.rewriter.Panels.{all_shown}
use Rattle.mlir_work_session.specs.Output.{box_line}
use Rattle.mlir_work_session.proofs.Attaching.{box_step, no_box_left, some_attaches, one_less, none_of_none}
use Rattle.mlir_work_session.proofs.attach.attach_all.Goals as goal
use Rattle.ir_event.proofs.of_trees.Counts.{and_true, and_assoc}

pub loop-listener-init : goal.loop-listener-init
loop-listener-init g c = record {
  kept = c.requires;
  transaction = refl;
  long = ap length c.into_iter-listener-iterator.ensures.into_iter_gives.0 ∙ (sym c.args.boxes.ok.0 ∙ sym c.into_iter-listener-iterator.ensures.into_iter_gives.1);
  preceding = [];
  wrote = grows_none _;
  whole = λ new there rest h. rw c.into_iter-listener-iterator.ensures.into_iter_gives.0 at h;
}

pub returns-in-Err-clause-attached : goal.returns-in-Err-clause-attached
returns-in-Err-clause-attached g c =
    let meaning = g.L.Analysis.meaning in
    let preceding = c.loop-listener.invariant.preceding in
    let first = box_line (meaning c.in-Some.listener).kind c.attach-candidates.result in
    let rest = some_attaches (all_shown meaning (into_iter_items c.next.new.self)) (all_shown meaning c.attach-candidates.new.bench.listeners) in
    let step = box_step meaning _ (into_iter_items c.next.new.self) c.in-Some.listener _ _ _ c.attach-candidates.result rest.1 rest.2 c.in-Some.ensures.steps.0 c.attach-candidates.ensures.candidates rest.3 in
    (rest.0, c.loop-listener.accepted && (is_none c.attach-candidates.result && rest.1), preceding ++ (first ++ rest.2), c.loop-listener.invariant.whole _ _ _ step, preceding_within _ _ _ _ preceding first rest.2 refl c.loop-listener.invariant.wrote (rw c.kind_of-kind.ensures at c.in-Err.ensures))

pub loop-listener-preserved : goal.loop-listener-preserved
loop-listener-preserved g c =
    let meaning = g.L.Analysis.meaning in
    let preceding = c.loop-listener.invariant.preceding in
    let first = box_line (meaning c.in-Some.listener).kind c.attach-candidates.result in
    record {
      kept = c.attach-candidates.ensures.kept;
      transaction = c.attach-candidates.ensures.transaction ∙ c.loop-listener.invariant.transaction;
      long = one_less _ _ _ _ _ c.in-Some.ensures.steps.0 c.in-Some.ensures.steps.1 c.loop-listener.invariant.long;
      preceding = preceding ++ first;
      wrote = grows_join _ _ _ preceding first c.loop-listener.invariant.wrote (rw c.kind_of-kind.ensures at c.in-Ok.ensures);
      whole = λ new there rest h. rw (append_assoc, c.both-accepted.ensures, ← and_assoc) (c.loop-listener.invariant.whole new _ (first ++ rest) (box_step meaning _ (into_iter_items c.next.new.self) c.in-Some.listener _ _ _ c.attach-candidates.result there rest c.in-Some.ensures.steps.0 c.attach-candidates.ensures.candidates h));
    }

pub returns-clause-attached : goal.returns-clause-attached
returns-clause-attached g c =
    let meaning = g.L.Analysis.meaning in
    let preceding = c.loop-listener.invariant.preceding in
    (preceding, rw (append-nil, and_true) at (c.loop-listener.invariant.whole (all_shown meaning c.loop-listener.bench.listeners) true [] (no_box_left meaning _ _ (none_of_none _ _ c.loop-listener.invariant.long c.in-None.ensures.steps.0))), c.loop-listener.invariant.wrote)

pub returns-in-Err-clause-transaction : goal.returns-in-Err-clause-transaction
returns-in-Err-clause-transaction g c = c.attach-candidates.ensures.transaction ∙ c.loop-listener.invariant.transaction
