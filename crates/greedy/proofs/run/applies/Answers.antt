use Rattle.greedy.proofs.Noting.{left_same, noted_back}
use Rattle.greedy.proofs.run.applies.Goals as goal

pub returns-in-Ok-done-clause-onward : goal.returns-in-Ok-done-clause-onward
returns-in-Ok-done-clause-onward g c =
    let r = g.R.GreedyRewriter in
    r.through _ _ _ (r.through _ _ _ c.in-Ok.ensures.onward c.next-done.ensures.onward) c.rollback.ensures.onward

pub returns-in-Err-done-clause-onward : goal.returns-in-Err-done-clause-onward
returns-in-Err-done-clause-onward g c =
    let r = g.R.GreedyRewriter in
    r.through _ _ _ (r.through _ _ _ c.in-Ok.ensures.onward c.next-done.ensures.onward) c.rollback.ensures.onward

pub returns-in-Err-clause-left : goal.returns-in-Err-clause-left
returns-in-Err-clause-left g c = left_same _ _ c.in-Err.ensures.left

pub returns-in-Ok-done-clause-left : goal.returns-in-Ok-done-clause-left
returns-in-Ok-done-clause-left g c = noted_back _ _ _ _ c.step.ensures.none c.in-Ok.ensures.opened c.next-done.ensures.journal c.rollback.ensures.dropped

pub returns-in-Err-done-clause-left : goal.returns-in-Err-done-clause-left
returns-in-Err-done-clause-left g c = noted_back _ _ _ _ c.step.ensures.none c.in-Ok.ensures.opened c.next-done.ensures.journal c.rollback.ensures.dropped
