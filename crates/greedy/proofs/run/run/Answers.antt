use Rattle.std.proofs.Common.{◌∙◌, refl, sym, ap, inl, inr}
use Rattle.patterns_base.specs.Canonicalization.{ended}
use Rattle.greedy.specs.Outcomes.{count_of, ending_of}
use Rattle.greedy.specs.Ruled.{pattern_set_of}
use Rattle.greedy.proofs.Comings.{limit_low, limit_high, limit_fits, from_start_of, limit_reason, stop_reason, stops_alike}
use Rattle.greedy.proofs.Noting.{left_none, left_same, noted_back, noted_whole}
use Rattle.greedy.proofs.Applications.{pattern_set_lawful}
use Rattle.greedy.proofs.run.run.Goals as goal

pub returns-then-limit-lt1-clause-refused : goal.returns-then-limit-lt1-clause-refused
returns-then-limit-lt1-clause-refused g c = elim c.then-limit-lt1.either [
  | inl l ↦ limit_reason (pattern_set_of c.args.pattern_set.now) c.args.limit _ _ (limit_low c.args.limit l)
  | inr p ↦ limit_reason (pattern_set_of c.args.pattern_set.now) c.args.limit _ _ (limit_high c.args.limit p.0 p.1)
]

pub returns-in-Err-clause-refused : goal.returns-in-Err-clause-refused
returns-in-Err-clause-refused g c = stop_reason (pattern_set_of c.args.pattern_set.now) (pattern_set_lawful c.args.pattern_set.now c.requires).counts c.args.limit _ _ _ (limit_fits c.args.limit c.if-limit-lt1.false c.if-limit-gt1000000.false) (inl refl)

pub returns-in-Ok-rewritten-clause-ok : goal.returns-in-Ok-rewritten-clause-ok
returns-in-Ok-rewritten-clause-ok g c =
    from_start_of (pattern_set_of c.args.pattern_set.now) c.args.limit _ _ (limit_fits c.args.limit c.if-limit-lt1.false c.if-limit-gt1000000.false) c.in-Ok.ensures.held
    ∙ c.in-Ok-rewritten.ensures.ok
    ∙ ap (λ m. ended m (count_of c.in-Ok-rewritten.outcome) (ending_of c.in-Ok-rewritten.outcome)) (sym c.commit.ensures.held)

pub returns-in-Err-rewritten-clause-refused : goal.returns-in-Err-rewritten-clause-refused
returns-in-Err-rewritten-clause-refused g c =
    stop_reason (pattern_set_of c.args.pattern_set.now) (pattern_set_lawful c.args.pattern_set.now c.requires).counts c.args.limit _ _ c.in-Err-rewritten.refusal (limit_fits c.args.limit c.if-limit-lt1.false c.if-limit-gt1000000.false)
    (stops_alike (pattern_set_of c.args.pattern_set.now) c.args.limit _ _ _ _ c.in-Err-rewritten.refusal c.in-Ok.ensures.held (g.R.GreedyRewriter.stays_full _ _ c.rollback.ensures.onward) c.in-Err-rewritten.ensures.refused)

pub returns-in-Ok-rewritten-clause-onward : goal.returns-in-Ok-rewritten-clause-onward
returns-in-Ok-rewritten-clause-onward g c =
    let r = g.R.GreedyRewriter in
    r.through _ _ _ (r.through _ _ _ c.in-Ok.ensures.onward c.rewritten.ensures.onward) c.commit.ensures.onward

pub returns-in-Err-rewritten-clause-onward : goal.returns-in-Err-rewritten-clause-onward
returns-in-Err-rewritten-clause-onward g c =
    let r = g.R.GreedyRewriter in
    r.through _ _ _ (r.through _ _ _ c.in-Ok.ensures.onward c.rewritten.ensures.onward) c.rollback.ensures.onward

pub returns-then-limit-lt1-clause-journal : goal.returns-then-limit-lt1-clause-journal
returns-then-limit-lt1-clause-journal g c = left_none (g.R.GreedyRewriter.transaction c.args.bench.now)

pub returns-in-Err-clause-journal : goal.returns-in-Err-clause-journal
returns-in-Err-clause-journal g c = left_same _ _ c.in-Err.ensures.left

pub returns-in-Ok-rewritten-clause-journal : goal.returns-in-Ok-rewritten-clause-journal
returns-in-Ok-rewritten-clause-journal g c = noted_whole _ _ _ _ c.step.ensures.none c.in-Ok.ensures.opened c.rewritten.ensures.journal c.commit.ensures.dropped

pub returns-in-Err-rewritten-clause-journal : goal.returns-in-Err-rewritten-clause-journal
returns-in-Err-rewritten-clause-journal g c = noted_back _ _ _ _ c.step.ensures.none c.in-Ok.ensures.opened c.rewritten.ensures.journal c.rollback.ensures.dropped
