use Rattle.std.proofs.Common.{arith, ◌∙◌, ◌++◌, ◌∷◌, [], refl, ap, sym, subst, true, false}
use Rattle.std.specs.Prelude.{is_some}
use Rattle.patterns_base.specs.Canonicalization.{ended, converged, limited}
use Rattle.greedy.specs.Ruled.{pattern_set_of}
use Rattle.greedy.proofs.Comings.{at_start, one_more, converges, refuses, tells, tells_none, converged_there, limited_there}
use Rattle.greedy.proofs.Noting.{noted_left, noted_more, noted_none}
use Rattle.greedy.proofs.Applications.{pattern_set_lawful}
use Rattle.greedy.proofs.Traces.{not_applied, trace_at_limit, trace_more, trace_start, trace_whole}
use Rattle.greedy.specs.Outcomes.{Applied}
use Rattle.greedy.specs.Rewriting.{next_by}
use Rattle.greedy.proofs.run.rewrites.Goals as goal

pub rewrites-init : goal.rewrites-init
rewrites-init g c = (at_start (pattern_set_of c.args.pattern_set.now) c.args.limit (g.R.GreedyRewriter.held c.args.bench.now), (omega arith, (refl, (c.requires.right, (g.R.GreedyRewriter.stays c.args.bench.now, (noted_none (g.R.GreedyRewriter.transaction c.args.bench.now), ([], (g.T.Tracer.untouched c.args.trace.now, trace_start (pattern_set_of c.args.pattern_set.now) (pattern_set_lawful c.args.pattern_set.now c.requires.ruled).applied c.args.limit (g.R.GreedyRewriter.held c.args.bench.now)))))))))

pub rewrites-preserved : goal.rewrites-preserved
rewrites-preserved g c =
    let pattern_set = pattern_set_of c.args.pattern_set.now in
    let f = c.in-Ok-Some.applied in
    let last_applied = subst (λ o. Applied (next_by pattern_set (g.R.GreedyRewriter.held c.rewrites.bench)) (is_some o) (g.R.GreedyRewriter.held c.rewrites.bench) (g.R.GreedyRewriter.held c.next.new.bench)) c.in-Ok-Some.field-0-is c.in-Ok-Some.ensures.ok in (
      one_more pattern_set c.args.limit _ c.rewrites.count _ c.rewrites.invariant.0 _ true c.rewrites-test.true refl last_applied,
      (
        omega arith,
        (
          c.next.ensures.marks ∙ c.rewrites.invariant.1.1.0,
          (
            c.in-Ok-Some.ensures.right (ap is_some c.in-Ok-Some.field-0-is),
            (
              g.R.GreedyRewriter.through c.args.bench.now c.rewrites.bench c.next.new.bench c.rewrites.invariant.1.1.1.1.0 c.next.ensures.onward,
              (
                noted_more _ _ _ c.rewrites.invariant.1.1.1.1.1.0 c.next.ensures.journal,
                (
                  c.rewrites.invariant.1.1.1.1.1.1.0 ++ (f ∷ []),
                  (
                    g.T.Tracer.joined c.rewrites.invariant.1.1.1.1.1.1.0 (f ∷ []) c.args.trace.now c.rewrites.trace c.record_rewrite.new.self c.rewrites.invariant.1.1.1.1.1.1.1.0 c.in-Ok.ensures.reported,
                    trace_more pattern_set (pattern_set_lawful c.args.pattern_set.now c.requires.ruled).applied c.args.limit (g.R.GreedyRewriter.held c.args.bench.now) c.rewrites.count (g.R.GreedyRewriter.held c.rewrites.bench) c.rewrites.invariant.1.1.1.1.1.1.0 c.rewrites.invariant.1.1.1.1.1.1.1.1 f (g.R.GreedyRewriter.held c.next.new.bench) c.rewrites-test.true (sym c.in-Ok-Some.field-0-is ∙ c.in-Ok-Some.ensures.applied) last_applied,
                  ),
                ),
              ),
            ),
          ),
        ),
      ),
    )

pub returns-in-Ok-None-clause-ok : goal.returns-in-Ok-None-clause-ok
returns-in-Ok-None-clause-ok g c = converges (pattern_set_of c.args.pattern_set.now) c.args.limit _ c.rewrites.count _ c.rewrites.invariant.0 _ false refl (subst (λ f. Applied (next_by (pattern_set_of c.args.pattern_set.now) (g.R.GreedyRewriter.held c.rewrites.bench)) (is_some f) (g.R.GreedyRewriter.held c.rewrites.bench) (g.R.GreedyRewriter.held c.next.new.bench)) c.in-Ok-None.field-0-is c.in-Ok-None.ensures.ok)

pub returns-in-Err-clause-refused : goal.returns-in-Err-clause-refused
returns-in-Err-clause-refused g c = refuses (pattern_set_of c.args.pattern_set.now) c.args.limit _ c.rewrites.count _ c.rewrites.invariant.0 _ c.in-Err.refusal c.rewrites-test.true c.in-Err.ensures.refused

pub returns-in-Ok-true-clause-ok : goal.returns-in-Ok-true-clause-ok
returns-in-Ok-true-clause-ok g c =
    limited_there (pattern_set_of c.args.pattern_set.now) c.args.limit _ c.rewrites.count _ c.rewrites.invariant.0 c.rewrites-test.false (tells _ c.in-Ok-true.field-0 c.in-Ok-true.field-0-test c.in-Ok-true.ensures.ok)
    ∙ ap (λ m. ended m c.rewrites.count limited) (sym c.applies.ensures.held)

pub returns-in-Ok-false-clause-ok : goal.returns-in-Ok-false-clause-ok
returns-in-Ok-false-clause-ok g c =
    converged_there (pattern_set_of c.args.pattern_set.now) c.args.limit _ c.rewrites.count _ c.rewrites.invariant.0 c.rewrites-test.false (tells_none _ c.in-Ok-false.field-0 c.in-Ok-false.field-0-test c.in-Ok-false.ensures.ok)
    ∙ ap (λ m. ended m c.rewrites.count converged) (sym c.applies.ensures.held)

pub returns-in-Ok-None-clause-onward : goal.returns-in-Ok-None-clause-onward
returns-in-Ok-None-clause-onward g c = g.R.GreedyRewriter.through _ _ _ c.rewrites.invariant.1.1.1.1.0 c.next.ensures.onward

pub returns-in-Err-clause-onward : goal.returns-in-Err-clause-onward
returns-in-Err-clause-onward g c = g.R.GreedyRewriter.through _ _ _ c.rewrites.invariant.1.1.1.1.0 c.next.ensures.onward

pub returns-in-Ok-true-clause-onward : goal.returns-in-Ok-true-clause-onward
returns-in-Ok-true-clause-onward g c = g.R.GreedyRewriter.through _ _ _ c.rewrites.invariant.1.1.1.1.0 c.applies.ensures.onward

pub returns-in-Ok-false-clause-onward : goal.returns-in-Ok-false-clause-onward
returns-in-Ok-false-clause-onward g c = g.R.GreedyRewriter.through _ _ _ c.rewrites.invariant.1.1.1.1.0 c.applies.ensures.onward

pub returns-in-Err-applies-clause-onward : goal.returns-in-Err-applies-clause-onward
returns-in-Err-applies-clause-onward g c = g.R.GreedyRewriter.through _ _ _ c.rewrites.invariant.1.1.1.1.0 c.applies.ensures.onward

pub returns-in-Ok-None-clause-journal : goal.returns-in-Ok-None-clause-journal
returns-in-Ok-None-clause-journal g c = noted_more _ _ _ c.rewrites.invariant.1.1.1.1.1.0 c.next.ensures.journal

pub returns-in-Err-clause-journal : goal.returns-in-Err-clause-journal
returns-in-Err-clause-journal g c = noted_more _ _ _ c.rewrites.invariant.1.1.1.1.1.0 c.next.ensures.journal

pub returns-in-Ok-true-clause-journal : goal.returns-in-Ok-true-clause-journal
returns-in-Ok-true-clause-journal g c = noted_left _ _ _ c.rewrites.invariant.1.1.1.1.1.0 c.applies.ensures.left

pub returns-in-Ok-false-clause-journal : goal.returns-in-Ok-false-clause-journal
returns-in-Ok-false-clause-journal g c = noted_left _ _ _ c.rewrites.invariant.1.1.1.1.1.0 c.applies.ensures.left

pub returns-in-Err-applies-clause-journal : goal.returns-in-Err-applies-clause-journal
returns-in-Err-applies-clause-journal g c = noted_left _ _ _ c.rewrites.invariant.1.1.1.1.1.0 c.applies.ensures.left

pub returns-in-Ok-None-clause-trace : goal.returns-in-Ok-None-clause-trace
returns-in-Ok-None-clause-trace g c =
    subst (λ fs. g.T.Tracer.traced fs c.args.trace.now c.rewrites.trace)
    (sym (trace_whole (pattern_set_of c.args.pattern_set.now) (pattern_set_lawful c.args.pattern_set.now c.requires.ruled).applied c.args.limit (g.R.GreedyRewriter.held c.args.bench.now) c.rewrites.count (g.R.GreedyRewriter.held c.rewrites.bench) c.rewrites.invariant.1.1.1.1.1.1.0 c.rewrites.invariant.1.1.1.1.1.1.1.1 (not_applied (next_by (pattern_set_of c.args.pattern_set.now) (g.R.GreedyRewriter.held c.rewrites.bench)) _ _ (subst (λ f. Applied (next_by (pattern_set_of c.args.pattern_set.now) (g.R.GreedyRewriter.held c.rewrites.bench)) (is_some f) (g.R.GreedyRewriter.held c.rewrites.bench) (g.R.GreedyRewriter.held c.next.new.bench)) c.in-Ok-None.field-0-is c.in-Ok-None.ensures.ok))))
    c.rewrites.invariant.1.1.1.1.1.1.1.0

pub returns-in-Ok-true-clause-trace : goal.returns-in-Ok-true-clause-trace
returns-in-Ok-true-clause-trace g c =
    subst (λ fs. g.T.Tracer.traced fs c.args.trace.now c.rewrites.trace)
    (sym (trace_at_limit (pattern_set_of c.args.pattern_set.now) (pattern_set_lawful c.args.pattern_set.now c.requires.ruled).applied c.args.limit (g.R.GreedyRewriter.held c.args.bench.now) c.rewrites.count (g.R.GreedyRewriter.held c.rewrites.bench) c.rewrites.invariant.1.1.1.1.1.1.0 c.rewrites.invariant.1.1.1.1.1.1.1.1 c.rewrites-test.false))
    c.rewrites.invariant.1.1.1.1.1.1.1.0

pub returns-in-Ok-false-clause-trace : goal.returns-in-Ok-false-clause-trace
returns-in-Ok-false-clause-trace g c =
    subst (λ fs. g.T.Tracer.traced fs c.args.trace.now c.rewrites.trace)
    (sym (trace_at_limit (pattern_set_of c.args.pattern_set.now) (pattern_set_lawful c.args.pattern_set.now c.requires.ruled).applied c.args.limit (g.R.GreedyRewriter.held c.args.bench.now) c.rewrites.count (g.R.GreedyRewriter.held c.rewrites.bench) c.rewrites.invariant.1.1.1.1.1.1.0 c.rewrites.invariant.1.1.1.1.1.1.1.1 c.rewrites-test.false))
    c.rewrites.invariant.1.1.1.1.1.1.1.0

pub returns-in-Err-record_rewrite-clause-onward : goal.returns-in-Err-record_rewrite-clause-onward
returns-in-Err-record_rewrite-clause-onward g c = g.R.GreedyRewriter.through _ _ _ c.rewrites.invariant.1.1.1.1.0 c.next.ensures.onward

pub returns-in-Err-record_rewrite-clause-journal : goal.returns-in-Err-record_rewrite-clause-journal
returns-in-Err-record_rewrite-clause-journal g c = noted_more _ _ _ c.rewrites.invariant.1.1.1.1.1.0 c.next.ensures.journal
