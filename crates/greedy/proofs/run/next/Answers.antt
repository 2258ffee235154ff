use Rattle.std.proofs.Common.{◌≡◌, subst, sym, true}
use Rattle.std.specs.Prelude.{IfErr, IfOk, is_some}
use Rattle.greedy.specs.Outcomes.{Applied, Refuses}
use Rattle.greedy.specs.Rewriting.{next_by}
use Rattle.greedy.specs.Ruled.{IsReadyFor, model_of, tried_at}
use Rattle.greedy.specs.Tracing.{applied_next}
use Rattle.greedy.proofs.OnlyAt.{none_needed}
use Rattle.greedy.proofs.run.next.Goals as goal

pub one-requires-clause-right : goal.one-requires-clause-right
one-requires-clause-right g c =
    subst (λ o. IsReadyFor o (model_of c.args.pattern_set.now.entries) c.args.work.now.passed c.args.work.now.again.items (g.R.GreedyRewriter.held c.args.bench.now)) c.in-None.is c.requires.right

pub returns-in-None-clause-ok : goal.returns-in-None-clause-ok
returns-in-None-clause-ok g c =
    let m = g.R.GreedyRewriter.held c.args.bench.now in
    let n = g.R.GreedyRewriter.held c.one.new.bench in
    subst (λ o. IfOk c.one.result (λ f. Applied (next_by (tried_at o (model_of c.args.pattern_set.now.entries)) m) (is_some f) m n)) (sym c.in-None.is) c.one.ensures.ok

pub returns-in-None-clause-applied : goal.returns-in-None-clause-applied
returns-in-None-clause-applied g c =
    let m = g.R.GreedyRewriter.held c.args.bench.now in
    subst (λ o. IfOk c.one.result (λ f. f ≡ applied_next (tried_at o (model_of c.args.pattern_set.now.entries)) m)) (sym c.in-None.is) c.one.ensures.applied

pub returns-in-None-clause-refused : goal.returns-in-None-clause-refused
returns-in-None-clause-refused g c =
    let m = g.R.GreedyRewriter.held c.args.bench.now in
    subst (λ o. IfErr c.one.result (λ e. Refuses (next_by (tried_at o (model_of c.args.pattern_set.now.entries)) m) (g.R.GreedyRewriter.full c.one.new.bench) e)) (sym c.in-None.is) c.one.ensures.refused

pub returns-in-None-clause-right : goal.returns-in-None-clause-right
returns-in-None-clause-right g c =
    subst (λ o. IfOk c.one.result (λ f. is_some f ≡ true → IsReadyFor o (model_of c.args.pattern_set.now.entries) c.one.new.work.passed c.one.new.work.again.items (g.R.GreedyRewriter.held c.one.new.bench))) (sym c.in-None.is) c.one.ensures.right

pub returns-in-Some-clause-ok : goal.returns-in-Some-clause-ok
returns-in-Some-clause-ok g c =
    let m = g.R.GreedyRewriter.held c.args.bench.now in
    let n = g.R.GreedyRewriter.held c.one_at.new.bench in
    subst (λ o. IfOk c.one_at.result (λ f. Applied (next_by (tried_at o (model_of c.args.pattern_set.now.entries)) m) (is_some f) m n)) (sym c.in-Some.is) c.one_at.ensures.ok

pub returns-in-Some-clause-applied : goal.returns-in-Some-clause-applied
returns-in-Some-clause-applied g c =
    let m = g.R.GreedyRewriter.held c.args.bench.now in
    subst (λ o. IfOk c.one_at.result (λ f. f ≡ applied_next (tried_at o (model_of c.args.pattern_set.now.entries)) m)) (sym c.in-Some.is) c.one_at.ensures.applied

pub returns-in-Some-clause-refused : goal.returns-in-Some-clause-refused
returns-in-Some-clause-refused g c =
    let m = g.R.GreedyRewriter.held c.args.bench.now in
    subst (λ o. IfErr c.one_at.result (λ e. Refuses (next_by (tried_at o (model_of c.args.pattern_set.now.entries)) m) (g.R.GreedyRewriter.full c.one_at.new.bench) e)) (sym c.in-Some.is) c.one_at.ensures.refused

pub returns-in-Some-clause-right : goal.returns-in-Some-clause-right
returns-in-Some-clause-right g c =
    subst (λ o. IfOk c.one_at.result (λ f. is_some f ≡ true → IsReadyFor o (model_of c.args.pattern_set.now.entries) c.args.work.now.passed c.args.work.now.again.items (g.R.GreedyRewriter.held c.one_at.new.bench))) (sym c.in-Some.is) (none_needed c.one_at.result)
