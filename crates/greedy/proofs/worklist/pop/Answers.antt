use Rattle.std.proofs.Common.{sym, subst, ◌∙◌, []}
use Rattle.greedy.specs.Work.{IsWork, Taken, NoneWaits}
use Rattle.greedy.proofs.Works.{taken_again, taken_next, none_waits, none_left, none_popped}
use Rattle.greedy.proofs.worklist.pop.Goals as goal

pub returns-in-Some : goal.returns-in-Some
returns-in-Some g c =
    let t = (g.R.GreedyRewriter.held c.args.bench.now).tree in
    let d = g.R.GreedyRewriter.distinct _ c.is_wellformed.ensures in
    subst (λ xs. Taken c.in-Some.op c.args.work.now.passed xs c.args.work.now.passed c.pop.new.self.items t) (sym c.in-Some.ensures.items)
    (taken_again t d c.args.work.now.passed c.pop.new.self.items c.in-Some.op (subst (λ xs. IsWork c.args.work.now.passed xs t) c.in-Some.ensures.items c.requires))

pub returns-in_default-following : goal.returns-in_default-following
returns-in_default-following g c =
    let t = (g.R.GreedyRewriter.held c.args.bench.now).tree in
    let d = g.R.GreedyRewriter.distinct _ c.is_wellformed.ensures in
    let nil = none_left c.args.work.now.again.items c.pop.new.self.items _ c.in_default.ensures.items c.in_default.ensures.rest c.in_default.ensures.cases.0 in
    subst (λ xs. NoneWaits c.args.work.now.passed xs t) (sym nil) (none_waits t d c.args.work.now.passed (sym c.following.ensures ∙ c.in_default-following.is))

pub returns : goal.returns
returns g c =
    let t = (g.R.GreedyRewriter.held c.args.bench.now).tree in
    let d = g.R.GreedyRewriter.distinct _ c.is_wellformed.ensures in
    let nil = none_left c.args.work.now.again.items c.pop.new.self.items _ c.in_default.ensures.items c.in_default.ensures.rest c.in_default.ensures.cases.0 in
    let left = none_popped c.args.work.now.again.items c.pop.new.self.items _ c.in_default.ensures.rest c.in_default.ensures.cases.0 in
    subst (λ xs. Taken c.in-Some-following.op c.args.work.now.passed xs c.in-Some-following.op c.pop.new.self.items t) (sym nil)
    (subst (λ ys. Taken c.in-Some-following.op c.args.work.now.passed [] c.in-Some-following.op ys t) (sym left)
    (taken_next t d c.args.work.now.passed c.in-Some-following.op c.requires.there (sym c.following.ensures ∙ c.in-Some-following.is)))
