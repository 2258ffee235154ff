use Rattle.std.proofs.Common.{sym, subst, ◌∙◌, ◌++◌, ◌∷◌, []}
use Rattle.greedy.specs.Work.{AreApart, Falls}
use Rattle.greedy.proofs.Beyond.{apart_by_last, last_split}
use Rattle.greedy.proofs.worklist.is_apart.Goals as goal

pub returns-in-Some : goal.returns-in-Some
returns-in-Some g c = λ e.
    let t = (g.R.GreedyRewriter.held c.args.bench.now).tree in
    let d = g.R.GreedyRewriter.distinct _ c.is_wellformed.ensures in
    let x = c.in-Some.first.now in
    let w = last_split c.deref.result.now x (sym c.in-Some.ensures.value) in
    let falls : Falls t (w.0 ++ x ∷ []) = subst (Falls t) (sym c.deref.ensures.value ∙ w.1) c.requires in
    subst (λ ys. AreApart c.args.op ys t) (sym w.1 ∙ c.deref.ensures.value) (apart_by_last t d c.args.op x w.0 falls (c.is_beyond.ensures e))
