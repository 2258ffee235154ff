use Rattle.std.proofs.Common.{rules, ◌≡◌, sym, ap, subst, ◌∙◌, filter, not}
use Rattle.std.proofs.lemmas.Fn.{filter_same}
use Rattle.ir_event.specs.tree_laws.Reads.{precedes}
use Rattle.greedy.specs.Work.{IsWork, StillWaits}
use Rattle.greedy.proofs.Works.{passed_stays, waits_on, back_work, waits_back}
use Rattle.greedy.proofs.worklist.drop_erased.Goals as goal

pub returns-then-in_tree-clause-work : goal.returns-then-in_tree-clause-work
returns-then-in_tree-clause-work g c =
    let n = g.R.GreedyRewriter.held c.args.bench.now in
    λ m x r w. subst (λ xs. IsWork c.args.work.now.passed xs n.tree) (sym c.drop_missing.ensures) (passed_stays m n x c.args.site.now.before c.args.work.now.passed c.args.work.now.again.items r w (sym c.if-in_tree.ensures))

pub returns-then-in_tree-clause-others : goal.returns-then-in_tree-clause-others
returns-then-in_tree-clause-others g c =
    let n = g.R.GreedyRewriter.held c.args.bench.now in
    λ m x r w. subst (λ xs. StillWaits c.args.work.now.passed c.args.work.now.again.items m.tree c.args.work.now.passed xs n.tree) (sym c.drop_missing.ensures) (waits_on m n x c.args.site.now.before c.args.work.now.passed c.args.work.now.again.items r w (sym c.if-in_tree.ensures))

pub returns-clause-work : goal.returns-clause-work
returns-clause-work g c =
    let n = g.R.GreedyRewriter.held c.args.bench.now in
    let xs = c.args.work.now.again.items in
    let second : c.retain.new.self.items ≡ filter (λ z. not (precedes c.args.site.now.before z n.tree)) c.drop_missing.new.ops.items = filter_same _ _ _ (λ x b f k. search rules) _ _ c.retain.ensures.filtered in
    let kept = second ∙ ap (filter (λ z. not (precedes c.args.site.now.before z n.tree))) c.drop_missing.ensures in
    λ m x r w. subst (λ ys. IsWork c.args.site.now.before ys n.tree) (sym kept) (back_work m n x c.args.site.now.before c.args.work.now.passed xs r w)

pub returns-clause-others : goal.returns-clause-others
returns-clause-others g c =
    let n = g.R.GreedyRewriter.held c.args.bench.now in
    let xs = c.args.work.now.again.items in
    let second : c.retain.new.self.items ≡ filter (λ z. not (precedes c.args.site.now.before z n.tree)) c.drop_missing.new.ops.items = filter_same _ _ _ (λ x b f k. search rules) _ _ c.retain.ensures.filtered in
    let kept = second ∙ ap (filter (λ z. not (precedes c.args.site.now.before z n.tree))) c.drop_missing.ensures in
    λ m x r w. subst (λ ys. StillWaits c.args.work.now.passed xs m.tree c.args.site.now.before ys n.tree) (sym kept) (waits_back m n x c.args.site.now.before c.args.work.now.passed xs r w (sym c.if-in_tree.ensures))
