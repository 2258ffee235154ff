use Rattle.std.proofs.Common.{subst, sym, ℕ, List}
use Rattle.ir_event.specs.trees.Tree.{head}
use Rattle.greedy.specs.Ruled.{model_of}
use Rattle.greedy.specs.Work.{Right}
use Rattle.greedy.proofs.Scans.{begun}
use Rattle.greedy.proofs.Applications.{entries_lawful_of, is_ready}
use Rattle.greedy.proofs.run.rewritten.Goals as goal

pub rewrites-requires-clause-right : goal.rewrites-requires-clause-right
rewrites-requires-clause-right g c =
    let m = g.R.GreedyRewriter.held c.args.bench.now in
    let d = g.R.GreedyRewriter.distinct m c.is_wellformed.ensures in
    let a = model_of c.args.pattern_set.now.entries in
    is_ready c.args.pattern_set.now _ _ m (subst (λ (p : ℕ). Right a p c.new.result.items m) (sym c.root.ensures) (subst (λ (l : List ℕ). Right a (head m.tree).id l m) (sym c.new.ensures.items) (begun a m d ((entries_lawful_of c.args.pattern_set.now.entries c.requires.ruled).root m d))))
