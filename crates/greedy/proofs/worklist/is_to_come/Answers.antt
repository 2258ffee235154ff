use Rattle.std.proofs.Common.{sym, subst, eqb-true, ◌≡◌, true}
use Rattle.ir_event.specs.tree_laws.Reads.{precedes}
use Rattle.greedy.proofs.Works.{not_itself}
use Rattle.greedy.proofs.worklist.is_to_come.Goals as goal
use Rattle.std.proofs.lemmas.Bool.{false_from_ne_true}

pub returns-then-eq : goal.returns-then-eq
returns-then-eq g c =
    let t = (g.R.GreedyRewriter.held c.args.bench.now).tree in
    let d = g.R.GreedyRewriter.distinct _ c.is_wellformed.ensures in
    let same = eqb-true c.args.work.now.passed c.args.op (sym c.if-eq.ensures) in
    sym (false_from_ne_true (precedes c.args.work.now.passed c.args.op t) (λ h. not_itself t d c.args.op (subst (λ z. precedes z c.args.op t ≡ true) same h)))
