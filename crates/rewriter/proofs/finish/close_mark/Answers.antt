use Rattle.std.proofs.Common.{sym, subst, Bool}
use Rattle.rewriter.specs.Wholes.{IsFinished}
use Rattle.rewriter.proofs.Together.{finished_so, undone_so}
use Rattle.rewriter.proofs.finish.close_mark.Goals as goal

pub returns-then-stays-clause-finished : goal.returns-then-stays-clause-finished
returns-then-stays-clause-finished g c =
    subst (λ (b : Bool). IsFinished b c.args.bench.now.transaction c.commit.new.self.transaction) (sym c.if-stays.true)
    (finished_so g.L.Analysis.meaning c.commit.result _ c.args.bench.now c.commit.new.self c.commit.ensures.ctx c.commit.ensures.does c.commit.ensures.ok c.commit.ensures.none)

pub returns-clause-finished : goal.returns-clause-finished
returns-clause-finished g c =
    subst (λ (b : Bool). IsFinished b c.args.bench.now.transaction c.rollback.new.self.transaction) (sym c.if-stays.false)
    (undone_so g.L.Analysis.meaning c.rollback.result _ c.args.bench.now c.rollback.new.self c.rollback.ensures.ctx c.rollback.ensures.does c.rollback.ensures.ok c.rollback.ensures.none)
