use Rattle.rewriter.proofs.IsMadeOrRefused.{IsMade}
use Rattle.rewriter.proofs.making.make_each.Given as goal

abbrev pub invariant-loop-header : goal.invariant-loop-header
invariant-loop-header g l = IsMade g.L.Analysis.meaning l.header-items l.header-index l.initial.bench l.bench
