use Rattle.rewriter.specs.RewriterCalls.{state_of}
use Rattle.patterns_lowering.proofs.Carrying.{made_by, unmade_by}
use Rattle.patterns_lowering.proofs.single.make_one.Goals as goal

pub returns-in-Ok-clause-attempted : goal.returns-in-Ok-clause-attempted
returns-in-Ok-clause-attempted g c = (made_by (state_of g.L.Analysis.meaning c.args.bench.now) (state_of g.L.Analysis.meaning c.make.new.self) _ _ c.in-Ok.ensures.does).0

pub returns-in-Err-clause-attempted : goal.returns-in-Err-clause-attempted
returns-in-Err-clause-attempted g c = (unmade_by (state_of g.L.Analysis.meaning c.args.bench.now) (state_of g.L.Analysis.meaning c.make.new.self) _ _ c.in-Err.ensures.does).0
