use Rattle.std.proofs.Common.{refl}
use Rattle.rewriter.specs.RewriterCalls.{state_of}
use Rattle.patterns_lowering.proofs.Carrying.{tried_by}
use Rattle.patterns_lowering.proofs.single.set_one.Goals as goal

pub returns-clause-attempted : goal.returns-clause-attempted
returns-clause-attempted g c = (tried_by (state_of g.L.Analysis.meaning c.args.bench.now) (state_of g.L.Analysis.meaning c.set_operand.new.self) _ c.set_operand.result c.set_operand.result c.set_operand.ensures.does refl).0
