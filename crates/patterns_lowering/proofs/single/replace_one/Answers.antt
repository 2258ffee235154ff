use Rattle.std.proofs.Common.{refl}
use Rattle.rewriter.specs.RewriterCalls.{state_of}
use Rattle.patterns_lowering.proofs.Carrying.{tried_by}
use Rattle.patterns_lowering.proofs.single.replace_one.Goals as goal

pub returns-clause-attempted : goal.returns-clause-attempted
returns-clause-attempted g c = (tried_by (state_of g.L.Analysis.meaning c.args.bench.now) (state_of g.L.Analysis.meaning c.replace_all.new.self) _ c.replace_all.result c.replace_all.result c.replace_all.ensures.does refl).0

pub returns-clause-along : goal.returns-clause-along
returns-clause-along g c = record {
  ctx = c.replace_all.ensures.ctx;
  opens = (tried_by (state_of g.L.Analysis.meaning c.args.bench.now) (state_of g.L.Analysis.meaning c.replace_all.new.self) _ c.replace_all.result c.replace_all.result c.replace_all.ensures.does refl).1;
  led = c.replace_all.ensures.led;
}
