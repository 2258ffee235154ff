use Rattle.std.proofs.Common.{refl}
use Rattle.rewriter.specs.Edits as edit
use Rattle.rewriter.specs.RewriterCalls.{state_of}
use Rattle.patterns_lowering.proofs.Carrying.{tried_by}
use Rattle.patterns_lowering.proofs.Freely.{free_numbered}
use Rattle.patterns_lowering.proofs.single_unchecked.replace_one.Goals as goal

pub returns-clause-attempted : goal.returns-clause-attempted
returns-clause-attempted g c = (tried_by (state_of g.L.Analysis.meaning c.args.bench.now) (state_of g.L.Analysis.meaning c.replace_unchecked.new.self) _ c.replace_unchecked.result c.replace_unchecked.result c.replace_unchecked.ensures.does refl).0

pub returns-clause-along : goal.returns-clause-along
returns-clause-along g c = record {
  ctx = c.replace_unchecked.ensures.ctx;
  opens = (tried_by (state_of g.L.Analysis.meaning c.args.bench.now) (state_of g.L.Analysis.meaning c.replace_unchecked.new.self) _ c.replace_unchecked.result c.replace_unchecked.result c.replace_unchecked.ensures.does refl).1;
  led = c.replace_unchecked.ensures.led;
}

pub replace_unchecked-requires : goal.replace_unchecked-requires
replace_unchecked-requires g c = free_numbered (edit.Replace c.args.old c.args.new) c.args.bench.now.transaction c.requires
