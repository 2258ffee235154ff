use Rattle.rewriter.specs.Edits as edit
use Rattle.rewriter.specs.RewriterCalls.{state_of}
use Rattle.patterns_lowering.proofs.Carrying.{made_by, unmade_by}
use Rattle.patterns_lowering.proofs.Freely.{free_numbered}
use Rattle.patterns_lowering.proofs.single_unchecked.make_one.Goals as goal

pub returns-in-Ok-clause-attempted : goal.returns-in-Ok-clause-attempted
returns-in-Ok-clause-attempted g c = (made_by (state_of g.L.Analysis.meaning c.args.bench.now) (state_of g.L.Analysis.meaning c.make_unchecked.new.self) _ _ c.in-Ok.ensures.does).0

pub returns-in-Err-clause-attempted : goal.returns-in-Err-clause-attempted
returns-in-Err-clause-attempted g c = (unmade_by (state_of g.L.Analysis.meaning c.args.bench.now) (state_of g.L.Analysis.meaning c.make_unchecked.new.self) _ _ c.in-Err.ensures.does).0

pub make_unchecked-requires-clause-free : goal.make_unchecked-requires-clause-free
make_unchecked-requires-clause-free g c = free_numbered (edit.Make c.args.place c.args.op.now) c.args.bench.now.transaction c.requires.free
