use Rattle.std.proofs.Common.{refl}
use Rattle.rewriter.specs.Edits as edit
use Rattle.rewriter.specs.RewriterCalls.{state_of}
use Rattle.patterns_lowering.proofs.Carrying.{tried_by}
use Rattle.patterns_lowering.proofs.Freely.{free_numbered}
use Rattle.patterns_lowering.proofs.single_unchecked.move_one.Goals as goal

pub returns-clause-attempted : goal.returns-clause-attempted
returns-clause-attempted g c = (tried_by (state_of g.L.Analysis.meaning c.args.bench.now) (state_of g.L.Analysis.meaning c.move_unchecked.new.self) _ c.move_unchecked.result c.move_unchecked.result c.move_unchecked.ensures.does refl).0

pub move_unchecked-requires : goal.move_unchecked-requires
move_unchecked-requires g c = free_numbered (edit.Move c.args.op c.args.place) c.args.bench.now.transaction c.requires
