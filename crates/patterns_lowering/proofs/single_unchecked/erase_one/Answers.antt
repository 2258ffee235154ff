use Rattle.rewriter.specs.Edits as edit
use Rattle.patterns_lowering.proofs.Freely.{free_numbered}
use Rattle.patterns_lowering.proofs.single_unchecked.erase_one.Goals as goal

pub erase_unchecked-requires : goal.erase_unchecked-requires
erase_unchecked-requires g c = free_numbered (edit.Erase c.args.op) c.args.bench.now.transaction c.requires
