use Rattle.patterns_lowering.proofs.Counted.{lowering_made}
use Rattle.patterns_lowering.proofs.laws.counted_operations_are_made.Goals as goal

pub returns : goal.returns
returns c = lowering_made
