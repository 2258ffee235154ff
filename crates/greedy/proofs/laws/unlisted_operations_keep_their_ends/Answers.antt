use Rattle.greedy.proofs.Seeing.{ends_as_before}
use Rattle.greedy.proofs.laws.unlisted_operations_keep_their_ends.Goals as goal

pub returns : goal.returns
returns c = ends_as_before
