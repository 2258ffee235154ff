use Rattle.greedy.proofs.Seeing.{dominated_by_the_same}
use Rattle.greedy.proofs.laws.unlisted_operations_see_the_same.Goals as goal

pub returns : goal.returns
returns c = dominated_by_the_same
