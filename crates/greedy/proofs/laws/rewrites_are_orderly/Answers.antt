use Rattle.greedy.proofs.Law.{highest_priority_orderly}
use Rattle.greedy.proofs.Rootless.{rootless}
use Rattle.greedy.proofs.laws.rewrites_are_orderly.Goals as goal

pub returns-clause-orderly : goal.returns-clause-orderly
returns-clause-orderly c m d below x n e = highest_priority_orderly m d below x n e

pub returns-clause-root : goal.returns-clause-root
returns-clause-root c m d = rootless m d
