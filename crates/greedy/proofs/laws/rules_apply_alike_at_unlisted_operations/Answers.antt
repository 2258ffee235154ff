use Rattle.greedy.proofs.Applying.{touched_all}
use Rattle.greedy.proofs.laws.rules_apply_alike_at_unlisted_operations.Goals as goal

pub returns : goal.returns
returns c = λ shown c es m n listed leads d lists. touched_all shown c es m n leads d listed lists
