use Rattle.greedy.proofs.SameRules.{same_rewriting}
use Rattle.greedy.proofs.laws.rewriting_by_its_rules_is_canonicalization.Goals as goal

pub returns : goal.returns
returns c = same_rewriting
