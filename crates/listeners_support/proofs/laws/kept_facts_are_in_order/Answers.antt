use Rattle.listeners_support.proofs.SortedFacts.{kept_in_order}
use Rattle.listeners_support.proofs.laws.kept_facts_are_in_order.Goals as goal

pub returns : goal.returns
returns g _ fact is_kept t es sorted kept = kept_in_order fact is_kept t es sorted kept
