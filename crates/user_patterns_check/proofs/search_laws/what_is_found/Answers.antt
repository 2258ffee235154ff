use Rattle.user_patterns_check.proofs.Found.{finds, fails}
use Rattle.user_patterns_check.proofs.search_laws.what_is_found.Goals as goal

pub returns-clause-finds : goal.returns-clause-finds
returns-clause-finds c = finds

pub returns-clause-fails : goal.returns-clause-fails
returns-clause-fails c = fails
