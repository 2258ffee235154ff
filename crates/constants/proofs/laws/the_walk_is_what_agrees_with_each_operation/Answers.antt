use Rattle.constants.proofs.Looked.{facts_local, local_facts}
use Rattle.constants.proofs.laws.the_walk_is_what_agrees_with_each_operation.Goals as goal

pub returns-clause-agrees : goal.returns-clause-agrees
returns-clause-agrees c = facts_local

pub returns-clause-alone : goal.returns-clause-alone
returns-clause-alone c = local_facts
