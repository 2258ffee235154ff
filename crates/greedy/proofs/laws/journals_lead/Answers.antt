use Rattle.greedy.proofs.Leading.{leads_from}
use Rattle.greedy.proofs.laws.journals_lead.Goals as goal

pub returns : goal.returns
returns c = leads_from
