use Rattle.op_registry.proofs.ByName.{listed_is}
use Rattle.op_registry.proofs.laws.listed_has_row.Goals as goal

pub returns : goal.returns
returns c op = listed_is op
