use Rattle.ir_text.proofs.WholeHeadroom.{attr_headroom, attr_left}
use Rattle.ir_text.proofs.capacity_laws.attributes_fit.Goals as goal

pub returns-clause-headroom : goal.returns-clause-headroom
returns-clause-headroom c = attr_headroom

pub returns-clause-left : goal.returns-clause-left
returns-clause-left c = attr_left
