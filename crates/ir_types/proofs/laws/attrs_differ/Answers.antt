use Rattle.ir_types.proofs.Terms.{attr_term_one}
use Rattle.ir_types.proofs.laws.attrs_differ.Goals as goal

pub returns : goal.returns
returns _ c sound m n h k e = attr_term_one c m n sound h k e
