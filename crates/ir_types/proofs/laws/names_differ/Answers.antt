use Rattle.ir_types.proofs.Terms.{name_term_one}
use Rattle.ir_types.proofs.laws.names_differ.Goals as goal

pub returns : goal.returns
returns _ c sound m n h k e = name_term_one c m n sound h k e
