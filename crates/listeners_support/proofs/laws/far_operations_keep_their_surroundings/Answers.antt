use Rattle.listeners_support.proofs.Tables.{far_keeps}
use Rattle.listeners_support.proofs.laws.far_operations_keep_their_surroundings.Goals as goal

pub returns : goal.returns
returns _ c e m n s y far = far_keeps c e m n s y far
