use Rattle.dialects_int.proofs.PairLaws.{brackets}
use Rattle.dialects_int.proofs.laws.brackets_move.Goals as goal

pub returns : goal.returns
returns c o w a b d ab bd h e f = brackets o w a b d ab bd h e f
