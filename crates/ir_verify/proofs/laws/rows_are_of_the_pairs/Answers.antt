use Rattle.ir_verify.proofs.Pairs.{pairs_reported}
use Rattle.ir_verify.proofs.laws.rows_are_of_the_pairs.Goals as goal

pub returns : goal.returns
returns _ t = pairs_reported t
