use Rattle.dialects_int.proofs.PairLaws.{swaps}
use Rattle.dialects_int.proofs.laws.operands_swap.Goals as goal

pub returns : goal.returns
returns c o w a b some ha hb h = swaps o w a b some ha hb h
