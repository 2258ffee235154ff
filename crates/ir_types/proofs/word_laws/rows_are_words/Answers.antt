use Rattle.ir_types.proofs.WordNumbers.{rows_by_number}
use Rattle.ir_types.proofs.word_laws.rows_are_words.Goals as goal

pub returns : goal.returns
returns c = rows_by_number
