use Rattle.ir_types.proofs.WordNumbers.{word_law}
use Rattle.ir_types.proofs.word_laws.number_of_word.Goals as goal

pub returns : goal.returns
returns c things n word bytes sound is = word_law things n word bytes sound is
