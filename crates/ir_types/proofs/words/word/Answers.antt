use Rattle.ir_types.specs.Words.{words, operations, keys, visibilities}
use Rattle.ir_types.proofs.words.word.Goals as goal

pub returns : goal.returns
unfolding words operations keys visibilities
returns c = c.entry.ensures
