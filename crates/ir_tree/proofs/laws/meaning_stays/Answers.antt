use Rattle.ir_tree.proofs.Meanings.{stable, stays_sound}
use Rattle.ir_tree.proofs.laws.meaning_stays.Goals as goal

pub returns-clause-sound : goal.returns-clause-sound
returns-clause-sound _ c d t g s = stays_sound c d t g s

pub returns-clause-meaning : goal.returns-clause-meaning
returns-clause-meaning _ c d t h g s = stable c d t h g s
