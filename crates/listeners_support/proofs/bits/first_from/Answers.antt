use Rattle.std.proofs.Common.{rules, refl}
use Rattle.listeners_support.proofs.Words.{first_word}
use Rattle.listeners_support.proofs.bits.first_from.Goals as goal

pub returns-then-words-at-ne0 : goal.returns-then-words-at-ne0
returns-then-words-at-ne0 c = first_word c.args.words.now c.args.word c.words.at _ c.words.invariant.0 c.words.invariant.1 refl (search rules) (search rules)
