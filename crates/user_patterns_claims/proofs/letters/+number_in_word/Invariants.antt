use Rattle.std.specs.Prelude.{length}
use Rattle.user_patterns_claims.proofs.letters.+number_in_word.Given as goal

abbrev pub decreases-number_in_word : goal.decreases-number_in_word
decreases-number_in_word l = length l.word.now
