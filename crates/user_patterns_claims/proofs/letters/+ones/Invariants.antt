use Rattle.std.specs.Prelude.{length}
use Rattle.user_patterns_claims.proofs.letters.+ones.Given as goal

abbrev pub decreases-ones : goal.decreases-ones
decreases-ones l = length l.word.now
