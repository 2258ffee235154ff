use Rattle.std.specs.Prelude.{length}
use Rattle.user_patterns_claims.proofs.walk.+all_numbers.Given as goal

abbrev pub decreases-all_numbers : goal.decreases-all_numbers
decreases-all_numbers l = length l.numbers.now
