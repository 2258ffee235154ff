use Rattle.std.specs.Prelude.{length}
use Rattle.user_patterns_claims.proofs.decode.+have_widths.Given as goal

abbrev pub decreases-have_widths : goal.decreases-have_widths
decreases-have_widths l = length l.value_types.now
