use Rattle.std.specs.Prelude.{length}
use Rattle.user_patterns_claims.proofs.decode.+mask_place.Given as goal

abbrev pub decreases-mask_place : goal.decreases-mask_place
decreases-mask_place l = length l.value_types.now
