use Rattle.std.proofs.Common.{◌≡◌, length}
use Rattle.ir_text_modules.specs.Stays.{stands}
use Rattle.ir_text_modules.proofs.unchanged.stands.Given as goal

abbrev pub invariant-bytes : goal.invariant-bytes
invariant-bytes l = stands l.rest ≡ stands l.bytes

abbrev pub decreases-bytes : goal.decreases-bytes
decreases-bytes l = length l.rest
