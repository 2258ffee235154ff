use Rattle.std.proofs.Common.{◌≡◌, length}
use Rattle.ir_text_modules.specs.Recursion.{repeats_head}
use Rattle.ir_text_modules.proofs.recursion.repeats_head.Given as goal

abbrev pub invariant-bytes : goal.invariant-bytes
invariant-bytes l = repeats_head l.scanned l.rest ≡ repeats_head l.scanned l.bytes

abbrev pub decreases-bytes : goal.decreases-bytes
decreases-bytes l = length l.rest
