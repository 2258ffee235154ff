use Rattle.std.proofs.Common.{◌≡◌, length}
use Rattle.ir_text_tokens.specs.Bodies.{has_dot}
use Rattle.ir_text_tokens.proofs.bodies.has_dot.Given as goal

abbrev pub invariant-bytes : goal.invariant-bytes
invariant-bytes l = has_dot l.rest ≡ has_dot l.name

abbrev pub decreases-bytes : goal.decreases-bytes
decreases-bytes l = length l.rest
