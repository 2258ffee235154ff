use Rattle.std.proofs.Common.{◌≡◌, ◌≤◌, [], ◌∷◌, length}
use Rattle.std.specs.Prelude.{reverse}
use Rattle.ir_text_tokens.specs.Bodies.{comma_ahead}
use Rattle.ir_text_tokens.proofs.bodies.has_comma.Given as goal

abbrev pub invariant-bytes : goal.invariant-bytes
invariant-bytes l = record {
  same : comma_ahead (reverse l.coming.items) 0 l.rest ≡ comma_ahead (62 ∷ []) 0 l.bytes;
  headroom : length l.coming.items ≤ 32;
}

abbrev pub decreases-bytes : goal.decreases-bytes
decreases-bytes l = length l.rest
