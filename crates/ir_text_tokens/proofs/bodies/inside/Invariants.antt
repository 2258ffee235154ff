use Rattle.std.proofs.Common.{◌≡◌, ◌≤◌, [], ◌∷◌, length}
use Rattle.std.specs.Prelude.{reverse}
use Rattle.ir_text_tokens.specs.Bodies.{scan}
use Rattle.ir_text_tokens.proofs.bodies.inside.Given as goal

abbrev pub invariant-bytes : goal.invariant-bytes
invariant-bytes l = record {
  same : scan (reverse l.coming.items) 0 l.rest ≡ scan (l.close ∷ []) 0 l.bytes;
  headroom : length l.coming.items ≤ 32;
}

abbrev pub decreases-bytes : goal.decreases-bytes
decreases-bytes l = length l.rest
