use Rattle.std.proofs.Common.{◌≡◌, ◌+◌, length}
use Rattle.std.specs.Prelude.{option_map}
use Rattle.ir_text_tokens.specs.Strings.{closing}
use Rattle.ir_text_tokens.proofs.strings.closing.Given as goal

abbrev pub invariant-parts : goal.invariant-parts
invariant-parts l = record {
  same : option_map (λ n. l.len + n) (closing l.rest) ≡ closing l.bytes;
  whole : l.len + length l.rest ≡ length l.bytes;
}

abbrev pub decreases-parts : goal.decreases-parts
decreases-parts l = length l.rest
