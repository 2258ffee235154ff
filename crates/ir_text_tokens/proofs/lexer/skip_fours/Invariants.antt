use Rattle.std.proofs.Common.{◌≡◌, ◌≤◌, length}
use Rattle.ir_text_tokens.specs.Tokens.{skip}
use Rattle.ir_text_tokens.proofs.lexer.skip_fours.Given as goal

abbrev pub invariant-spaces : goal.invariant-spaces
invariant-spaces l = record {
  same : skip l.rest ≡ skip l.bytes;
  within : length l.rest ≤ length l.bytes;
}

abbrev pub decreases-spaces : goal.decreases-spaces
decreases-spaces l = length l.rest
