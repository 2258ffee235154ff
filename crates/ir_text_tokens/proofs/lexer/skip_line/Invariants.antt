use Rattle.std.proofs.Common.{◌≡◌, ◌≤◌, length}
use Rattle.ir_text_tokens.specs.Tokens.{skip_line}
use Rattle.ir_text_tokens.proofs.lexer.skip_line.Given as goal

abbrev pub invariant-line : goal.invariant-line
invariant-line l = record {
  same : skip_line l.rest ≡ skip_line l.bytes;
  within : length l.rest ≤ length l.bytes;
}

abbrev pub decreases-line : goal.decreases-line
decreases-line l = length l.rest
