use Rattle.std.proofs.Common.{◌≡◌, length}
use Rattle.ir_text_tokens.specs.Tokens.{skip}
use Rattle.ir_text_tokens.proofs.lexer.skip_all.Given as goal

abbrev pub invariant-blanks : goal.invariant-blanks
invariant-blanks l = skip l.rest ≡ skip l.bytes

abbrev pub decreases-blanks : goal.decreases-blanks
decreases-blanks l = length l.rest
