use Rattle.std.proofs.Common.{◌≡◌, length}
use Rattle.ir_text_modules.specs.Stays.{has_more}
use Rattle.ir_text_modules.proofs.unchanged.in_a_lexeme.Given as goal

abbrev pub invariant-lexemes : goal.invariant-lexemes
invariant-lexemes l = has_more 0 l.rest ≡ has_more 0 l.bytes

abbrev pub decreases-lexemes : goal.decreases-lexemes
decreases-lexemes l = length l.rest
