use Rattle.std.proofs.Common.{◌≡◌, ◌++◌, length}
use Rattle.ir_text_tokens.specs.Strings.{string_bytes}
use Rattle.ir_text_tokens.proofs.strings.string_value.Given as goal

abbrev pub invariant-parts : goal.invariant-parts
invariant-parts l = l.out.items ++ string_bytes l.rest ≡ string_bytes l.raw

abbrev pub decreases-parts : goal.decreases-parts
decreases-parts l = length l.rest
