use Rattle.std.proofs.Common.{◌≡◌, length}
use Rattle.user_patterns_text.specs.Refusing.{string_left}
use Rattle.user_patterns_text.proofs.errors.string_left.Given as goal

abbrev pub invariant-parts : goal.invariant-parts
invariant-parts l = string_left l.fn.quote l.rest ≡ string_left l.fn.quote l.fn.bytes

abbrev pub decreases-parts : goal.decreases-parts
decreases-parts l = length l.rest
