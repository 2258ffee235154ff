use Rattle.std.proofs.Common.{◌≡◌, ◌++◌, length, true}
use Rattle.user_patterns_text.specs.Parts.{unplaced, views}
use Rattle.user_patterns_text.specs.Printed.{parts_text}
use Rattle.user_patterns_text.proofs.printing.write_parts.Given as goal

abbrev pub invariant-parts : goal.invariant-parts
invariant-parts l = l.out.items ++ parts_text l.items l.first (unplaced (views l.rest)) ≡ l.fn.out.items ++ parts_text l.items true (unplaced (views l.fn.parts))

abbrev pub decreases-parts : goal.decreases-parts
decreases-parts l = length l.rest
