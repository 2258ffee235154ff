use Rattle.std.proofs.Common.{◌≡◌, length}
use Rattle.std.specs.Prelude.{is_some}
use Rattle.ir_tree_blocks.specs.Scopes.{naturals}
use Rattle.ir_tree_blocks.proofs.readings.are_natural.Given as goal

abbrev pub invariant-numbers : goal.invariant-numbers
invariant-numbers l = is_some (naturals l.rest) ≡ is_some (naturals l.fn.numbers)

abbrev pub decreases-numbers : goal.decreases-numbers
decreases-numbers l = length l.rest
