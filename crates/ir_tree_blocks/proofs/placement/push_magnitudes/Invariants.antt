use Rattle.std.proofs.Common.{◌≡◌, ◌++◌, length, map}
use Rattle.std.specs.Prelude.{unsigned_abs}
use Rattle.ir_tree_blocks.proofs.placement.push_magnitudes.Given as goal

abbrev pub invariant-numbers : goal.invariant-numbers
invariant-numbers l = l.out.items ++ map unsigned_abs l.rest ≡ l.fn.out.items ++ map unsigned_abs l.fn.numbers

abbrev pub decreases-numbers : goal.decreases-numbers
decreases-numbers l = length l.rest
