use Rattle.std.proofs.Common.{◌≡◌, eqb, length}
use Rattle.std.specs.Cmp.Lexicographic.{pointwise}
use Rattle.listeners_symbols.proofs.resolve.same_types.Given as goal

abbrev pub invariant-loop-left : goal.invariant-loop-left
invariant-loop-left l = pointwise eqb l.left l.right ≡ pointwise eqb l.fn.ones l.fn.others

abbrev pub decreases-loop-left : goal.decreases-loop-left
decreases-loop-left l = length l.left
