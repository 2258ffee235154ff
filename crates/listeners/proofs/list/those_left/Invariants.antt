use Rattle.std.proofs.Common.{◌≡◌, ◌++◌, is_some, filter, length}
use Rattle.listeners.specs.Marks.{left_at}
use Rattle.listeners.proofs.list.those_left.Given as goal

abbrev pub invariant-loop-rest : goal.invariant-loop-rest
invariant-loop-rest l = l.out.items ++ filter (λ x. is_some (left_at l.fn.left x)) l.rest ≡ filter (λ x. is_some (left_at l.fn.left x)) l.fn.ops

abbrev pub decreases-loop-rest : goal.decreases-loop-rest
decreases-loop-rest l = length l.rest
