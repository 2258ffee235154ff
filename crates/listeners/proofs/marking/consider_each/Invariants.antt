use Rattle.std.proofs.Common.{◌≡◌, ◌≤◌, ℕ, List, ◌++◌, length}
use Rattle.listeners_symbols.specs.Lines.{numbers_at}
use Rattle.listeners.specs.Marks.{ConsideredIn, size}
use Rattle.listeners.proofs.marking.consider_each.Given as goal

abbrev pub invariant-loop-rest : goal.invariant-loop-rest
invariant-loop-rest l =
    ((done : List ℕ) × (done ++ l.rest ≡ l.fn.ops) × ConsideredIn (numbers_at l.fn.roles) l.fn.definitions done l.fn.pending l.fn.left l.pending l.left)
    × (size l.left l.pending ≤ size l.fn.left l.fn.pending)

abbrev pub decreases-loop-rest : goal.decreases-loop-rest
decreases-loop-rest l = length l.rest
