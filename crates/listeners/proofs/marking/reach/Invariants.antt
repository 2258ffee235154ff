use Rattle.std.proofs.Common.{◌≡◌, ◌≤◌, ℕ, List, ◌++◌, eqb, length}
use Rattle.listeners_symbols.specs.Lines.{numbers_at}
use Rattle.listeners.specs.Unreached.{prefixes}
use Rattle.listeners.specs.Marks.{RemovedIn, size}
use Rattle.listeners.proofs.marking.reach.Given as goal

abbrev pub invariant-loop-rest : goal.invariant-loop-rest
invariant-loop-rest l =
    ((done : List ℕ) × (done ++ prefixes eqb (numbers_at l.fn.roles) l.fn.definitions l.found l.rest ≡ prefixes eqb (numbers_at l.fn.roles) l.fn.definitions l.fn.table l.fn.parts)
    × RemovedIn (numbers_at l.fn.roles) l.fn.definitions done l.fn.pending l.fn.left l.pending l.left)
    × (size l.left l.pending ≤ size l.fn.left l.fn.pending)

abbrev pub decreases-loop-rest : goal.decreases-loop-rest
decreases-loop-rest l = length l.rest
