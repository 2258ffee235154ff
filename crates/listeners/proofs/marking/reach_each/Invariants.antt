use Rattle.std.proofs.Common.{◌≡◌, ◌≤◌, ℕ, List, ◌++◌, eqb, length, map}
use Rattle.listeners_symbols.specs.Table.{reference_of}
use Rattle.listeners_symbols.specs.Lines.{numbers_at}
use Rattle.listeners.specs.Unreached.{targets}
use Rattle.listeners.specs.Marks.{RemovedIn, size}
use Rattle.listeners.proofs.marking.reach_each.Given as goal

abbrev pub invariant-loop-rest : goal.invariant-loop-rest
invariant-loop-rest l =
    ((done : List ℕ) × (done ++ targets eqb (numbers_at l.fn.roles) l.fn.definitions l.fn.table (map reference_of l.rest) ≡ targets eqb (numbers_at l.fn.roles) l.fn.definitions l.fn.table (map reference_of l.fn.references))
    × RemovedIn (numbers_at l.fn.roles) l.fn.definitions done l.fn.pending l.fn.left l.pending l.left)
    × (size l.left l.pending ≤ size l.fn.left l.fn.pending)

abbrev pub decreases-loop-rest : goal.decreases-loop-rest
decreases-loop-rest l = length l.rest
