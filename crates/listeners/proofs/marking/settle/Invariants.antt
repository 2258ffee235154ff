use Rattle.std.proofs.Common.{[]}
use Rattle.listeners_symbols.specs.Lines.{numbers_at}
use Rattle.listeners.specs.Marks.{MarksIn, size}
use Rattle.listeners.proofs.marking.settle.Given as goal

abbrev pub invariant-pending : goal.invariant-pending
invariant-pending l = MarksIn (numbers_at l.fn.roles) l.fn.definitions [] l.fn.pending l.fn.left → MarksIn (numbers_at l.fn.roles) l.fn.definitions [] l.pending l.left

abbrev pub decreases-pending : goal.decreases-pending
decreases-pending l = size l.left l.pending
