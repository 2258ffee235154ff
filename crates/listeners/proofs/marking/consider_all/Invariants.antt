use Rattle.std.proofs.Common.{◌≡◌, ℕ, List, ◌++◌}
use Rattle.listeners_symbols.specs.Lines.{numbers_at}
use Rattle.listeners.specs.Marks.{ConsideredIn}
use Rattle.listeners.proofs.marking.consider_all.Given as goal

abbrev pub invariant-loop-op : goal.invariant-loop-op
invariant-loop-op l = (done : List ℕ) × (done ++ l.op-iterator ≡ l.fn.roles.symbol_ops.keys) × ConsideredIn (numbers_at l.fn.roles) l.fn.definitions done l.fn.pending l.fn.left l.pending l.left
