use Rattle.std.proofs.Common.{◌≡◌, ℕ, None}
use Rattle.listeners_symbols.specs.Lines.{numbers_at}
use Rattle.listeners.specs.Marks.{left_at, those_added}
use Rattle.listeners.proofs.waiting.all_left.Given as goal

abbrev pub invariant-loop-op : goal.invariant-loop-op
invariant-loop-op l = (z : ℕ) → those_added (numbers_at l.fn.roles) z l.op-iterator (left_at l.left z) ≡ those_added (numbers_at l.fn.roles) z l.fn.roles.hidden.keys None
