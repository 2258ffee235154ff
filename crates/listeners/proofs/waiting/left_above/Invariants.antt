use Rattle.std.proofs.Common.{◌≡◌, ◌⊎◌, ℕ, None}
use Rattle.listeners_symbols.specs.Lines.{numbers_at}
use Rattle.listeners.specs.Marks.{IsUnder, left_at}
use Rattle.listeners.proofs.waiting.left_above.Given as goal

abbrev pub invariant-up : goal.invariant-up
invariant-up l = record {
  from : (p : ℕ) → IsUnder (numbers_at l.roles) l.at p → IsUnder (numbers_at l.roles) l.fn.op p;
  rest : (p : ℕ) → IsUnder (numbers_at l.roles) l.fn.op p → IsUnder (numbers_at l.roles) l.at p ⊎ (left_at l.left p ≡ None);
}
