use Rattle.std.proofs.Common.{◌≡◌, ℕ, ◌≤◌, ◌-◌, length}
use Rattle.listeners_support.specs.Map.{entries_from}
use Rattle.listeners_support.proofs.map.pass.Given as goal

abbrev pub invariant-slots : goal.invariant-slots
invariant-slots g l = ((x : ℕ) → entries_from x l.near.items ≡ entries_from x l.initial.near.items) × (length l.near.items ≤ l.bound)

abbrev pub decreases-slots : goal.decreases-slots
decreases-slots g l = l.bound - length l.near.items
