use Rattle.std.proofs.Common.{◌≡◌, ◌||◌, ℕ, eqb}
use Rattle.std.specs.Ordering.{nat_cmp}
use Rattle.std.specs.BTreeSet.{contains}
use Rattle.listeners_symbols.specs.Symbols.{is_among}
use Rattle.listeners_symbols.specs.Listeners.{kept_at}
use Rattle.listeners_symbols.specs.Lines.{undefined_by}
use Rattle.listeners_symbols.specs.Telling.{contributions}
use Rattle.listeners_symbols.proofs.names.undefined_names.Given as goal

abbrev pub invariant-loop-op : goal.invariant-loop-op
invariant-loop-op l =
    (n : ℕ) → (contains nat_cmp l.names n || is_among eqb (contributions undefined_by (kept_at l.fn.roles) l.op-iterator) n)
    ≡ is_among eqb (contributions undefined_by (kept_at l.fn.roles) l.fn.roles.naming.keys) n
