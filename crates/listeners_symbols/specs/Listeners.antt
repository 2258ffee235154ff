-- The contract of the listener.
use Rattle.std.specs.Prelude.{◌≡◌, ℕ, ◌+◌, false, None}
use Rattle.std.specs.Ordering.{nat_cmp}
use Rattle.listeners_support.specs.Map as idmap
use Rattle.ir_types.proofs.Growth.{grows_trans}
use Rattle.ir_event.specs.Bounds.{operands_of}
use Rattle.ir_event.specs.Listener.{Listener}
use Rattle.listeners_symbols.specs.declared.roles.Roles.{Roles}
use Rattle.listeners_symbols.specs.declared.symbols.Symbols.{Symbols}
use Rattle.listeners_symbols.specs.Symbols.{symbol_rows}
use Rattle.listeners_symbols.specs.Table.{Table, IsKept}

-- the entry of an operation
abbrev pub kept_at : Roles → Table
kept_at m = idmap.get m.all

-- the table keeps the roles of the operations of the module
abbrev pub symbols_listener : Symbols → Listener
symbols_listener s = record {
  kind = 2;
  analysis = symbol_rows s.definers;
  agrees = λ c m. (s.stale ≡ false) × IsKept c m.tree (kept_at s.roles);
  stale = s.stale;
  notified = None;
  most = λ e m n. 2 + operands_of e m n;
  fresh = λ c m h. h.0;
  grows =
      λ c d m holds also g h. (
        h.0,
        record { from = h.1.from; sound = h.1.sound; grown = grows_trans h.1.from c d h.1.grown g; keeps = h.1.keeps },
      );
}
