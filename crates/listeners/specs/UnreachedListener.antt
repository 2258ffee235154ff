-- The contract of the listener.
use Rattle.std.specs.Prelude.{◌≡◌, ◌+◌, false, None}
use Rattle.ir_types.proofs.Growth.{grows_trans}
use Rattle.ir_event.specs.trees.Ids.{HasDistinctIds}
use Rattle.ir_event.specs.Bounds.{operands_of}
use Rattle.ir_event.specs.Listener.{Listener}
use Rattle.listeners_symbols.specs.Table.{IsKept}
use Rattle.listeners_symbols.specs.Listeners.{kept_at}
use Rattle.listeners.specs.declared.unreached.Unreached.{Unreached}
use Rattle.listeners.specs.Unreached.{unreached_rows}

-- the table keeps the roles of the operations of the module
abbrev pub unreached_listener : Unreached → Listener
unreached_listener s = record {
  kind = 7;
  analysis = unreached_rows;
  agrees = λ c m. (s.stale ≡ false) × HasDistinctIds m.tree × IsKept c m.tree (kept_at s.roles);
  stale = s.stale;
  notified = None;
  most = λ e m n. 2 + operands_of e m n;
  fresh = λ c m h. h.0;
  grows =
      λ c d m holds also g h. (
        h.0,
        h.1,
        record { from = h.2.from; sound = h.2.sound; grown = grows_trans h.2.from c d h.2.grown g; keeps = h.2.keeps },
      );
}
