-- The contract of the listener.
use Rattle.std.specs.Prelude.{◌≡◌, false, None}
use Rattle.ir_event.specs.Listener.{Listener}
use Rattle.listeners.specs.declared.uses.Uses.{Uses}
use Rattle.listeners.specs.Uses.{all_uses, in_order, uses_rows}
use Rattle.listeners.specs.Tables.{table_uses}

-- the uses of the table, in order, are those of the module
abbrev pub uses_listener : Uses → Listener
uses_listener s = record {
  kind = 1;
  analysis = uses_rows;
  agrees = λ c m. (s.stale ≡ false) × (in_order (table_uses s.table) ≡ all_uses m.tree);
  stale = s.stale;
  notified = None;
  most = λ e m n. 1;
  fresh = λ c m h. h.0;
  grows = λ c d m holds also g h. h;
}
