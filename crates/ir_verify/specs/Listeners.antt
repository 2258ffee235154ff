-- The contract of the listener.
use Rattle.std.specs.Prelude.{◌≡◌, false, None}
use Rattle.std.specs.Ordering.{nat_cmp}
use Rattle.std.specs.BTreeMap.{get}
use Rattle.ir_verify_base.specs.events.Listener.{Listener}
use Rattle.ir_verify_base.specs.Facts.{Keeps, most_looks}
use Rattle.ir_verify.specs.declared.diagnostics.Diagnostics.{Diagnostics}
use Rattle.ir_verify.specs.Sets.{breaks_any, finding_of}
use Rattle.ir_verify.specs.Diagnostics.{diagnostics_of}

-- the table keeps the broken rules of each operation; the listener looks at most eight times, and six times at each
-- operation near an event, once at each of its operands, and three times at each of its regions
abbrev pub diagnostics_listener : Diagnostics → Listener
diagnostics_listener s = record {
  kind = 3;
  analysis = diagnostics_of;
  agrees = λ c m. (s.kept.stale ≡ false) × Keeps finding_of breaks_any m.tree (get nat_cmp s.kept.table);
  stale = s.kept.stale;
  notified = None;
  most = λ e m n. most_looks e n.tree;
  fresh = λ c m h. h.0;
  grows = λ c d m holds also g h. h;
}
