-- The contract of the listener.
use Rattle.std.specs.Prelude.{◌≡◌, ℕ, false, None}
use Rattle.ir_event.specs.trees.Ids.{HasDistinctIds}
use Rattle.ir_event.specs.Listener.{Listener}
use Rattle.constants.specs.Walk.{facts_of}
use Rattle.constants.specs.Rows.{constants_rows}
use Rattle.constants.specs.Reached.{most_looks}
use Rattle.constants.specs.declared.constants.Constants.{Constants}
use Rattle.constants.specs.Tables.{known_in}

-- the table has the values that the walk finds
abbrev pub constants_listener : Constants → Listener
constants_listener s = record {
  kind = 6;
  analysis = constants_rows;
  agrees = λ c m. (s.stale ≡ false) × (HasDistinctIds m.tree × ((x : ℕ) → known_in s.table x ≡ facts_of m.tree x));
  stale = s.stale;
  notified = None;
  most = most_looks;
  fresh = λ c m h. h.0;
  grows = λ c d m holds also g h. h;
}
