-- What the listener means that remembers the events it was notified of.
use Rattle.std.specs.Prelude.{◌≡◌, List, [], Some, false}
use Rattle.ir_event.specs.trees.Meaning.{Operation}
use Rattle.ir_event.specs.Listener.{Listener}
use Rattle.ir_event.specs.Rows.{RowTerm}
use Rattle.mlir_work_cases.specs.declared.witness.Witness.{Witness}

-- no rows, whatever the tree
abbrev pub no_rows : Operation → List RowTerm
no_rows t = []

-- it agrees with every module where it isn't stale, and it stores what it has heard
abbrev pub witness_listener : Witness → Listener
witness_listener s = record {
  kind = s.kind;
  analysis = no_rows;
  agrees = λ c m. s.stale ≡ false;
  stale = s.stale;
  notified = Some s.notified.items;
  most = λ e m n. 0;
  fresh = λ c m h. h;
  grows = λ c d m holds also g h. h;
}
