use Rattle.std.proofs.Common.{◌≡◌, ◌++◌, ◌&&◌, List, ℕ, Bool, length}
use Rattle.std.specs.Vec.Iter.{into_iter_items, into_iter_len}
use Rattle.mlir_work_script_base.specs.Writes.{Grows}
use Rattle.mlir_work_transforms.specs.rewriter.RewriterCalls.{AgreesOrStale}
use Rattle.mlir_work_transforms.specs.rewriter.Panels.{Shown, all_shown}
use Rattle.mlir_work_session.specs.Output.{Attaches}
use Rattle.mlir_work_session.proofs.attach.attach_all.Given as goal

-- the bytes written so far, followed by any output for the remaining listeners, are an output for all listeners
abbrev pub invariant-loop-listener : goal.invariant-loop-listener
invariant-loop-listener g l = let meaning = g.L.Analysis.meaning in record {
  kept : AgreesOrStale meaning l.bench;
  transaction : l.bench.transaction ≡ l.initial.bench.transaction;
  long : length (into_iter_items l.listener-iterator) ≡ into_iter_len l.listener-iterator;
  preceding : List ℕ;
  wrote : Grows (g.W.Sink.stream l.initial.writer) (g.W.Sink.stream l.writer) preceding;
  whole : (new : List Shown) (there : Bool) (rest : List ℕ) → Attaches (all_shown meaning (into_iter_items l.listener-iterator)) (all_shown meaning l.bench.listeners) new there rest → Attaches (all_shown meaning l.fn.boxes.items) (all_shown meaning l.initial.bench.listeners) new (l.accepted && there) (preceding ++ rest);
}
