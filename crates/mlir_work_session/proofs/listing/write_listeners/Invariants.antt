use Rattle.std.proofs.Common.{◌++◌, List, ℕ, drop}
use Rattle.mlir_work_script_base.specs.Writes.{Grows}
use Rattle.ir_event.specs.Modules.{module_in}
use Rattle.mlir_work_transforms.specs.rewriter.Panels.{all_shown}
use Rattle.mlir_work_session.specs.Output.{AreKinds}
use Rattle.mlir_work_session.proofs.listing.write_listeners.Given as goal

-- the bytes written so far, followed by any output for the remaining listeners, are an output for all listeners
abbrev pub invariant-loop-listener : goal.invariant-loop-listener
invariant-loop-listener g l = let meaning = g.L.Analysis.meaning in record {
  preceding : List ℕ;
  wrote : Grows (g.W.Sink.stream l.initial.writer) (g.W.Sink.stream l.writer) preceding;
  whole : (rest : List ℕ) → AreKinds (module_in l.world).tree (all_shown meaning (drop l.listener-index l.listeners)) rest → AreKinds (module_in l.world).tree (all_shown meaning l.listeners) (preceding ++ rest);
}
