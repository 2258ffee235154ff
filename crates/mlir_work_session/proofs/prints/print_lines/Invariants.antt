use Rattle.std.proofs.Common.{◌≡◌, ◌++◌, ◌+◌, ◌≤◌, List, [], ℕ, true, false, length}
use Rattle.mlir_work_script_base.specs.Writes.{Grows}
use Rattle.ir_event.specs.trees.Meaning.{meaning}
use Rattle.mlir_work_script_base.specs.Lines.{lines_of}
use Rattle.mlir_work_transforms.specs.rewriter.Panels.{Shown}
use Rattle.mlir_work_transforms.specs.registry.Registry.{RegistryModel}
use Rattle.mlir_work_session.specs.Output.{SessionSetting, Runs, opening, worse}
use Rattle.mlir_work_session.specs.PrintsAlone.{all_print}
use Rattle.mlir_work_session.proofs.prints.print_lines.Given as goal

-- the bytes written so far, followed by any output of the remaining lines, are an output of the script
abbrev pub invariant-loop-text : goal.invariant-loop-text
invariant-loop-text g l = record {
  prints : all_print (lines_of l.text) ≡ true;
  count : l.n + length l.text ≤ 1 + length l.script;
  preceding : List ℕ;
  wrote : Grows (g.W.Sink.stream l.initial.writer) (g.W.Sink.stream l.writer) preceding;
  whole : (setting : SessionSetting) (start : RegistryModel) (next : ℕ) (panel : List Shown) → setting.session_options.ends ≡ false → (later : ℕ) (rest : List ℕ) → Runs setting l.n (opening start (record { held = record { tree = meaning l.ctx l.tree; next = next }; marks = []; panel = panel })) (lines_of l.text) later rest → Runs setting 1 (opening start (record { held = record { tree = meaning l.ctx l.tree; next = next }; marks = []; panel = panel })) (lines_of l.script) (worse l.accepted later) (preceding ++ rest);
}

abbrev pub decreases-loop-text : goal.decreases-loop-text
decreases-loop-text g l = length l.text
