-- Runs in the format of a command line.
use Rattle.std.specs.Prelude.{◌≡◌, ℕ, List, Bool, Result, Ok, Err, codes}
use Rattle.mlir_work_run.specs.session.Panels.{Shown}
use Rattle.mlir_work_run.specs.session.Reads.{Intake}
use Rattle.mlir_work_run.specs.session.Writes.{Stream}
use Rattle.mlir_work_run.specs.Live.{LiveEndedAt}
use Rattle.mlir_work_run.specs.Whole.{IsOutput, Setting}
use Rattle.mlir_work_run.specs.declared.live.Unanswered.{Unanswered}
use Rattle.mlir_work_cli.specs.Json.{IsJsonOf, IsJsonOutput, JsonEndedAt}
use Rattle.mlir_work_cli.specs.declared.options.Format.{Format}
use Rattle.mlir_work_cli.specs.declared.options.Format.TheVariants as formats

-- an output of an input, in a format
abbrev pub IsOutputIn : Format → Setting → List Shown → List ℕ → ℕ → List ℕ → Type 0
IsOutputIn formats.Text setting boxes input status out = IsOutput setting boxes input status out
IsOutputIn formats.Json setting boxes input status out = IsJsonOutput setting boxes input status out

-- how a live run ends, in a format
abbrev pub LiveEndedIn : Format → ℕ → (List (List ℕ) → ℕ → List ℕ → Type 0) → List (List ℕ) → Intake → Stream → Stream → Bool → Result ℕ Unanswered → Type 0
LiveEndedIn formats.Text before P all left old new handed ran = LiveEndedAt before P all left old new handed ran
LiveEndedIn formats.Json before P all left old new handed ran = JsonEndedAt before (IsJsonOf P) all left old new handed ran

-- the exit status of a live run: 4 too if the next line is too long, or memory ran out for it
abbrev pub live_status : Result ℕ Unanswered → ℕ
live_status (Ok status) = status
live_status (Err why) = 4

-- the separator between the outputs of two inputs
abbrev pub divider_in : Format → List ℕ
divider_in formats.Text = codes "// -----\n"
divider_in formats.Json = codes "{\"divider\":true}\n"
