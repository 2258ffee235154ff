-- The JSON output of a run.
use Rattle.std.specs.Prelude.{◌≡◌, ◌⊎◌, ℕ, List, Bool, true, Option, Result, Ok, Err, IsErr}
use Rattle.std.specs.Io.KnownBytes.{Keeps}
use Rattle.std.specs.declared.alloc.AllocError.{AllocError}
use Rattle.mlir_work_run.specs.session.Panels.{Shown}
use Rattle.mlir_work_run.specs.session.Reads.{Intake}
use Rattle.mlir_work_run.specs.session.Writes.{AppendsPreceding, Stream}
use Rattle.mlir_work_json.specs.Lines.{json_text}
use Rattle.mlir_work_json.specs.declared.printing.PrintFault.{PrintFault}
use Rattle.mlir_work_json.specs.declared.printing.PrintFault.TheVariants.{Memory, Write}
use Rattle.mlir_work_run.specs.Ends.{HasStatus}
use Rattle.mlir_work_run.specs.Live.{Anywhere, AreFirst, IsUpTo, LiveEndedAt}
use Rattle.mlir_work_run.specs.Whole.{IsOutput, Setting}
use Rattle.mlir_work_run.specs.declared.live.Unanswered.{Unanswered}
use Rattle.mlir_work_run.specs.declared.live.Unanswered.TheVariants.{Memory as LineMemory, TooLong as LineTooLong}

-- this status and these bytes are the JSON of an output for the input, with these listeners
abbrev pub IsJsonOutput : Setting → List Shown → List ℕ → ℕ → List ℕ → Type 0
IsJsonOutput setting boxes input status json =
    (out : List ℕ) × IsOutput setting boxes input status out × (json ≡ json_text out)

-- the same for a live run: these bytes are the JSON of an answer to these lines
abbrev pub IsJsonOf : (List (List ℕ) → ℕ → List ℕ → Type 0) → List (List ℕ) → ℕ → List ℕ → Type 0
IsJsonOf P lines status json = (out : List ℕ) × P lines status out × (json ≡ json_text out)

-- the status and the output satisfy `P`, as those of a run of text; or memory ran out, and nothing or a prefix of an
-- output was written
abbrev pub JsonRan : {E : Type 0} → (ℕ → List ℕ → Type 0) → Option (List ℕ) → Option (List ℕ) → Result ℕ E → Type 0
JsonRan P old new (Ok status) = HasStatus P old new status
JsonRan P old new (Err e) = Keeps old new ⊎ ((status : ℕ) × (out : List ℕ) × P status out × AppendsPreceding old new out)

-- a prefix of an answer to the first lines was written
abbrev pub IsBroken : (List (List ℕ) → ℕ → List ℕ → Type 0) → List (List ℕ) → Stream → Stream → Type 0
IsBroken P all old new =
    (lines : List (List ℕ)) × (status : ℕ) × (out : List ℕ)
    × AreFirst all lines × P lines status out × AppendsPreceding old.contents new.contents out

-- a live run ends as one of text; or memory ran out for an object
abbrev pub JsonEndedAt : ℕ → (List (List ℕ) → ℕ → List ℕ → Type 0) → List (List ℕ) → Intake → Stream → Stream → Bool → Result ℕ Unanswered → Type 0
JsonEndedAt before P all left old new handed (Ok status) = LiveEndedAt before P all left old new handed (Ok status)
JsonEndedAt before P all left old new handed (Err LineMemory) = ((handed ≡ true) × IsUpTo Anywhere P all old new) ⊎ IsBroken P all old new
JsonEndedAt before P all left old new handed (Err LineTooLong) = LiveEndedAt before P all left old new handed (Err LineTooLong)

-- ---- the status, once the last line was written or not

abbrev pub Ends : {T : Type 0} → Result T PrintFault → ℕ → Result ℕ AllocError → Type 0
Ends (Ok done) status result = result ≡ Ok status
Ends (Err Write) status result = result ≡ Ok 4
Ends (Err Memory) status result = IsErr result

abbrev pub EndsLive : {T : Type 0} → Result T PrintFault → Result ℕ Unanswered → Result ℕ Unanswered → Type 0
EndsLive (Ok done) ran result = result ≡ ran
EndsLive (Err Write) ran result = result ≡ Ok 4
EndsLive (Err Memory) ran result = result ≡ Err LineMemory
