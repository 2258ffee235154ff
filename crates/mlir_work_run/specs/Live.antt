-- The output of a live run: an answer to the module, and an answer to each line before the next is read.
use Rattle.std.specs.Prelude.{◌≡◌, ◌≤◌, ◌<◌, ◌^◌, ⊤, ℕ, ◌+◌, List, [], ◌∷◌, ◌++◌, length, Bool, true, ◌⊎◌, Result, Ok, Err, if◌then◌else◌, codes}
use Rattle.ir_event.specs.Modules.{Module}
use Rattle.mlir_work_run.specs.declared.feed.LineError.{LineError}
use Rattle.mlir_work_run.specs.declared.feed.LineError.TheVariants.{Broken, Memory as OutOfMemory, TooMany}
use Rattle.mlir_work_session.specs.Commands.{line_says}
use Rattle.mlir_work_session.specs.Expecting.{line_expects}
use Rattle.mlir_work_session.specs.Lines.{is_newline, line_of, onto_first}
use Rattle.mlir_work_session.specs.Limits.{most_input_bytes, most_script_bytes}
use Rattle.mlir_work_session.specs.Machine.{State}
use Rattle.mlir_work_session.specs.Output.{Begun, Line, Sitting, opening, worse}
use Rattle.mlir_work_session.specs.Panels.{Shown}
use Rattle.mlir_work_session.specs.Parts.{module_text}
use Rattle.mlir_work_session.specs.Reads.{Intake}
use Rattle.mlir_work_session.specs.WriteFault.{WriteFault}
use Rattle.mlir_work_session.specs.Writes.{Grows, GrowsPreceding, Stays, Stream, joined}
use Rattle.mlir_work_run.specs.Ends.{IsFinal}
use Rattle.mlir_work_run.specs.Whole.{IsOutput, IsTooMany, IsUnparsed, IsWorldOf, Setting, session_setting_at}
use Rattle.mlir_work_run.specs.declared.live.Halt.{Halt}
use Rattle.mlir_work_run.specs.declared.live.Halt.TheVariants.{Read as ReadFailed, Write as WriteFailed, Memory as NoMemory, TooLong}
use Rattle.mlir_work_run.specs.declared.live.Unanswered.{Unanswered}
use Rattle.mlir_work_run.specs.declared.live.Unanswered.TheVariants.{Memory as LineMemory, TooLong as LineTooLong}

-- the lines of a text, each with its line feed if it has one
abbrev pub whole_lines : List ℕ → List (List ℕ)
whole_lines [] = []
whole_lines (b ∷ bs) = if is_newline b then (b ∷ []) ∷ whole_lines bs else onto_first b (whole_lines bs)

-- the number of bytes of the divider line, with its line feed
abbrev pub divider_bytes : ℕ
divider_bytes = 9

-- from state `s`, with `n` as the next number and `read` bytes read before, these lines are answered so, one by one;
-- each line is within its limit and is answered as the last line of an input
abbrev pub Lives : Setting → ℕ → ℕ → Sitting → List (List ℕ) → ℕ → List ℕ → Type 0
Lives setting read n s [] status out = (status ≡ 0) × (out ≡ [])
Lives setting read n s (line ∷ lines) status out =
    (length line ≤ most_script_bytes)
    × Line (λ m t st o. Lives setting (read + length line) m t lines st o) (session_setting_at setting (read + length line)) n s
    (line_expects (line_of line)) (line_says (line_of line)) status out

-- listeners are attached to a module, and then lines are answered
pub record Live (setting : Setting) (boxes : List Shown) (m : Module) (read : ℕ) (lines : List (List ℕ)) (status : ℕ) (out : List ℕ) : Type 0 where
  pub begun : State
  pub accepted : Bool
  pub preceding : List ℕ
  pub later : ℕ
  pub rest : List ℕ
  pub begins : Begun setting.options.ends boxes m begun accepted preceding
  pub lives : Lives setting read 1 (opening setting.start begun) lines later rest
  pub status_is : status ≡ worse accepted later
  pub out_is : out ≡ preceding ++ rest

-- this status and these bytes are a live answer to the text of a module and the lines after it
abbrev pub IsLive : Setting → List Shown → List ℕ → List (List ℕ) → ℕ → List ℕ → Type 0
IsLive setting boxes text lines status out =
    IsUnparsed setting.options.explain setting.options.opaque text status out
    ⊎ ((m : Module) × IsWorldOf setting.options.opaque text m × Live setting boxes m (length text + divider_bytes) lines status out)

-- the same for an input whose script begins with these lines; an oversized input is refused before its first line is
-- answered
abbrev pub IsLiveOf : Setting → List Shown → List ℕ → List (List ℕ) → ℕ → List ℕ → Type 0
IsLiveOf setting boxes input lines status out =
    IsTooMany input status out ⊎ IsLive setting boxes (module_text input) lines status out

-- an input up to a line: the text of the module, the divider and these lines, or the text of the module alone
abbrev pub up_to : List ℕ → List (List ℕ) → List ℕ
up_to text [] = text
up_to text (line ∷ lines) = text ++ (codes "// -----" ++ 10 ∷ joined (line ∷ lines))

-- the output of a whole run on an input up to a line, within the limits
abbrev pub IsWholeUpTo : Setting → List Shown → List ℕ → List (List ℕ) → ℕ → List ℕ → Type 0
IsWholeUpTo setting boxes input lines status out =
    length input ≤ most_input_bytes → length (joined lines) ≤ most_script_bytes
    → IsOutput setting boxes (up_to (module_text input) lines) status out

-- ---- how a live run ends

-- why a line couldn't be taken
abbrev pub halt_of : LineError → Halt
halt_of Broken = ReadFailed
halt_of OutOfMemory = NoMemory
halt_of TooMany = TooLong

abbrev pub halted_of : Result ℕ WriteFault → Result ℕ Halt
halted_of (Ok status) = Ok status
halted_of (Err e) = Err WriteFailed

-- the exit status: 4 if a read or a write failed; none if the next line isn't there, since it is too long or memory
-- ran out
abbrev pub exit_of : Result ℕ Halt → Result ℕ Unanswered
exit_of (Ok status) = Ok status
exit_of (Err ReadFailed) = Ok 4
exit_of (Err WriteFailed) = Ok 4
exit_of (Err NoMemory) = Err LineMemory
exit_of (Err TooLong) = Err LineTooLong

-- the first lines of a list
abbrev pub AreFirst : List (List ℕ) → List (List ℕ) → Type 0
AreFirst all lines = (others : List (List ℕ)) × (all ≡ lines ++ others)

-- a run may stop after these lines
abbrev pub MayStop : Type 1
MayStop = List (List ℕ) → Type 0

-- a run may stop after any line: a read failed, or memory ran out
abbrev pub Anywhere : MayStop
Anywhere lines = ⊤

-- a line is longer than a line may be, or the number of bytes so far doesn't fit into 64 bits; `before` bytes were read
-- before the lines
abbrev pub IsTooLong : ℕ → List (List ℕ) → List ℕ → Type 0
IsTooLong before lines line =
    (most_script_bytes < length line) ⊎ (2 ^ 64 ≤ before + length (joined lines) + length line)

-- a run may stop before a line that is too long
abbrev pub BeforeTooLong : ℕ → List (List ℕ) → MayStop
BeforeTooLong before all lines = (line : List ℕ) × AreFirst all (lines ++ line ∷ []) × IsTooLong before lines line

-- the written bytes answer the first lines, after which the run may stop
abbrev pub IsUpTo : MayStop → (List (List ℕ) → ℕ → List ℕ → Type 0) → List (List ℕ) → Stream → Stream → Type 0
IsUpTo May P all old new =
    (lines : List (List ℕ)) × (status : ℕ) × (out : List ℕ)
    × AreFirst all lines × May lines × P lines status out × Grows old new out

-- a prefix of an answer to the first lines was written, and then a write failed
abbrev pub IsCutOff : (List (List ℕ) → ℕ → List ℕ → Type 0) → List (List ℕ) → Stream → Stream → Type 0
IsCutOff P all old new =
    (lines : List (List ℕ)) × (status : ℕ) × (out : List ℕ)
    × AreFirst all lines × P lines status out × GrowsPreceding old new out

-- all lines were answered as `P` says, and the answers were flushed; or only the first lines were answered, with
-- flushed answers, because a read failed (maybe before anything was written), memory ran out for the next line, or
-- the next line is too long; or a write failed. `before` bytes were read before the lines
abbrev pub LiveEnded : ℕ → (List (List ℕ) → ℕ → List ℕ → Type 0) → List (List ℕ) → Stream → Stream → Bool → Result ℕ Halt → Type 0
LiveEnded before P all old new handed (Ok status) = (out : List ℕ) × P all status out × Grows old new out × (handed ≡ true)
LiveEnded before P all old new handed (Err ReadFailed) = (handed ≡ true) × (Stays old new ⊎ IsUpTo Anywhere P all old new)
LiveEnded before P all old new handed (Err NoMemory) = (handed ≡ true) × IsUpTo Anywhere P all old new
LiveEnded before P all old new handed (Err TooLong) = (handed ≡ true) × IsUpTo (BeforeTooLong before all) P all old new
LiveEnded before P all old new handed (Err WriteFailed) = IsCutOff P all old new

-- the same in terms of the exit status. A read or a write failed if the status is 4
abbrev pub LiveEndedAt : ℕ → (List (List ℕ) → ℕ → List ℕ → Type 0) → List (List ℕ) → Intake → Stream → Stream → Bool → Result ℕ Unanswered → Type 0
LiveEndedAt before P all left old new handed (Ok status) =
    (IsFinal status × ((out : List ℕ) × P all status out × Grows old new out × (handed ≡ true)))
    ⊎ ((status ≡ 4)
    × (((left.failed ≡ true) × (handed ≡ true) × (Stays old new ⊎ IsUpTo Anywhere P all old new)) ⊎ IsCutOff P all old new))
LiveEndedAt before P all left old new handed (Err LineMemory) = (handed ≡ true) × IsUpTo Anywhere P all old new
LiveEndedAt before P all left old new handed (Err LineTooLong) = (handed ≡ true) × IsUpTo (BeforeTooLong before all) P all old new

-- a read or a write failed only if the run ends for that reason; unless a write failed, the output was flushed
abbrev pub LiveLeaves : Intake → Intake → Stream → Stream → Bool → Result ℕ Halt → Type 0
LiveLeaves taken left old new handed (Ok status) =
    IsFinal status × (left.failed ≡ taken.failed) × (new.failed ≡ old.failed) × (handed ≡ true)
LiveLeaves taken left old new handed (Err ReadFailed) = (left.failed ≡ true) × (new.failed ≡ old.failed) × (handed ≡ true)
LiveLeaves taken left old new handed (Err WriteFailed) = (left.failed ≡ taken.failed) × (new.failed ≡ true)
LiveLeaves taken left old new handed (Err NoMemory) = (left.failed ≡ taken.failed) × (new.failed ≡ old.failed) × (handed ≡ true)
LiveLeaves taken left old new handed (Err TooLong) = (left.failed ≡ taken.failed) × (new.failed ≡ old.failed) × (handed ≡ true)

-- a read or a write failed
abbrev pub HasFailedLive : Intake → Stream → Type 0
HasFailedLive left new = (left.failed ≡ true) ⊎ (new.failed ≡ true)
