-- Proofs about the statuses of outputs.
use Rattle.std.proofs.Common.{◌≡◌, arith, sym, subst, inl, inr, ◌⊎◌, refl, ℕ, ◌+◌, List, [], ◌∷◌, length, Bool, true, false, Option, Some, None, Result, Ok, Err}
use Rattle.std.specs.Prelude.{IfSome}
use Rattle.ir_event.specs.types.declared.refusal.Refusal.{Refusal}
use Rattle.ir_event.specs.Modules.{Module}
use Rattle.mlir_work_session.specs.Commands.{Spoken, Nothing, Bad, Obey, Ordered, Registered, line_says}
use Rattle.mlir_work_session.specs.Expecting.{line_expects}
use Rattle.mlir_work_session.specs.Lines.{lines_of}
use Rattle.mlir_work_session.specs.Parts.{script_text}
use Rattle.mlir_work_session.specs.Panels.{Shown}
use Rattle.mlir_work_session.specs.Reads.{Intake}
use Rattle.mlir_work_session.specs.Writes.{Stream}
use Rattle.mlir_work_session.specs.Registry.{RegistryModel}
use Rattle.mlir_work_session.specs.Notices.{is_right_under}
use Rattle.mlir_work_session.specs.Output.{Line, Runs, IsSession, Sitting, SessionSetting, opening, worse}
use Rattle.mlir_work_run.specs.Ends.{EndedSo, HasFailed, HasStatus, IsFinal, Leaves, LeavesAt, status_of}
use Rattle.mlir_work_run.specs.Whole.{IsOutput, Setting, session_setting_at}
use Rattle.mlir_work_run.specs.declared.run.Fault.{Fault}
use Rattle.mlir_work_run.specs.declared.run.Fault.TheVariants.{Read as ReadFailed, Write as WriteFailed}

-- the status of a script: 0 or 1
abbrev pub IsLow : ℕ → Type 0
IsLow status = (status ≡ 0) ⊎ (status ≡ 1)

pub low_worse : (accepted : Bool) (later : ℕ) → IsLow later → IsLow (worse accepted later)
low_worse true later h = h
low_worse false later h = inr refl

pub low_line : (Rest : ℕ → Sitting → ℕ → List ℕ → Type 0) (setting : SessionSetting) (n : ℕ) (s : Sitting) (expected : Option Refusal) (spoken : Spoken) (status : ℕ) (out : List ℕ) → ((m : ℕ) (t : Sitting) (st : ℕ) (o : List ℕ) → Rest m t st o → IsLow st) → Line Rest setting n s expected spoken status out → IsLow status
low_line Rest setting n s expected Nothing status out f h = f n s status out h
low_line Rest setting n s expected Bad status out f h = rw h.status_is (low_worse (is_right_under setting.session_options.strict expected h.notice h.shows) h.later (f (n + 1) h.after h.later h.rest h.goes_on))
low_line Rest setting n s expected (Obey said) status out f h = rw h.status_is (low_worse (is_right_under setting.session_options.strict expected h.notice h.shows) h.later (f (n + 1) h.after h.later h.rest h.goes_on))
low_line Rest setting n s expected (Ordered order) status out f h = rw h.status_is (low_worse (is_right_under setting.session_options.strict expected h.notice h.shows) h.later (f (n + 1) h.after h.later h.rest h.goes_on))
low_line Rest setting n s expected (Registered order) status out f h = rw h.status_is (low_worse (is_right_under setting.session_options.strict expected h.notice h.shows) h.later (f (n + 1) h.after h.later h.rest h.goes_on))

low_runs : (setting : SessionSetting) (lines : List (List ℕ)) (n : ℕ) (s : Sitting) (status : ℕ) (out : List ℕ) → Runs setting n s lines status out → IsLow status
low_runs setting [] n s status out h = inl h.0
low_runs setting (line ∷ lines) n s status out h = low_line (λ m t st o. Runs setting m t lines st o) setting n s (line_expects line) (line_says line) status out (λ m t st o k. low_runs setting lines m t st o k) h

low_session : (setting : SessionSetting) (start : RegistryModel) (boxes : List Shown) (m : Module) (script : List ℕ) (status : ℕ) (out : List ℕ) → IsSession setting start boxes m script status out → IsLow status
low_session setting start boxes m script status out (inl h) = inr h.1.0
low_session setting start boxes m script status out (inr h) = rw h.1.status_is (low_worse h.1.accepted h.1.later (low_runs setting (lines_of script) 1 (opening start (record { held = m; marks = []; panel = h.1.panel })) h.1.later h.1.rest h.1.runs))

pub final_low : (status : ℕ) → IsLow status → IsFinal status
final_low status (inl e) = inl e
final_low status (inr e) = inr (inl e)

-- the status of an output is 0, 1 or 3
pub final_output : (setting : Setting) (boxes : List Shown) (input : List ℕ) (status : ℕ) (out : List ℕ) → IsOutput setting boxes input status out → IsFinal status
final_output setting boxes input status out (inl h) = inr (inr h.1.0)
final_output setting boxes input status out (inr (short, inl (refusal, offset, why, h))) = inr (inr h.0)
final_output setting boxes input status out (inr (short, inr (m, read, h))) = final_low status (low_session (session_setting_at setting (length input)) setting.start boxes m (script_text input) status out h)

ended_status : (setting : Setting) (boxes : List Shown) (input : List ℕ) (a b : Option (List ℕ)) (r : Result ℕ Fault) → EndedSo (IsOutput setting boxes input) a b r → HasStatus (IsOutput setting boxes input) a b (status_of r)
ended_status setting boxes input a b (Ok status) (out, h, wrote) = inl (final_output setting boxes input status out h, (out, h, wrote))
ended_status setting boxes input a b (Err ReadFailed) h = inr (refl, inl h)
ended_status setting boxes input a b (Err WriteFailed) h = inr (refl, inr h)

-- the exit status of a run has the properties of its result
has_status : (setting : Setting) (boxes : List Shown) (input : List ℕ) (a b : Option (List ℕ)) (r : Result ℕ Fault) (status : ℕ) → status ≡ status_of r → EndedSo (IsOutput setting boxes input) a b r → HasStatus (IsOutput setting boxes input) a b status
has_status setting boxes input a b r status e h = subst (λ (n : ℕ). HasStatus (IsOutput setting boxes input) a b n) (sym e) (ended_status setting boxes input a b r h)

pub if_has_status : (o : Option (List ℕ)) (setting : Setting) (boxes : List Shown) (a b : Option (List ℕ)) (r : Result ℕ Fault) (status : ℕ) → status ≡ status_of r → IfSome o (λ input. EndedSo (IsOutput setting boxes input) a b r) → IfSome o (λ input. HasStatus (IsOutput setting boxes input) a b status)
if_has_status None setting boxes a b r status e h = tt
if_has_status (Some input) setting boxes a b r status e h = has_status setting boxes input a b r status e h

-- the exit status shows how a run leaves its reader and writer
leaves_status : (taken left : Intake) (a b : Stream) (handed : Bool) (r : Result ℕ Fault) → Leaves taken left a b handed r → LeavesAt taken left a b handed (status_of r)
leaves_status taken left a b handed (Ok status) h = inl h
leaves_status taken left a b handed (Err ReadFailed) h = inr (refl, inl h)
leaves_status taken left a b handed (Err WriteFailed) h = inr (refl, inr h)

pub leaves_at : (taken left : Intake) (a b : Stream) (handed : Bool) (r : Result ℕ Fault) (status : ℕ) → status ≡ status_of r → Leaves taken left a b handed r → LeavesAt taken left a b handed status
leaves_at taken left a b handed r status e h = subst (λ (n : ℕ). LeavesAt taken left a b handed n) (sym e) (leaves_status taken left a b handed r h)

not_final : (status : ℕ) → status ≡ 4 → IsFinal status → ⊥
not_final status e (inl h) = omega arith
not_final status e (inr (inl h)) = omega arith
not_final status e (inr (inr h)) = omega arith

-- the status is 4 only if a read or a write failed
pub fault_at : (taken left : Intake) (a b : Stream) (handed : Bool) (status : ℕ) → LeavesAt taken left a b handed status → status ≡ 4 → HasFailed taken left b
fault_at taken left a b handed status (inl h) e = absurd (not_final status e h.0)
fault_at taken left a b handed status (inr (four, inl h)) e = inl h.0
fault_at taken left a b handed status (inr (four, inr h)) e = inr h.1

-- if reads and writes can't fail, a run has the status of an output
pub never_four : (P : ℕ → List ℕ → Type 0) (a b : Option (List ℕ)) (status : ℕ) → HasStatus P a b status → (status ≡ 4 → ⊥) → (out : List ℕ) × P status out
never_four P a b status (inl (final, (out, h, wrote))) none = (out, h)
never_four P a b status (inr (four, h)) none = absurd (none four)
