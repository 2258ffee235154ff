-- The ends of whole runs.
use Rattle.std.specs.Prelude.{◌≡◌, ℕ, List, Bool, true, ◌⊎◌, Option, Result, Ok, Err}
use Rattle.std.specs.Io.KnownBytes.{Appends, Keeps}
use Rattle.mlir_work_session.specs.Reads.{Intake, IsReadFault, IsReadWhole}
use Rattle.mlir_work_session.specs.Writes.{AppendsPreceding, Grows, GrowsPreceding, Stays, Stream}
use Rattle.mlir_work_session.specs.WriteFault.{WriteFault}
use Rattle.mlir_work_run.specs.declared.run.Fault.{Fault}
use Rattle.mlir_work_run.specs.declared.run.Fault.TheVariants.{Read as ReadFailed, Write as WriteFailed}

abbrev pub ended_of : Result ℕ WriteFault → Result ℕ Fault
ended_of (Ok status) = Ok status
ended_of (Err e) = Err WriteFailed

-- after `Ok`, a status and an output satisfy `P`, and the output was flushed; after `Err`, a prefix of such an output
-- was written, and then a write failed
abbrev pub HandedOut : {E : Type 0} → (ℕ → List ℕ → Type 0) → Stream → Stream → Bool → Result ℕ E → Type 0
HandedOut P old new handed (Ok status) = (out : List ℕ) × P status out × Grows old new out × (handed ≡ true)
HandedOut P old new handed (Err e) = (status : ℕ) × (out : List ℕ) × P status out × GrowsPreceding old new out

-- a status and an output satisfy `P`; nothing was written after a read fault, and a prefix of an output after a write
-- fault
abbrev pub EndedSo : (ℕ → List ℕ → Type 0) → Option (List ℕ) → Option (List ℕ) → Result ℕ Fault → Type 0
EndedSo P old new (Ok status) = (out : List ℕ) × P status out × Appends old new out
EndedSo P old new (Err ReadFailed) = Keeps old new
EndedSo P old new (Err WriteFailed) = (status : ℕ) × (out : List ℕ) × P status out × AppendsPreceding old new out

-- the exit status: 4 for a fault
abbrev pub status_of : Result ℕ Fault → ℕ
status_of (Ok status) = status
status_of (Err e) = 4

-- the status of a run without a fault
abbrev pub IsFinal : ℕ → Type 0
IsFinal status = (status ≡ 0) ⊎ ((status ≡ 1) ⊎ (status ≡ 3))

-- the meaning of an exit status; with 4 nothing or a prefix of an output was written
abbrev pub HasStatus : (ℕ → List ℕ → Type 0) → Option (List ℕ) → Option (List ℕ) → ℕ → Type 0
HasStatus P old new status =
    (IsFinal status × ((out : List ℕ) × P status out × Appends old new out))
    ⊎ ((status ≡ 4) × (Keeps old new ⊎ ((other : ℕ) × (out : List ℕ) × P other out × AppendsPreceding old new out)))

-- the effect of a run on its reader and writer. With a status, the whole input was read, no read or write failed, and
-- the output was flushed. After a read fault nothing was written. After a write fault the whole input was read, no
-- read failed, and a write failed
abbrev pub Leaves : Intake → Intake → Stream → Stream → Bool → Result ℕ Fault → Type 0
Leaves taken left old new handed (Ok status) =
    IsFinal status × IsReadWhole taken left × (new.failed ≡ old.failed) × (handed ≡ true)
Leaves taken left old new handed (Err ReadFailed) = IsReadFault taken left × Stays old new
Leaves taken left old new handed (Err WriteFailed) = IsReadWhole taken left × (new.failed ≡ true)

-- the same in terms of the exit status
abbrev pub LeavesAt : Intake → Intake → Stream → Stream → Bool → ℕ → Type 0
LeavesAt taken left old new handed status =
    (IsFinal status × IsReadWhole taken left × (new.failed ≡ old.failed) × (handed ≡ true))
    ⊎ ((status ≡ 4) × ((IsReadFault taken left × Stays old new) ⊎ (IsReadWhole taken left × (new.failed ≡ true))))

-- a read or a write failed, or more reads than allowed were needed
abbrev pub HasFailed : Intake → Intake → Stream → Type 0
HasFailed taken left writer = IsReadFault taken left ⊎ (writer.failed ≡ true)
