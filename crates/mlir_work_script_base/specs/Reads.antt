-- The record of a reader.
use Rattle.std.specs.Prelude.{◌≡◌, ◌+◌, ◌<◌, ◌≤◌, ℕ, List, length, Bool, true, ⊤, Option, Some, None, ◌⊎◌, IfSome}
use Rattle.std.specs.Prelude.{Result, Ok, Err}
use Rattle.std.specs.Io.KnownBytes.{ReadConsumes, IsAtEnd}
use Rattle.mlir_work_script_base.specs.Limits.{most_input_bytes, most_reads}
use Rattle.mlir_work_script_base.specs.declared.input.ReadFault.{ReadFault}
use Rattle.mlir_work_script_base.specs.declared.input.ReadFault.TheVariants.{Broken, TooMany, Memory as NoMemory}
use Rattle.mlir_work_script_base.specs.declared.source.SourceFault.{SourceFault}
use Rattle.mlir_work_script_base.specs.declared.source.SourceFault.TheVariants.{Interrupted, Failed}

-- the state of a reader: the bytes that it has left, if they are known; whether a read failed; whether a read was
-- interrupted; and the number of reads, interrupted ones included, if they are counted. An unwatched reader keeps no
-- record, so both flags are set
pub record Intake : Type 0 where
  pub remaining : Option (List ℕ)
  pub failed : Bool
  pub interrupted : Bool
  pub reads : Option ℕ

-- the number of reads, if they are counted
abbrev pub AreMade : Option ℕ → Option ℕ → ℕ → Type 0
AreMade None new n = ⊤
AreMade (Some old) None n = ⊥
AreMade (Some old) (Some new) n = new ≡ old + n

-- the maximum number of reads, if they are counted
abbrev pub AreMadeAtMost : Option ℕ → Option ℕ → ℕ → Type 0
AreMadeAtMost None new n = ⊤
AreMadeAtMost (Some old) None n = ⊥
AreMadeAtMost (Some old) (Some new) n = new ≤ old + n

-- one read was made, or at most one if it failed; an interruption or a failure is recorded
abbrev pub IsRecorded : Intake → Intake → Result ℕ SourceFault → Type 0
IsRecorded old new (Ok n) =
    AreMade old.reads new.reads 1 × (new.failed ≡ old.failed) × (new.interrupted ≡ old.interrupted)
IsRecorded old new (Err Interrupted) =
    AreMade old.reads new.reads 1 × (new.failed ≡ old.failed) × (new.interrupted ≡ true)
IsRecorded old new (Err Failed) = AreMadeAtMost old.reads new.reads 1 × (new.failed ≡ true)

-- after `Ok n`, the first `n` bytes of the buffer were read, with `n` 0 only at the end or for an empty buffer; after
-- `Err`, nothing was read
abbrev pub Takes : Intake → Intake → Result ℕ SourceFault → List ℕ → Type 0
Takes old new r buffer = ReadConsumes old.remaining new.remaining r buffer × IsRecorded old new r

-- the input was read to its end or exceeds the limit, and no read failed
abbrev pub IsReadWhole : Intake → Intake → Type 0
IsReadWhole old new =
    (IsAtEnd new.remaining ⊎ IfSome old.remaining (λ input. most_input_bytes < length input))
    × (new.failed ≡ old.failed)

-- the maximum number of reads was made and one was interrupted; otherwise fewer reads suffice for a whole input
abbrev pub IsRunOut : Intake → Intake → Type 0
IsRunOut old new = AreMade old.reads new.reads most_reads × (new.interrupted ≡ true)

-- a read failed, or would have exceeded the maximum number
abbrev pub IsReadFault : Intake → Intake → Type 0
IsReadFault old new = (new.failed ≡ true) ⊎ IsRunOut old new

-- `Broken` is returned only after a read fault
abbrev pub ReadsWhole : {T : Type 0} → Intake → Intake → Result T ReadFault → Type 0
ReadsWhole old new (Ok all) = IsReadWhole old new
ReadsWhole old new (Err Broken) = IsReadFault old new
ReadsWhole old new (Err TooMany) = IsReadWhole old new
ReadsWhole old new (Err NoMemory) = IsReadWhole old new
