-- Errors that are equal up to the fault of the text.
use Rattle.std.specs.Prelude.{◌≡◌}
use Rattle.ir_text_tokens.specs.declared.fault.Fault.{Fault}
use Rattle.ir_text_types.specs.declared.error.ReadError.{ReadError}
use Rattle.ir_text_types.specs.declared.error.ReadError.TheVariants.{Memory, Full, Refused}

-- the same kind of error; two refusals may have different faults
abbrev pub IsAlike : ReadError → ReadError → Type 0
IsAlike Memory other = other ≡ Memory
IsAlike (Full left) other = other ≡ Full left
IsAlike (Refused fault) other = (f : Fault) × (other ≡ Refused f)
