-- The errors of reading a text, with their offsets.
use Rattle.std.specs.Prelude.{◌≡◌, ◌≤◌, ◌-◌, ◌⊎◌, ℕ, List, length}
use Rattle.ir_types.specs.Refusals.{number_of}
use Rattle.ir_types.specs.declared.refusal.Refusal.TheVariants.{IdsExhausted}
use Rattle.ir_text_tokens.specs.Refusals.{refusal_of}
use Rattle.ir_text_types.specs.declared.error.ReadError.{ReadError as Inner}
use Rattle.ir_text_types.specs.declared.error.ReadError.TheVariants as inner
use Rattle.ir_text.specs.declared.error.ReadError.{ReadError}
use Rattle.ir_text.specs.declared.error.ReadError.TheVariants as errors

-- an error with the number of bytes left, as an error with an offset in a text of n bytes
abbrev pub error_at : ℕ → Inner → ReadError
error_at n inner.Memory = errors.Memory
error_at n (inner.Full left) = errors.Full (n - left)
error_at n (inner.Refused f) = errors.Refused (refusal_of f.refusal) (n - f.left)

-- the error is memory, a full context, or one of the first fourteen refusals; its offset is a byte of the text or its
-- end
abbrev pub IsTextRefusal : List ℕ → ReadError → Type 0
IsTextRefusal bytes errors.Memory = Unit {0}
IsTextRefusal bytes (errors.Full offset) = offset ≤ length bytes
IsTextRefusal bytes (errors.Refused refusal offset) = (number_of refusal ≤ 14) × (offset ≤ length bytes)

-- the same for the text of an operation, whose refusal may also be `IdsExhausted`
abbrev pub IsOpRefusal : List ℕ → ReadError → Type 0
IsOpRefusal bytes errors.Memory = Unit {0}
IsOpRefusal bytes (errors.Full offset) = offset ≤ length bytes
IsOpRefusal bytes (errors.Refused refusal offset) = ((number_of refusal ≤ 14) ⊎ (refusal ≡ IdsExhausted)) × (offset ≤ length bytes)
