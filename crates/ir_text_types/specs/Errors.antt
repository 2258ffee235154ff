-- Errors of a whole text, and of a context during a parse.
use Rattle.std.specs.Prelude.{ℕ, ◌-◌, List, length, Option, option_map}
use Rattle.ir_text_tokens.specs.Limits.{text_reason}
use Rattle.ir_text_tokens.specs.Refusals.{text_refusal}
use Rattle.ir_types.specs.declared.refusal.Refusal.{Refusal}
use Rattle.ir_types.specs.declared.refusal.Refusal.TheVariants.{TooMany, Memory}
use Rattle.ir_text_types.specs.declared.error.ReadError.{ReadError}
use Rattle.ir_text_types.specs.declared.error.ReadError.TheVariants as errors

abbrev pub error_of : ℕ → Refusal → ReadError
error_of left Memory = errors.Memory
error_of left TooMany = errors.Full left
error_of left refusal = errors.Refused (record { refusal = text_refusal refusal; left = left })

-- the error of a text that exceeds a limit, with the number of bytes left at the limit
abbrev pub text_error : List ℕ → Option ReadError
text_error bytes = option_map (λ r. errors.Refused (record { refusal = r.0; left = length bytes - r.1 })) (text_reason bytes)
