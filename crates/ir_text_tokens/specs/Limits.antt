-- The limits of a text.
use Rattle.std.specs.Prelude.{ℕ, not, nat_lt, ◌==◌, if◌then◌else◌, List, length, Option, Some, None}
use Rattle.std.specs.Str.Lossy.{utf8_valid_len}
use Rattle.ir_text_tokens.specs.declared.refusal.TextRefusal.{TextRefusal}
use Rattle.ir_text_tokens.specs.declared.refusal.TextRefusal.TheVariants.{TooMany, NotUtf8}

-- the maximum length of a text in bytes
abbrev pub most_bytes : ℕ
most_bytes = 16777216

-- why a text is refused before its first token, and at which byte
abbrev pub text_reason : List ℕ → Option (TextRefusal × ℕ)
text_reason bytes =
    if nat_lt most_bytes (length bytes) then Some (TooMany, most_bytes)
    else if not (utf8_valid_len bytes == length bytes) then Some (NotUtf8, utf8_valid_len bytes)
    else None
