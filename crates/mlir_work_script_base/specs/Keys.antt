-- Attribute keys: KEY is a bare identifier or a string literal (MLIR Language Reference, "Identifiers and keywords"
-- and "Common syntax"), and ends at a blank or at the end of the line.
use Rattle.std.specs.Prelude.{ℕ, List, [], ◌∷◌, ◌==◌, Bool, true, Option, Some, None, if◌then◌else◌}
use Rattle.ir_text_tokens.specs.Printing.{is_bare_id}
use Rattle.ir_text_tokens.specs.Strings.{string_bytes}
use Rattle.ir_text_tokens.specs.Tokens.{Lexeme, string, string_parts}
use Rattle.mlir_work_script_base.specs.declared.keys.Key.{Key}
use Rattle.mlir_work_script_base.specs.declared.keys.Key.TheVariants as code
use Rattle.mlir_work_script_base.specs.Words.{is_blank, skip_blanks, word_of, after_word}

-- the bytes that a key denotes; the escapes of a string literal are resolved
abbrev pub key_bytes : Key → List ℕ
key_bytes (code.Bare name) = name.now
key_bytes (code.Quoted raw) = string_bytes raw.now

-- the raw text between the quotes of a string literal token
abbrev pub raw_in : Lexeme → Option (List ℕ)
raw_in (string raw) = Some raw
raw_in _ = None

-- whether a word ends before this text
abbrev pub ends_word : List ℕ → Bool
ends_word [] = true
ends_word (b ∷ bs) = is_blank b

abbrev pub quoted_from : Option (List ℕ × List ℕ) → Option (List ℕ × List ℕ)
quoted_from None = None
quoted_from (Some p) = if ends_word p.1 then Some (string_bytes p.0, skip_blanks p.1) else None

abbrev pub bare_in : List ℕ → Option (List ℕ × List ℕ)
bare_in text = if is_bare_id (word_of text) then Some (word_of text, after_word text) else None

-- the bytes of the key at the start of a text, and the rest of the text after the blanks
abbrev pub key_in : List ℕ → Option (List ℕ × List ℕ)
key_in [] = None
key_in (b ∷ bs) = if b == 34 then quoted_from (string_parts bs) else bare_in (b ∷ bs)
