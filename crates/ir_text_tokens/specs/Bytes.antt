-- The classes of bytes in tokens. Letters and digits are ASCII. MLIR Language Reference, "Common syntax".
use Rattle.std.specs.Prelude.{ℕ, Bool, ◌&&◌, ◌||◌, ◌==◌, nat_le}
use Rattle.std.specs.Char.{is_ascii_digit, is_ascii_alphabetic, is_ascii_alphanumeric}
use Rattle.ir_text_tokens.specs.declared.runs.Class.{Class}
use Rattle.ir_text_tokens.specs.declared.runs.Class.TheVariants.{Digit, Hexadecimal, Word, Suffix}

-- space, tab, line feed, carriage return
abbrev pub is_blank : ℕ → Bool
is_blank c = ((c == 32 || c == 9) || c == 10) || c == 13

-- line feed, vertical tab, form feed, carriage return
abbrev pub is_line_end : ℕ → Bool
is_line_end c = nat_le 10 c && nat_le c 13

-- a hexadecimal digit
abbrev pub is_hex : ℕ → Bool
is_hex c = (is_ascii_digit c || (nat_le 97 c && nat_le c 102)) || (nat_le 65 c && nat_le c 70)

-- the first byte of a bare identifier: a letter or `_`
abbrev pub is_letter : ℕ → Bool
is_letter c = is_ascii_alphabetic c || c == 95

-- a byte of a bare identifier after the first: a letter, a digit, `_`, `$` or `.`
abbrev pub is_word : ℕ → Bool
is_word c = ((is_ascii_alphanumeric c || c == 95) || c == 36) || c == 46

-- a byte of a suffix identifier after the first: one of a bare identifier, or `-`
abbrev pub is_suffix : ℕ → Bool
is_suffix c = is_word c || c == 45

-- the test of each class in the code
abbrev pub class_test : Class → ℕ → Bool
class_test Digit = is_ascii_digit
class_test Hexadecimal = is_hex
class_test Word = is_word
class_test Suffix = is_suffix
