-- Reading an input line by line.
use Rattle.std.specs.Prelude.{◌≡◌, ◌<◌, ◌+◌, ◌⊎◌, ◌++◌, ℕ, List, length, ⊤, Option, None, Some}
use Rattle.std.specs.Io.KnownBytes.{IsAtEnd, prepend_known}
use Rattle.std.specs.List.{position_or_len}
use Rattle.mlir_work_script_base.specs.Lines.{is_newline, line_of, after_line}
use Rattle.mlir_work_script_base.specs.Parts.{module_text, script_text}
use Rattle.mlir_work_run.specs.declared.feed.LineError.{LineError}
use Rattle.mlir_work_run.specs.declared.feed.LineError.TheVariants.{Broken, Memory, TooMany}

-- the pending input: the bytes in the buffer, followed by those that the reader has left, if they are known
abbrev pub waiting : List ℕ → Option (List ℕ) → Option (List ℕ)
waiting kept left = prepend_known kept left

-- the first line of the pending input was taken, with its line feed if it has one
abbrev pub TakesLine : Option (List ℕ) → Option (List ℕ) → List ℕ → Type 0
TakesLine None new line = ⊤
TakesLine (Some all) None line = ⊥
TakesLine (Some all) (Some rest) line = (all ≡ line ++ rest) × (line_of line ≡ line_of all) × (rest ≡ after_line all)

-- the module and the divider were taken, and the script is pending
abbrev pub TakesModule : Option (List ℕ) → Option (List ℕ) → List ℕ → Type 0
TakesModule None new text = ⊤
TakesModule (Some all) None text = ⊥
TakesModule (Some all) (Some rest) text = (text ≡ module_text all) × (rest ≡ script_text all)

-- the buffer has a line feed
abbrev pub HasFeed : List ℕ → Type 0
HasFeed kept = position_or_len is_newline kept < length kept

-- the buffer has a whole line, or the input has ended
abbrev pub HasLine : List ℕ → Option (List ℕ) → Type 0
HasLine kept left = HasFeed kept ⊎ IsAtEnd left

-- the first line of a text, with its line feed, has more than so many bytes
abbrev pub IsLong : ℕ → List ℕ → Type 0
IsLong most text = most + length (after_line text) < length text

-- the same of the pending input, if it is known
abbrev pub StartsLong : ℕ → Option (List ℕ) → Type 0
StartsLong most None = ⊤
StartsLong most (Some all) = IsLong most all

-- more than so many bytes are pending, if they are known
abbrev pub IsMore : ℕ → Option (List ℕ) → Type 0
IsMore most None = ⊤
IsMore most (Some all) = most < length all

-- `A` if a read failed, and `B` otherwise
abbrev pub IfBroken : LineError → Type 0 → Type 0 → Type 0
IfBroken Broken A B = A
IfBroken Memory A B = B
IfBroken TooMany A B = B
