-- The record of a writer that converts lines to JSON.
use Rattle.std.specs.Prelude.{◌≡◌, ℕ, suc, List, [], ◌∷◌, ◌++◌, Bool, true, false, not, ◌&&◌, ◌||◌, ◌-◌, length, take, Option, Some, None, Result, Ok, Err}
use Rattle.std.specs.Str.{bytes_eq}
use Rattle.mlir_work_json.specs.Lines.{json_text}
use Rattle.mlir_work_json.specs.declared.printing.PrintFault.{PrintFault}
use Rattle.mlir_work_json.specs.declared.printing.PrintFault.TheVariants.{Memory, Write}
use Rattle.mlir_work_script_base.specs.Writes.{AppendsPreceding, Grows, GrowsPreceding, Stays, Stream}

-- the text of complete lines
abbrev pub text_of : List (List ℕ) → List ℕ
text_of [] = []
text_of (line ∷ lines) = (line ++ 10 ∷ []) ++ text_of lines

-- complete lines as JSON
abbrev pub json_of : List (List ℕ) → List ℕ
json_of [] = []
json_of (line ∷ lines) = json_text (line ++ 10 ∷ []) ++ json_of lines

-- a text was written as JSON; or memory ran out and nothing was written; or a prefix was written, and then a write
-- failed
abbrev pub Prints : {T : Type 0} → Stream → Stream → List ℕ → Result T PrintFault → Type 0
Prints old new json (Ok done) = Grows old new json
Prints old new json (Err Memory) = Stays old new
Prints old new json (Err Write) = GrowsPreceding old new json

-- whether memory ran out
abbrev pub is_memory : {T : Type 0} → Result T PrintFault → Bool
is_memory (Ok done) = false
is_memory (Err Memory) = true
is_memory (Err Write) = false

-- a text was written as JSON, or a prefix of that; a write failed unless memory ran out
abbrev pub PrintsAll : {T : Type 0} → Stream → Stream → List ℕ → Result T PrintFault → Type 0
PrintsAll old new json (Ok done) = Grows old new json
PrintsAll old new json (Err Memory) = AppendsPreceding old.contents new.contents json × (new.failed ≡ old.failed)
PrintsAll old new json (Err Write) = GrowsPreceding old new json

-- ---- the writer's fields agree

-- whether a writer has these bytes more, or with `broken` a prefix of them
abbrev pub has_more : Option (List ℕ) → Option (List ℕ) → List ℕ → Bool → Bool
has_more None new json broken = true
has_more (Some old) None json broken = false
has_more (Some old) (Some new) json false = bytes_eq new (old ++ json)
has_more (Some old) (Some new) json true = bytes_eq new (old ++ take (length new - length old) json)

-- whether two flags are equal
abbrev pub are_same : Bool → Bool → Bool
are_same true b = b
are_same false b = not b

-- whether there is a line
abbrev pub has_line : List (List ℕ) → Bool
has_line [] = false
has_line (line ∷ lines) = true

-- whether the flags are right. Without `broken`, no write failed and nothing was reported; with it, a write failed or
-- memory was refused, for a line or so that a fault was reported
abbrev pub are_right : Bool → Bool → List (List ℕ) → Bool → Bool → Bool → Bool
are_right start now lines false refused failed = are_same start now && not failed
are_right start now lines true refused failed = (now || refused) && (has_line lines || failed)

-- whether a writer has the JSON of complete lines, or with `broken` a prefix of it; `start` is the record of the
-- writer before them
abbrev pub is_printed : Stream → Stream → List (List ℕ) → Bool → Bool → Bool → Bool
is_printed start now lines broken refused failed =
    has_more start.contents now.contents (json_of lines) broken && are_right start.failed now.failed lines broken refused failed

-- ---- the record of the text

abbrev pub flag_number : Bool → ℕ
flag_number false = 0
flag_number true = 1

abbrev pub known_mark : Option (List ℕ) → List ℕ
known_mark None = 0 ∷ []
known_mark (Some bytes) = suc (length bytes) ∷ bytes

-- numbers that only this record has, also if others follow
abbrev pub mark : Stream → List ℕ
mark s = flag_number s.failed ∷ known_mark s.contents

-- the record of a text that is written as JSON: its bytes follow the mark of the writer's record at the start. If that
-- writer keeps no record, the flag is set
abbrev pub text_stream : Stream → List ℕ → Bool → Stream
text_stream start text failed = record { contents = Some (mark start ++ text); failed = start.failed || failed }
