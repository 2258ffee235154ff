-- Lines and columns of a text.
use Rattle.std.specs.Prelude.{ℕ, suc, List, [], ◌∷◌, if◌then◌else◌, take, length, min}
use Rattle.std.specs.List.{filter, prefix_len}
use Rattle.mlir_work_script_base.specs.Lines.{after_line, is_newline, line_of}
use Rattle.mlir_work_script_base.specs.Words.{is_edge}

-- the part before a byte
abbrev pub preceding : List ℕ → ℕ → List ℕ
preceding text offset = take (min offset (length text)) text

-- the text from a line on; lines count from 1
abbrev pub from_line : List ℕ → ℕ → List ℕ
from_line text (suc (suc n)) = from_line (after_line text) (suc n)
from_line text _ = text

-- a line by its number, without its line feed
abbrev pub line_at : List ℕ → ℕ → List ℕ
line_at text number = line_of (from_line text number)

-- how many spaces, tabs and carriage returns a line begins with
abbrev pub indentation : List ℕ → ℕ
indentation line = prefix_len is_edge line

-- the number of line feeds
abbrev pub line_feeds : List ℕ → ℕ
line_feeds text = length (filter is_newline text)

-- the column after a text that begins in column `n`: a line feed leads to column 1, and each other byte to the next one
abbrev pub column_from : ℕ → List ℕ → ℕ
column_from n [] = n
column_from n (b ∷ bs) = column_from (if is_newline b then 1 else suc n) bs
