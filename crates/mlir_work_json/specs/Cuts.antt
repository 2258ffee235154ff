-- Splitting a text into parts and into cells.
use Rattle.std.specs.Prelude.{ℕ, suc, ◌+◌, ◌-◌, List, [], ◌∷◌, ◌==◌, ◌&&◌, ◌||◌, not, Bool, true, false, if◌then◌else◌, length, take, drop}
use Rattle.mlir_work_script_base.specs.Lines.{onto_first}

-- the parts of a text; a byte that satisfies `p` ends a part
abbrev pub parts : (ℕ → Bool) → List ℕ → List (List ℕ)
parts p [] = []
parts p (b ∷ bs) = if p b then [] ∷ parts p bs else onto_first b (parts p bs)

-- a text without its last byte
abbrev pub without_last : List ℕ → List ℕ
without_last text = take (length text - 1) text

-- ---- cells of a line, separated by blanks

abbrev pub is_blank : ℕ → Bool
is_blank b = b == 32

-- a blank outside quotes ends a cell
abbrev pub ends_cell : Bool → ℕ → Bool
ends_cell quoted b = not quoted && is_blank b

-- whether the position after a byte is inside quotes
abbrev pub quoted_after : Bool → ℕ → Bool
quoted_after quoted b = if b == 34 then not quoted else quoted

-- the length of the first cell
abbrev pub cell_len : Bool → List ℕ → ℕ
cell_len quoted [] = 0
cell_len quoted (b ∷ bs) = if ends_cell quoted b then 0 else suc (cell_len (quoted_after quoted b) bs)

-- the first cell
abbrev pub cell : List ℕ → List ℕ
cell text = take (cell_len false text) text

-- the rest of a text after its first cell and the blank
abbrev pub trailing : List ℕ → List ℕ
trailing text = drop (cell_len false text + 1) text

-- the second cell, and the rest after it
abbrev pub second : List ℕ → List ℕ
second text = cell (trailing text)

abbrev pub after_second : List ℕ → List ℕ
after_second text = trailing (trailing text)

-- the cells of a text; `quoted` says whether its first byte is inside quotes
abbrev pub cells_from : Bool → List ℕ → List (List ℕ)
cells_from quoted [] = []
cells_from quoted (b ∷ bs) =
    if ends_cell quoted b then [] ∷ cells_from false bs else onto_first b (cells_from (quoted_after quoted b) bs)

-- the cells of a text
abbrev pub cells : List ℕ → List (List ℕ)
cells text = cells_from false text

-- ---- for the theorems

-- whether a text is always one cell: it has no blank and no quote
abbrev pub is_whole : List ℕ → Bool
is_whole [] = true
is_whole (b ∷ bs) = not ((b == 32) || (b == 34)) && is_whole bs
