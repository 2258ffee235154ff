-- The text of report rows.
use Rattle.std.specs.Prelude.{ℕ, ◌==◌, true, if◌then◌else◌, List, [], ◌∷◌, ◌++◌, map, codes}
use Rattle.std.specs.Fmt.{decimal}
use Rattle.ir_event.specs.types.Bits.{type_of, width_of}
use Rattle.ir_event.specs.types.Readings.{signed_of}
use Rattle.ir_event.specs.Rows.{CellTerm, Op, Val, Num, Name, Path, Bits, Rule, Tag, RowTerm}
use Rattle.ir_text.specs.Public.{symbol_text}
use Rattle.ir_text.specs.Rows.{parted}
use Rattle.ir_text.specs.AttrText.{attr_text, integer_text}
use Rattle.mlir_work_script_base.specs.Values.{op_text, value_text}

-- the word of a tag
abbrev pub tag_text : ℕ → List ℕ
tag_text n =
    if n == 0 then codes "def"
    else if n == 1 then codes "duplicate"
    else if n == 2 then codes "use"
    else if n == 3 then codes "unresolved"
    else if n == 4 then codes "mismatch"
    else if n == 5 then codes "unknown"
    else if n == 6 then codes "allocate"
    else if n == 7 then codes "free"
    else if n == 8 then codes "read"
    else codes "write"

-- a cell: `#3`, `%v2.0`, a number, `@f`, a symbol reference, a constant value as its attribute, `V7`, a word
abbrev pub cell_text : CellTerm → List ℕ
cell_text (Op x) = op_text x
cell_text (Val v) = value_text v
cell_text (Num n) = decimal n
cell_text (Name n) = symbol_text n
cell_text (Path a) = attr_text a
cell_text (Bits kind value) = integer_text (type_of kind) (signed_of (width_of kind) value)
cell_text (Rule r) = codes "V" ++ decimal r
cell_text (Tag t) = tag_text t

-- a row: its cells separated by spaces, and a line feed
abbrev pub row_text : RowTerm → List ℕ
row_text row = parted (codes " ") true (map cell_text row) ++ codes "\n"

-- rows one after another
abbrev pub rows_text : List RowTerm → List ℕ
rows_text [] = []
rows_text (row ∷ rows) = row_text row ++ rows_text rows
