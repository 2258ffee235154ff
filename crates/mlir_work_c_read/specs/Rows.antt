-- The cells of report rows as C structs.
use Rattle.std.specs.Prelude.{ℕ, ◌^◌, ◌/◌, ◌%◌, List, [], ◌∷◌, length, flat_map}
use Rattle.ir_event.specs.types.declared.bits.BitsKind.{BitsKind}
use Rattle.ir_event.specs.types.declared.bits.BitsKind.TheVariants as kind
use Rattle.ir_event.specs.declared.row.Cell.{Cell}
use Rattle.ir_event.specs.declared.row.Cell.TheVariants as cell
use Rattle.ir_event.specs.declared.row.Row.{Row}
use Rattle.mlir_work_c_read.specs.declared.numbers.CellNumbers.{CellNumbers}
use Rattle.mlir_work_c_read.specs.declared.numbers.ValueNumbers.{ValueNumbers}
use Rattle.mlir_work_c_read.specs.Numbers.{numbers_of}

-- the value of a cell that has none
abbrev pub no_value : ValueNumbers
no_value = record { operation = 0; region = 0; place = 0 }

-- a cell of a kind with a value and two numbers, before so many cells
abbrev pub cell_with : ℕ → ValueNumbers → ℕ → ℕ → ℕ → CellNumbers
cell_with kind value low high left = record { kind = kind; value = value; low = low; high = high; left = left }

-- the width of a constant, and 0 for index
abbrev pub width_number : BitsKind → ℕ
width_number (kind.Int width) = width
width_number kind.Index = 0

-- a cell before so many cells
abbrev pub cell_numbers : Cell → ℕ → CellNumbers
cell_numbers (cell.Op x) left = cell_with 0 (record no_value { operation = x }) 0 0 left
cell_numbers (cell.Val v) left = cell_with 1 (numbers_of v) 0 0 left
cell_numbers (cell.Num n) left = cell_with 2 no_value n 0 left
cell_numbers (cell.Name n) left = cell_with 3 no_value n 0 left
cell_numbers (cell.Path a) left = cell_with 4 no_value a 0 left
cell_numbers (cell.Bits b) left =
    cell_with 5 (record no_value { place = width_number b.kind }) (b.value % 2 ^ 64) (b.value / 2 ^ 64) left
cell_numbers (cell.Rule r) left = cell_with 6 no_value r 0 left
cell_numbers (cell.Tag t) left = cell_with 7 no_value t 0 left

-- the cells of a row, in order
abbrev pub cells_numbers : List Cell → List CellNumbers
cells_numbers [] = []
cells_numbers (c ∷ cs) = cell_numbers c (length cs) ∷ cells_numbers cs

-- the cells of rows, one row after the other
abbrev pub rows_numbers : List Row → List CellNumbers
rows_numbers rows = flat_map (λ (row : Row). cells_numbers row.cells.items) rows
