-- Insertion points as C structs.
use Rattle.std.specs.Prelude.{ℕ, ◌==◌, if◌then◌else◌, Option, Some, None}
use Rattle.rewriter.specs.Points.{Point, Before, After, Start, End}
use Rattle.mlir_work_c.specs.declared.numbers.InsertionPointNumbers.{InsertionPointNumbers}

-- the number for memory that ran out
abbrev pub no_memory : ℕ
no_memory = 18446744073709551614

-- the insertion point of a C struct, if its kind is known
abbrev pub point_of_numbers : InsertionPointNumbers → Option Point
point_of_numbers n =
    if n.kind == 0 then Some (Before n.operation)
    else if n.kind == 1 then Some (After n.operation)
    else if n.kind == 2 then Some (Start n.operation n.region)
    else if n.kind == 3 then Some (End n.operation n.region)
    else None
