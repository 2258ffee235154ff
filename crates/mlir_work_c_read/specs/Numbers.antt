-- Values as C structs, and optional numbers.
use Rattle.std.specs.Prelude.{ℕ, ◌==◌, if◌then◌else◌, Option, Some, None}
use Rattle.ir_event.specs.trees.declared.value.Value.{Value}
use Rattle.ir_event.specs.trees.declared.value.Value.TheVariants as value
use Rattle.mlir_work_c_read.specs.declared.numbers.ValueNumbers.{ValueNumbers}

-- the region number of a result
abbrev pub no_region : ℕ
no_region = 4294967295

-- the number for nothing
abbrev pub no_number : ℕ
no_number = 18446744073709551615

-- the value of a C struct
abbrev pub value_of : ValueNumbers → Value
value_of n =
    if n.region == no_region then value.Result n.operation n.place else value.Arg n.operation n.region n.place

-- the C struct of a value
abbrev pub numbers_of : Value → ValueNumbers
numbers_of (value.Result op place) = record { operation = op; region = no_region; place = place }
numbers_of (value.Arg op region place) = record { operation = op; region = region; place = place }

-- a number, if there is one
abbrev pub number_of : Option ℕ → ℕ
number_of None = no_number
number_of (Some n) = n
