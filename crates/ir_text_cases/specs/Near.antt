-- The types of the values of an outer module.
use Rattle.std.specs.Prelude.{ℕ, Option}
use Rattle.ir_tree.specs.declared.value.Value.{Value}
use Rattle.ir_tree.specs.declared.value.Value.TheVariants.{Result, Arg}

-- all results have one type, and all arguments another
abbrev pub type_of : Option ℕ → Option ℕ → Value → Option ℕ
type_of results arguments (Result op place) = results
type_of results arguments (Arg op region place) = arguments
