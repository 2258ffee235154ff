-- Values whose numbers fit into 32 bits, as those of a module do.
use Rattle.std.specs.Prelude.{◌<◌, ◌^◌}
use Rattle.ir_event.specs.trees.declared.value.Value.{Value}
use Rattle.ir_event.specs.trees.declared.value.Value.TheVariants.{Result, Arg}

abbrev pub IsSmall : Value → Type 0
IsSmall (Result op place) = (op < 2 ^ 32) × (place < 2 ^ 32)
IsSmall (Arg op region place) = (op < 2 ^ 32) × (region < 2 ^ 32) × (place < 2 ^ 32)
