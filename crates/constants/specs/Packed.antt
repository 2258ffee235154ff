-- Kinds of constants in one byte.
use Rattle.std.specs.Prelude.{ℕ, eqb, if◌then◌else◌}
use Rattle.ir_event.specs.types.declared.bits.BitsKind.{BitsKind}
use Rattle.ir_event.specs.types.declared.bits.BitsKind.TheVariants.{Int, Index}

-- the kind, given its width, or 0 for index
abbrev pub kind_of : ℕ → BitsKind
kind_of width = if eqb width 0 then Index else Int width
