use Rattle.std.proofs.Common.{◌≡◌, ◌++◌, take}
use Rattle.std.specs.Prelude.{flat_map}
use Rattle.ir_text.specs.TypeText.{dimension_text}
use Rattle.ir_text.proofs.types.write_dimensions.Given as goal

abbrev pub invariant-dims : goal.invariant-dims
invariant-dims l = l.out.items ≡ l.fn.out.items ++ flat_map dimension_text (take l.dim-index l.dims)
