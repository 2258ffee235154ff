use Rattle.std.proofs.Common.{◌≡◌, map, take}
use Rattle.mlir_work_c_read.specs.Numbers.{value_of}
use Rattle.mlir_work_c_read.proofs.header.values_of.Given as goal

abbrev pub invariant-values : goal.invariant-values
invariant-values l = l.out.items ≡ map value_of (take l.value-index l.fn.values)
