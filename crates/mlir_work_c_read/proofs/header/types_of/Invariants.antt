use Rattle.std.proofs.Common.{◌≡◌, take}
use Rattle.mlir_work_c_read.proofs.header.types_of.Given as goal

abbrev pub invariant-types : goal.invariant-types
invariant-types l = l.out.items ≡ take l.ty-index l.fn.types
