use Rattle.std.proofs.Common.{refl}
use Rattle.ir_types.specs.Words.{operations}
use Rattle.op_registry.specs.Rows.{rows}
use Rattle.op_registry.proofs.laws.rows_are_operations.Goals as goal

pub returns : goal.returns
unfolding rows operations
returns c = refl
