use Rattle.std.proofs.Common.{refl}
use Rattle.op_registry.specs.Rows.{rows}
use Rattle.op_registry.specs.Registry.{row_from}
use Rattle.op_registry.proofs.table.table.Goals as goal

pub returns : goal.returns
unfolding rows row_from
returns c = refl
