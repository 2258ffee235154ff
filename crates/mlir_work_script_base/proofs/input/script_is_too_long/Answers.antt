use Rattle.std.proofs.Common.{rules}
use Rattle.mlir_work_script_base.specs.Limits.{most_script_bytes}
use Rattle.mlir_work_script_base.proofs.input.script_is_too_long.Goals as goal

pub returns : goal.returns
unfolding most_script_bytes
returns c = search rules
