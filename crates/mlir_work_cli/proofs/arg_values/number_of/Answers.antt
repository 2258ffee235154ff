use Rattle.std.proofs.Common.{◌∙◌}
use Rattle.mlir_work_cli.proofs.Rows.{number_read}
use Rattle.mlir_work_cli.proofs.arg_values.number_of.Goals as goal

pub returns : goal.returns
returns c = c.unwrap_or.ensures ∙ number_read c.args.text.now c.parse.result c.parse.ensures.value.0
