use Rattle.std.proofs.Common.{◌∙◌}
use Rattle.clap.specs.Words.{found_of}
use Rattle.mlir_work_cli.proofs.Rows.{sources}
use Rattle.mlir_work_cli.proofs.arg_values.source_of.Goals as goal

pub returns : goal.returns
returns c = c.value_source.ensures ∙ sources (found_of c.args.matches.now) c.args.name.now
