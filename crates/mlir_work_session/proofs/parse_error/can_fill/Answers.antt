use Rattle.mlir_work_session.proofs.Reading.{fills}
use Rattle.mlir_work_session.proofs.parse_error.can_fill.Goals as goal

pub returns : goal.returns
returns c = fills c.args.bytes
