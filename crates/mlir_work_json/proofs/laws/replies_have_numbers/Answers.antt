use Rattle.mlir_work_json.proofs.Saying.{replies_have_numbers}
use Rattle.mlir_work_json.proofs.laws.replies_have_numbers.Goals as goal

pub returns : goal.returns
returns c = replies_have_numbers
