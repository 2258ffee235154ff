use Rattle.mlir_work_json.proofs.Saying.{numbers_stay}
use Rattle.mlir_work_json.proofs.laws.numbers_stay.Goals as goal

pub returns : goal.returns
returns c = numbers_stay
