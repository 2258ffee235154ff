use Rattle.mlir_work_json.proofs.Saying.{refusals_have_places, refusals_have_words}
use Rattle.mlir_work_json.proofs.laws.refusals_have_words.Goals as goal

pub returns-clause-refused : goal.returns-clause-refused
returns-clause-refused c = refusals_have_places

pub returns-clause-alone : goal.returns-clause-alone
returns-clause-alone c = refusals_have_words
