use Rattle.mlir_work_script_base.proofs.KindWords.{word_again, word_only}
use Rattle.mlir_work_script_base.proofs.laws.kinds_have_one_word.Goals as goal

pub returns : goal.returns
returns c = record { again = word_again; small = λ word n e. (word_only word n e).small; only = λ word n e. (word_only word n e).is }
