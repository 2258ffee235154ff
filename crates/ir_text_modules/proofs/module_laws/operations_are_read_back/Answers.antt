use Rattle.ir_text_modules.proofs.Whole.{single_again}
use Rattle.ir_text_modules.proofs.Writable.{fits, few_ops}
use Rattle.ir_text_modules.proofs.module_laws.operations_are_read_back.Goals as goal

pub returns : goal.returns
returns c o f t w counts dominated_by runs distinct shallow = single_again o f t (fits o t counts w) dominated_by runs distinct shallow (few_ops t counts)
