use Rattle.ir_text_modules.proofs.OpEntries.{properties_again, attributes_again}
use Rattle.ir_text_modules.proofs.laws.dictionaries_are_read_back.Goals as goal

pub returns-clause-properties : goal.returns-clause-properties
returns-clause-properties c = properties_again

pub returns-clause-attributes : goal.returns-clause-attributes
returns-clause-attributes c = attributes_again
