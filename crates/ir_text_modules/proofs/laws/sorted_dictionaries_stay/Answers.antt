use Rattle.ir_text_modules.proofs.Sorted.{properties_stay, attributes_stay}
use Rattle.ir_text_modules.proofs.laws.sorted_dictionaries_stay.Goals as goal

pub returns-clause-properties : goal.returns-clause-properties
returns-clause-properties c = properties_stay

pub returns-clause-attributes : goal.returns-clause-attributes
returns-clause-attributes c = attributes_stay
