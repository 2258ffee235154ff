use Rattle.ir_text_modules.proofs.OneTree.{one_tree}
use Rattle.ir_text_modules.proofs.module_laws.texts_spell_one_tree.Goals as goal

pub returns : goal.returns
returns c = one_tree
