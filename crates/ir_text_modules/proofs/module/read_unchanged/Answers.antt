use Rattle.ir_text_modules.proofs.Reading.{none_unchanged}
use Rattle.ir_text_modules.proofs.module.read_unchanged.Goals as goal

pub returns-clause-refused : goal.returns-clause-refused
returns-clause-refused c = λ r o e. none_unchanged c.args.text.now c.requires (c.read_new.ensures.refused r o e)
