use Rattle.ir_text_modules.proofs.Encoded.{text_is_utf8}
use Rattle.ir_text_modules.proofs.module_laws.texts_are_utf8.Goals as goal

pub returns : goal.returns
returns c = text_is_utf8
