use Rattle.ir_text.proofs.WholeHeadroom.{text_fits}
use Rattle.ir_text.proofs.capacity_laws.texts_fit.Goals as goal

pub returns : goal.returns
returns c = text_fits
