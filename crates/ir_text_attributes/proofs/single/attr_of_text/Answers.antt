use Rattle.ir_text_attributes.proofs.Singles.{single_read, single_wrong, attr_spells, none_rendered, fails_wrong}
use Rattle.ir_text_attributes.proofs.single.attr_of_text.Goals as goal

pub returns-in-Ok-single-clause-read : goal.returns-in-Ok-single-clause-read
returns-in-Ok-single-clause-read c =
    attr_spells c.args.opaque c.args.bytes.now c.single.new.ctx c.in-Ok-single.id c.in-Ok.ensures.ok (single_read c.args.opaque c.args.bytes.now c.args.ctx.now c.sound.ensures c.in-Ok-single.id c.single.new.ctx c.in-Ok-single.ensures.reads).0

pub returns-in-Err-single-clause-refused : goal.returns-in-Err-single-clause-refused
returns-in-Err-single-clause-refused c = λ f e. none_rendered c.args.opaque c.args.bytes.now (single_wrong c.args.opaque c.args.bytes.now c.args.ctx.now c.sound.ensures (fails_wrong c.in-Err-single.e _ f c.in-Err-single.ensures.reads e))
