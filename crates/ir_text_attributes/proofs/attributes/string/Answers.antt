use Rattle.ir_text_types.proofs.Numbered.{name_known}
use Rattle.ir_text_attributes.proofs.attributes.string.Goals as goal

pub intern_node-requires : goal.intern_node-requires
intern_node-requires c = name_known _ c.args.ctx.now c.name.new.ctx c.in_ok-name.name c.in_ok-name.ensures.reads
