use Rattle.ir_text_types.proofs.Numbered.{type_known}
use Rattle.ir_text_attributes.proofs.tails.opaque_typed.Goals as goal

pub is_opaque_type-requires : goal.is_opaque_type-requires
is_opaque_type-requires c = type_known c.args.opaque c.args.types c.args.bytes.now _ c.args.ctx.now c.ty.new.ctx c.in-Ok.found.0 c.sound.ensures c.in-Ok.ensures.reads

pub intern_node-requires : goal.intern_node-requires
intern_node-requires c = type_known c.args.opaque c.args.types c.args.bytes.now _ c.args.ctx.now c.ty.new.ctx c.in-Ok.found.0 c.sound.ensures c.in-Ok.ensures.reads
