use Rattle.ir_text_attributes.proofs.Suffixes.{suffix_known}
use Rattle.ir_text_attributes.proofs.literals.literal.Goals as goal

pub is_opaque_type-requires : goal.is_opaque_type-requires
is_opaque_type-requires c = suffix_known c.args.opaque c.args.bytes.now _ c.args.ctx.now c.suffix.new.ctx c.in-Ok.found.0 c.sound.ensures c.in-Ok.ensures.reads

pub literal_bits-requires : goal.literal_bits-requires
literal_bits-requires c = suffix_known c.args.opaque c.args.bytes.now _ c.args.ctx.now c.suffix.new.ctx c.in-Ok.found.0 c.sound.ensures c.in-Ok.ensures.reads

pub intern_node-requires-in-Some-literal_bits : goal.intern_node-requires-in-Some-literal_bits
intern_node-requires-in-Some-literal_bits c = suffix_known c.args.opaque c.args.bytes.now _ c.args.ctx.now c.suffix.new.ctx c.in-Ok.found.0 c.sound.ensures c.in-Ok.ensures.reads

pub misfit-requires : goal.misfit-requires
misfit-requires c = suffix_known c.args.opaque c.args.bytes.now _ c.args.ctx.now c.suffix.new.ctx c.in-Ok.found.0 c.sound.ensures c.in-Ok.ensures.reads

pub intern_node-requires : goal.intern_node-requires
intern_node-requires c = suffix_known c.args.opaque c.args.bytes.now _ c.args.ctx.now c.suffix.new.ctx c.in-Ok.found.0 c.sound.ensures c.in-Ok.ensures.reads
