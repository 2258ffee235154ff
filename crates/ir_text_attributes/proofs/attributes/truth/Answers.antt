use Rattle.ir_types.specs.declared.node.Sign.TheVariants.{Signless}
use Rattle.ir_types.specs.declared.node.TypeNode.TheVariants as type
use Rattle.ir_text_types.proofs.Numbered.{type_done_known}
use Rattle.ir_text_attributes.proofs.attributes.truth.Goals as goal

pub intern_node-requires-2 : goal.intern_node-requires-2
intern_node-requires-2 c = type_done_known (type.Int Signless 1) c.args.bytes.now _ c.args.ctx.now c.intern_node.new.ctx c.in-Ok.found.0 c.in-Ok.ensures.reads
