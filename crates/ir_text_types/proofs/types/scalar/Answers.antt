use Rattle.ir_text_types.proofs.types.scalar.Goals as goal

pub intern_node-requires : goal.intern_node-requires
intern_node-requires c = c.in-Some.ensures.parts c.args.ctx.now
