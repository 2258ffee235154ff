use Rattle.std.proofs.Common.{◌-◌}
use Rattle.ir_text_types.proofs.Known.{element_known}
use Rattle.ir_text_types.proofs.types.+words.Goals as goal

pub memref-intern_node-requires : goal.memref-intern_node-requires
memref-intern_node-requires t c =
    element_known c.args.opaque (c.args.depth - 1) c.in-Ok.found.1.now c.in-Ok-element.found.1.now c.args.ctx.now c.element.new.ctx c.in-Ok-element.found.0 c.sound.ensures c.in-Ok-element.ensures.reads
