use Rattle.ir_text_attributes.proofs.SymbolLaws.{parts_known}
use Rattle.ir_text_attributes.proofs.symbols.symbol.Goals as goal

pub intern_node-requires : goal.intern_node-requires
intern_node-requires c =
    let k = parts_known c.args.bytes.now _ c.args.ctx.now c.parts.new.ctx c.in-Ok.found.0.items c.sound.ensures c.in-Ok.ensures.reads in
    rw c.new.ensures k
