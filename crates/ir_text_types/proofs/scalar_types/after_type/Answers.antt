use Rattle.std.proofs.Common.{◌∙◌, Some, ap}
use Rattle.ir_text_types.proofs.PlainSteps.{plain_read}
use Rattle.ir_text_types.proofs.scalar_types.after_type.Goals as goal

pub returns-then-is_plain : goal.returns-then-is_plain
returns-then-is_plain c o depth =
    plain_read c.args.ctx.now c.args.bytes.now c.in-Some.word.now c.in-Some.rest.now c.in-Some-plain_of.scalar c.args.ty c.sound.ensures c.in-Some.ensures
    c.in-Some-plain_of.ensures.scalar c.in-Some-plain_of.ensures.begins (c.type_node.ensures ∙ ap Some (c.is_plain.ensures c.if-is_plain.true)) o depth
