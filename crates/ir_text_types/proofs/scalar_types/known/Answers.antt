use Rattle.ir_text_types.proofs.PlainSteps.{plain_read}
use Rattle.ir_text_types.proofs.scalar_types.known.Goals as goal

pub returns-in-Some-place_of : goal.returns-in-Some-place_of
returns-in-Some-place_of c o depth =
    plain_read c.args.ctx.now c.args.bytes.now c.in-Some.word.now c.in-Some.rest.now c.in-Some-plain_of.dimension_or_any c.in-Some-place_of.id c.sound.ensures c.in-Some.ensures
    c.in-Some-plain_of.ensures.scalar c.in-Some-plain_of.ensures.begins c.in-Some-place_of.ensures o depth
