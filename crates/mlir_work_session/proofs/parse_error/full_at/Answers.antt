use Rattle.std.proofs.Common.{refl}
use Rattle.ir_text.specs.Public.{SpellsAttr}
use Rattle.mlir_work_transforms.specs.rewriter.Texts.{SpellsNextTo}
use Rattle.mlir_work_session.proofs.Reading.{unparsed_full, unparsed_full_op, unparsed_memory, unparsed_memory_op}
use Rattle.mlir_work_session.proofs.parse_error.full_at.Goals as goal

pub returns-then-can_fill-clause-attr : goal.returns-then-can_fill-clause-attr
returns-then-can_fill-clause-attr c opaque text = unparsed_full c.args.bytes (SpellsAttr opaque text) c.args.offset (c.if-can_fill.ensures refl)

pub returns-then-can_fill-clause-op : goal.returns-then-can_fill-clause-op
returns-then-can_fill-clause-op c opaque m text = unparsed_full_op c.args.bytes (SpellsNextTo opaque m text) c.args.offset (c.if-can_fill.ensures refl)

pub returns-else-can_fill-clause-attr : goal.returns-else-can_fill-clause-attr
returns-else-can_fill-clause-attr c opaque text = unparsed_memory c.args.bytes (SpellsAttr opaque text)

pub returns-else-can_fill-clause-op : goal.returns-else-can_fill-clause-op
returns-else-can_fill-clause-op c opaque m text = unparsed_memory_op c.args.bytes (SpellsNextTo opaque m text)
