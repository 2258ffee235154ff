use Rattle.ir_text.specs.Public.{SpellsAttr}
use Rattle.mlir_work_transforms.specs.rewriter.Texts.{SpellsNextTo}
use Rattle.mlir_work_session.proofs.Reading.{unparsed_memory, unparsed_memory_op}
use Rattle.mlir_work_session.proofs.parse_error.reply_unparsed.Goals as goal

pub returns-in-Memory-clause-attr : goal.returns-in-Memory-clause-attr
returns-in-Memory-clause-attr c opaque text reported none = unparsed_memory c.args.bytes (SpellsAttr opaque text)

pub returns-in-Memory-clause-op : goal.returns-in-Memory-clause-op
returns-in-Memory-clause-op c opaque m text reported none = unparsed_memory_op c.args.bytes (SpellsNextTo opaque m text)

pub returns-in-Full-clause-attr : goal.returns-in-Full-clause-attr
returns-in-Full-clause-attr c opaque text reported none = c.full_at.ensures.attr opaque text

pub returns-in-Full-clause-op : goal.returns-in-Full-clause-op
returns-in-Full-clause-op c opaque m text reported none = c.full_at.ensures.op opaque m text
