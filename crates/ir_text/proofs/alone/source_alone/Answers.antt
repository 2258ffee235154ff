use Rattle.ir_text_operations.proofs.Modules.{root_is_source, no_source}
use Rattle.ir_text.proofs.Sources.{source_read}
use Rattle.ir_text.proofs.alone.source_alone.Goals as goal

pub returns-in-Explicit-clause-read : goal.returns-in-Explicit-clause-read
returns-in-Explicit-clause-read c = root_is_source c.args.opaque c.args.bytes.now c.in-Ok.found.0 c.in-Explicit.tree (rw c.in-Explicit.is at c.in-Ok.ensures.ok)

pub returns-in-Other-clause-read : goal.returns-in-Other-clause-read
returns-in-Other-clause-read c = source_read c.args.opaque c.args.bytes.now c.without_root.result (rw c.in-Other.is at c.in-Ok.ensures.ok) c.without_root.ensures.read

pub returns-in-Other-clause-refused : goal.returns-in-Other-clause-refused
returns-in-Other-clause-refused c = λ f e. no_source c.args.opaque c.args.bytes.now (rw c.in-Other.is at c.in-Ok.ensures.ok) (c.without_root.ensures.refused f e)
