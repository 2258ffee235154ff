use Rattle.ir_text.proofs.Entries.{likely_found}
use Rattle.ir_text.proofs.values.likely_naming.Goals as goal

pub returns-then-is_source : goal.returns-then-is_source
returns-then-is_source c = λ d. likely_found d c.args.named.now.entries c.in-Some.source.now c.in-Some.naming.now c.args.value.now c.in-Some.ensures.value (c.is_source.ensures c.if-is_source.true)
