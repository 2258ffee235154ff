use Rattle.ir_text_tokens.proofs.Kept.{last_named}
use Rattle.ir_text_tokens.proofs.names.latest_place.Goals as goal

pub returns-then-is_same : goal.returns-then-is_same
returns-then-is_same g c = last_named c.args.name.now c.args.entries.now c.last-item.result c.in-len1-up.len_at_least c.last-item.is (c.is_same.ensures c.if-is_same.true)
