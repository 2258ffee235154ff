use Rattle.std.proofs.Common.{sym, ◌∙◌}
use Rattle.ir_text_tokens.proofs.Marks.{no_byte, other_byte, mark_byte}
use Rattle.ir_text_tokens.proofs.lexer.mark.Goals as goal

pub returns-in_default : goal.returns-in_default
returns-in_default c = no_byte c.args.bytes.now c.skip-all.result.now c.skip-all.ensures c.in_default.len_below

pub returns-then-begins_other : goal.returns-then-begins_other
returns-then-begins_other c = other_byte c.args.bytes.now c.skip-all.result.now c.skip-all.ensures c.in-len1-up.len_at_least (sym c.begins_other.ensures ∙ c.if-begins_other.true)

pub returns : goal.returns
returns c = mark_byte c.args.bytes.now c.skip-all.result.now c.mark_at.result c.skip-all.ensures c.in-len1-up.len_at_least (sym c.begins_other.ensures ∙ c.if-begins_other.false) c.mark_at.ensures
