use Rattle.std.proofs.Common.{◌∙◌, sym}
use Rattle.ir_event.specs.types.Terms.{name_term}
use Rattle.patterns_matchers.proofs.Resizing.{or_true, or_false, resizing_is}
use Rattle.patterns_matchers.proofs.op_names.is_integer_cast.Goals as goal

pub returns-then-is_word : goal.returns-then-is_word
returns-then-is_word c = or_true c.is_word.result _ _ c.is_word.ensures c.if-is_word.true ∙ sym (resizing_is (name_term c.args.ctx.now c.args.name))

pub returns-else-is_word : goal.returns-else-is_word
returns-else-is_word c = or_false c.is_word.result c.is_extension.result _ _ c.is_word.ensures c.if-is_word.false c.is_extension.ensures ∙ sym (resizing_is (name_term c.args.ctx.now c.args.name))
