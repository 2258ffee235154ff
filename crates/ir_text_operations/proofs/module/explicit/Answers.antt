use Rattle.std.proofs.Common.{sym, ◌∙◌}
use Rattle.ir_text_names.specs.States.{state_of}
use Rattle.ir_text_operations.proofs.Modules.{not_begun, explicit_whole, explicit_other, explicit_wrong}
use Rattle.ir_text_operations.proofs.module.explicit.Goals as goal

pub returns-in-Ok-false-clause-ok : goal.returns-in-Ok-false-clause-ok
returns-in-Ok-false-clause-ok c = not_begun c.args.ctx.now.opaque c.args.bytes.now (sym c.in-Ok-false.ensures.ok ∙ c.in-Ok-false.field-0-test)

pub returns-then-is_whole-clause-ok : goal.returns-then-is_whole-clause-ok
returns-then-is_whole-clause-ok c =
    explicit_whole c.args.bytes.now c.args.ctx.now c.in-Ok.tree (state_of c.in-Ok.rest.now c.op.new.scope c.op.new.ctx) c.sound.ensures (sym c.in-Ok-true.ensures.ok ∙ c.in-Ok-true.field-0-test) (rw c.new.ensures at c.in-Ok.ensures.reads) (sym c.is_whole.ensures ∙ c.if-is_whole.true)

pub returns-in-Ok-clause-ok : goal.returns-in-Ok-clause-ok
returns-in-Ok-clause-ok c =
    explicit_other c.args.bytes.now c.args.ctx.now c.in-Ok.tree (state_of c.in-Ok.rest.now c.op.new.scope c.op.new.ctx) c.sound.ensures (rw c.new.ensures at c.in-Ok.ensures.reads) (sym c.is_whole.ensures ∙ c.if-is_whole.false)

pub returns-in-Err-Refused-clause-ok : goal.returns-in-Err-Refused-clause-ok
returns-in-Err-Refused-clause-ok c = explicit_wrong c.args.bytes.now c.args.ctx.now c.sound.ensures (rw c.new.ensures at (rw c.in-Err-Refused.field-0-is at c.in-Err-Refused.ensures.reads))
