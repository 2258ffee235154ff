use Rattle.std.proofs.Common.{sym, ◌∙◌}
use Rattle.ir_text_modules.proofs.Ending.{fault_step, gap_step, more_shorter, more_step}
use Rattle.ir_text_modules.proofs.endings.next.Goals as goal
use Rattle.ir_text_modules.proofs.Defining.{gap_shorter}

pub returns-then-is_gap-clause-on : goal.returns-then-is_gap-clause-on
returns-then-is_gap-clause-on c = gap_step c.args.names.now.here c.args.byte c.args.all.now c.args.tail.now c.after_lexeme.result.now c.requires.all (sym c.is_gap.ensures ∙ c.if-is_gap.true) c.after_lexeme.ensures

pub returns-then-is_gap-clause-shorter : goal.returns-then-is_gap-clause-shorter
returns-then-is_gap-clause-shorter c = gap_shorter c.args.byte c.args.tail.now c.after_lexeme.result.now c.after_lexeme.ensures

pub returns-in_ok-add-in-Ok-clause-on : goal.returns-in_ok-add-in-Ok-clause-on
returns-in_ok-add-in-Ok-clause-on c =
    more_step c.args.names.now.here c.add.new.names.here c.args.byte c.args.all.now c.args.tail.now c.in-Ok.rest.now c.name_of.result.now
    c.requires.all (sym c.is_gap.ensures ∙ c.if-is_gap.false) c.in-Ok.ensures c.name_of.ensures c.in_ok-add-in-Ok.ensures

pub returns-in_ok-add-in-Ok-clause-shorter : goal.returns-in_ok-add-in-Ok-clause-shorter
returns-in_ok-add-in-Ok-clause-shorter c = more_shorter c.args.names.now.here c.args.byte c.args.tail.now c.in-Ok.rest.now c.in-Ok.ensures

pub returns-in-Err-clause-ends : goal.returns-in-Err-clause-ends
returns-in-Err-clause-ends c = fault_step c.args.names.now.here c.args.byte c.args.all.now c.args.tail.now c.in-Err.fault c.requires.all (sym c.is_gap.ensures ∙ c.if-is_gap.false) c.in-Err.ensures
