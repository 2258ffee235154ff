use Rattle.std.proofs.Common.{List, ℕ, ap, subst, sym}
use Rattle.mlir_work_run.specs.session.declared.options.SessionOptions.{SessionOptions}
use Rattle.mlir_work_c.specs.Stepped.{SteppedBefore}
use Rattle.mlir_work_c.proofs.Saying.{stepped_alone, stepped_more}
use Rattle.mlir_work_c.proofs.session.send_line.Goals as goal

pub returns-then-is_empty-clause-stepped : goal.returns-then-is_empty-clause-stepped
returns-then-is_empty-clause-stepped c =
    subst (λ (rest : List ℕ). SteppedBefore rest c.args.session.now c.args.line.now c.say_line.result c.say_line.new.session) c.split_line.ensures.rest
    (stepped_alone _ c.args.session.now c.args.line.now c.say_line.result c.say_line.new.session _ c.is_empty.ensures c.if-is_empty.true (rw (c.setting-session_options.ensures, c.split_line.ensures.line) at c.say_line.ensures.said))

pub returns-clause-stepped : goal.returns-clause-stepped
returns-clause-stepped c =
    subst (λ (rest : List ℕ). SteppedBefore rest c.args.session.now c.args.line.now c.refused.result c.leave.new.session) c.split_line.ensures.rest
    (stepped_more _ c.args.session.now c.args.line.now c.refused.result c.leave.new.session _ c.is_empty.ensures c.if-is_empty.false c.refused.ensures c.leave.ensures.left)

pub say_line-requires-clause-mode : goal.say_line-requires-clause-mode
say_line-requires-clause-mode c = sym (ap (λ (m : SessionOptions). m.opaque) c.setting-session_options.ensures)
