use Rattle.conversion.proofs.VisibleValues.{step_leaves, step_marks, step_refused}
use Rattle.conversion.proofs.bench.BenchConversionRewriter.step.Goals as goal

pub returns-clause-ok : goal.returns-clause-ok
returns-clause-ok g c = step_marks g.L.Analysis.meaning c.step-stepped.result c.args.self.now c.step-stepped.new.self c.step-stepped.ensures.does c.step-stepped.ensures.ctx

pub returns-clause-err : goal.returns-clause-err
returns-clause-err g c = step_leaves c.step-stepped.result c.args.self.now c.step-stepped.new.self c.step-stepped.ensures.err

pub returns-clause-refused : goal.returns-clause-refused
returns-clause-refused g c = step_refused g.L.Analysis.meaning c.step-stepped.result c.args.self.now c.step-stepped.new.self c.step-stepped.ensures.does

pub returns-clause-led : goal.returns-clause-led
returns-clause-led g c = λ _. (c.is_wellformed-2.ensures.context.holds, c.step-stepped.ensures.led)
