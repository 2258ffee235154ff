use Rattle.conversion.proofs.VisibleValues.{rolled_so}
use Rattle.conversion.proofs.bench.BenchConversionRewriter.rollback.Goals as goal

pub returns-clause-rolled : goal.returns-clause-rolled
returns-clause-rolled g c = rolled_so c.args.self.now c.close_mark.new.bench c.close_mark.ensures.finished

pub returns-clause-led : goal.returns-clause-led
returns-clause-led g c = λ _. (c.is_wellformed.ensures.context.holds, c.close_mark.ensures.led)
