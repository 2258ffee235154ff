use Rattle.conversion.proofs.VisibleValues.{committed_so}
use Rattle.conversion.proofs.bench.BenchConversionRewriter.commit.Goals as goal

pub returns-clause-committed : goal.returns-clause-committed
returns-clause-committed g c = committed_so c.args.self.now c.close_mark.new.bench c.close_mark.ensures.finished

pub returns-clause-led : goal.returns-clause-led
returns-clause-led g c = λ _. (c.is_wellformed.ensures.context.holds, c.close_mark.ensures.led)
