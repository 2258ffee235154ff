use Rattle.conversion.proofs.Waiting.{took_again}
use Rattle.conversion.proofs.walk.pop.Goals as goal

pub returns-in-Some-clause-taken : goal.returns-in-Some-clause-taken
returns-in-Some-clause-taken c = took_again c.args.walk.now.passed c.args.walk.now.again.keys c.pop_first.new.self.keys c.in-Some.place c.in-Some.ensures.removal c.in-Some.ensures.all_above
