use Rattle.conversion.proofs.VisibleValues.{why_here}
use Rattle.conversion.proofs.rules.BenchRuleApplier.reason.Goals as goal

pub returns-in-Ok-clause-ok : goal.returns-in-Ok-clause-ok
returns-in-Ok-clause-ok g c = why_here c.world.result.now c.args.self.now.transaction c.world.ensures.ctx c.world.ensures.store c.args.rule c.args.op c.in-Ok.found c.in-Ok.ensures
