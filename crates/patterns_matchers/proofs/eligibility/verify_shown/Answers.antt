use Rattle.patterns_base.specs.events.Modules.{module_in}
use Rattle.patterns_matchers.proofs.Suited.{reported_so}
use Rattle.patterns_matchers.proofs.eligibility.verify_shown.Goals as goal

pub returns-then-is_trivially_verified_node : goal.returns-then-is_trivially_verified_node
returns-then-is_trivially_verified_node c = c.is_trivially_verified_node.ensures c.if-is_trivially_verified_node.true

pub returns-in-Ok : goal.returns-in-Ok
returns-in-Ok c = reported_so c.args.op (module_in c.args.world.now).tree c.in-Ok.verdict c.in-Ok.ensures
