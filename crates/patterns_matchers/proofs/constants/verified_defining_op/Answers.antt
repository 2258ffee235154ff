use Rattle.patterns_base.specs.events.Modules.{module_in}
use Rattle.patterns_matchers.specs.Reads.{header_of_node}
use Rattle.patterns_matchers.proofs.Cleaned.{source_no, source_yes}
use Rattle.patterns_matchers.proofs.constants.verified_defining_op.Goals as goal

pub returns-then-not-branch-clause-node : goal.returns-then-not-branch-clause-node
returns-then-not-branch-clause-node c = source_no (module_in c.args.world.now).tree c.args.value.now c.in-Result.op _ (header_of_node c.args.world.now.ctx c.in-Some.node) _ c.in-Result.is c.in-Some.ensures.node c.in_ok-is_verified_node.ensures c.if-not-branch.true

pub returns-clause-node : goal.returns-clause-node
returns-clause-node c = source_yes (module_in c.args.world.now).tree c.args.value.now c.in-Result.op _ (header_of_node c.args.world.now.ctx c.in-Some.node) _ c.in-Result.is c.in-Some.ensures.node c.in_ok-is_verified_node.ensures c.if-not-branch.false
