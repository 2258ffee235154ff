use Rattle.std.proofs.Common.{refl}
use Rattle.patterns_plans.specs.reads.Reads.{header_of_node}
use Rattle.patterns_regions.specs.Blocks.{before_at}
use Rattle.patterns_regions.proofs.Bodies.{body_no_last, body_no_node, body_unclean, body_verified}
use Rattle.patterns_regions.proofs.block.verified_last.Goals as goal

pub returns-in_default-clause-last : goal.returns-in_default-clause-last
returns-in_default-clause-last c = body_no_last c.args.world.now.ctx c.args.op c.args.region c.args.world.now.store.module_of.tree c.in_default.ensures

pub returns-in_default-op_node-clause-last : goal.returns-in_default-op_node-clause-last
returns-in_default-op_node-clause-last c =
    let w = c.args.world.now in
    absurd (body_no_node w.ctx c.args.op c.args.region w.store.module_of.tree w.wellformed.distinct c.in-Some.last c.in-Some.ensures c.in_default-op_node.ensures.node)

pub returns-then-not-branch-clause-last : goal.returns-then-not-branch-clause-last
returns-then-not-branch-clause-last c =
    let w = c.args.world.now in
    body_unclean w.ctx c.args.op c.args.region w.store.module_of.tree w.wellformed.distinct c.in-Some.last c.in-Some.ensures (header_of_node w.ctx c.in-Some-op_node.node) c.in-Some-op_node.ensures.node _ c.in_ok-is_verified.ensures c.if-not-branch.true

pub returns-clause-last : goal.returns-clause-last
returns-clause-last c =
    let w = c.args.world.now in
    body_verified w.ctx c.args.op c.args.region w.store.module_of.tree w.wellformed.distinct c.in-Some.last c.in-Some.ensures (header_of_node w.ctx c.in-Some-op_node.node) c.in-Some-op_node.ensures.node _ c.in_ok-is_verified.ensures c.if-not-branch.false (before_at c.args.op c.args.region w.store.module_of.tree) refl
