use Rattle.std.proofs.Common.{ap, option_map}
use Rattle.ir_event.specs.Modules.{module_in}
use Rattle.patterns_matchers.specs.Reads.{header_of_node, one_in}
use Rattle.patterns_plans.proofs.Recasts.{no_unrealized_cast}
use Rattle.patterns_plans.proofs.casts.unrealized.Goals as goal

pub returns-in_default-unary_op-clause-reason : goal.returns-in_default-unary_op-clause-reason
returns-in_default-unary_op-clause-reason c =
    no_unrealized_cast (module_in c.args.world.now).tree (one_in c.args.world.now.ctx c.args.p.now) _ (header_of_node c.args.world.now.ctx c.in-Some.inside) c.in_ok-inside.ensures.node
    (ap (option_map (header_of_node c.args.world.now.ctx)) c.in-Some.is) (c.in_default-unary_op.ensures.shaped_as c.args.world.now.ctx) c.is_of_type.result c.is_of_type.ensures c.if-is_of_type.false
