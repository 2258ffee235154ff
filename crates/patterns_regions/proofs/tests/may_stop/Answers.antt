use Rattle.std.proofs.Common.{◌∙◌, sym, ap, length, take, drop, ◌-◌, arith}
use Rattle.ir_event.specs.Modules.{module_in}
use Rattle.patterns_plans.specs.reads.Reads.{header_of_node}
use Rattle.patterns_plans.proofs.of_reads.Cleaned.{known_not}
use Rattle.patterns_regions.proofs.Bodies.{body_no_last, body_no_node}
use Rattle.patterns_regions.proofs.Needed.{no_stop_loop, no_stop_loop_body, no_stop_loop_shape}
use Rattle.patterns_regions.proofs.tests.may_stop.Goals as goal
use Rattle.ir_event.proofs.of_types.Truths.{rest_at}

pub returns-in_default : goal.returns-in_default
returns-in_default c insertion e =
    let w = c.args.world.now in
    no_stop_loop_body c.args.op (module_in w).tree insertion (body_no_last w.ctx c.args.op 0 w.store.module_of.tree c.in_default.ensures)

pub returns-in_default-op_node : goal.returns-in_default-op_node
returns-in_default-op_node c insertion e =
    let w = c.args.world.now in
    absurd (body_no_node w.ctx c.args.op 0 w.store.module_of.tree w.wellformed.distinct c.in-Some.last c.in-Some.ensures c.in_default-op_node.ensures.node)

pub returns-in_default-operands : goal.returns-in_default-operands
returns-in_default-operands c insertion e =
    let w = c.args.world.now in
    let k = ap length c.operands.ensures in
    let below = c.in_default-operands.len_below in
    no_stop_loop_shape w.ctx c.args.op w.store.module_of.tree insertion w.wellformed.distinct c.in-Some.last c.in-Some.ensures (header_of_node w.ctx c.in-Some-op_node.node) c.in-Some-op_node.ensures.node (omega (arith, k, below))

pub returns : goal.returns
returns c insertion f =
    let w = c.args.world.now in
    let xs = c.operands.result.now in
    let v = c.condition-item.result in
    no_stop_loop w.ctx c.args.op w.store.module_of.tree insertion w.wellformed.distinct c.in-Some.last c.in-Some.ensures (header_of_node w.ctx c.in-Some-op_node.node) c.in-Some-op_node.ensures.node
    v (take (length xs - 1) (drop 1 xs)) (sym c.operands.ensures ∙ rest_at xs v _ c.in-len1-up.len_at_least c.condition-item.is) (known_not (module_in w).tree v _ c.is_constant.ensures f)
