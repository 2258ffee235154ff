use Rattle.std.proofs.Common.{◌≡◌, map, drop}
use Rattle.ir_tree.specs.Tree.{regions_of, ops_of}
use Rattle.ir_tree.specs.Limits.{regions_every, ops_every}
use Rattle.ir_tree.specs.View.{region_view}
use Rattle.ir_tree.proofs.every.+every.Given as goal

abbrev pub invariant-every_op-loop-region : goal.invariant-every_op-loop-region
invariant-every_op-loop-region g l =
    regions_every (g.T.OpTest.passes l.test) (regions_of (map region_view l.region-items))
    ≡ regions_every (g.T.OpTest.passes l.test) (regions_of (map region_view (drop l.region-index l.region-items)))

abbrev pub invariant-every_op_of_region-loop-op : goal.invariant-every_op_of_region-loop-op
invariant-every_op_of_region-loop-op g l =
    ops_every (g.T.OpTest.passes l.test) (ops_of l.op-items) ≡ ops_every (g.T.OpTest.passes l.test) (ops_of (drop l.op-index l.op-items))
