use Rattle.std.proofs.Common.{◌≡◌, drop}
use Rattle.ir_tree.specs.Limits.{ops_every, regions_every}
use Rattle.ir_tree_blocks.specs.Read.{ops_meaning, regions_meaning}
use Rattle.ir_tree_blocks.specs.Whole.{has_good_regions}
use Rattle.ir_tree_blocks.proofs.conditions.+labels.Given as goal

abbrev pub invariant-labels_in_regions_are_good-loop-region : goal.invariant-labels_in_regions_are_good-loop-region
invariant-labels_in_regions_are_good-loop-region l =
    regions_every has_good_regions (regions_meaning l.ctx l.region-items) ≡ regions_every has_good_regions (regions_meaning l.ctx (drop l.region-index l.region-items))

abbrev pub invariant-labels_inside_are_good-loop-op : goal.invariant-labels_inside_are_good-loop-op
invariant-labels_inside_are_good-loop-op l =
    ops_every has_good_regions (ops_meaning l.ctx l.op-items) ≡ ops_every has_good_regions (ops_meaning l.ctx (drop l.op-index l.op-items))
