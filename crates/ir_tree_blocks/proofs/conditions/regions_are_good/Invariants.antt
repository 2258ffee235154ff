use Rattle.std.proofs.Common.{◌≡◌, drop}
use Rattle.ir_tree_blocks.specs.Form.{all_regions}
use Rattle.ir_tree_blocks.specs.Read.{regions_meaning}
use Rattle.ir_tree_blocks.specs.Whole.{has_good_labels}
use Rattle.ir_tree_blocks.proofs.conditions.regions_are_good.Given as goal

abbrev pub invariant-loop-region : goal.invariant-loop-region
invariant-loop-region l = all_regions has_good_labels (regions_meaning l.ctx l.region-items) ≡ all_regions has_good_labels (regions_meaning l.ctx (drop l.region-index l.region-items))
