use Rattle.std.proofs.Common.{◌≡◌, map, drop}
use Rattle.ir_tree.specs.Tree.{regions_of}
use Rattle.ir_tree.specs.Limits.{items_fit, all_arguments_pass}
use Rattle.ir_tree.specs.View.{region_view}
use Rattle.ir_tree.proofs.limits.all_arguments_are_within.Given as goal

abbrev pub invariant-loop-region : goal.invariant-loop-region
invariant-loop-region l =
    all_arguments_pass items_fit (regions_of (map region_view l.region-items)) ≡ all_arguments_pass items_fit (regions_of (map region_view (drop l.region-index l.region-items)))
