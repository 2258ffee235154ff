use Rattle.std.proofs.Common.{◌≡◌, ◌++◌, map, drop}
use Rattle.ir_event.specs.trees.Tree.{regions_of, region_list}
use Rattle.ir_event.specs.trees.View.{region_view}
use Rattle.rewriter_machine.specs.Inserting.{bare_regions}
use Rattle.rewriter.proofs.headers.bare_regions.Given as goal

abbrev pub invariant-loop-region : goal.invariant-loop-region
invariant-loop-region l =
    map region_view l.copies.items ++ region_list (bare_regions (regions_of (map region_view (drop l.region-index l.region-items))))
    ≡ region_list (bare_regions (regions_of (map region_view l.region-items)))
