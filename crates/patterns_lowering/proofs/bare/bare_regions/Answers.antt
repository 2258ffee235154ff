use Rattle.std.proofs.Common.{◌<◌, length, map, arith}
use Rattle.ir_event.specs.trees.View.{region_view}
use Rattle.ir_event.proofs.of_trees.Steps.{map_more}
use Rattle.patterns_lowering.proofs.Regions.{region_next}
use Rattle.patterns_lowering.proofs.bare.bare_regions.Goals as goal

pub regions-preserved : goal.regions-preserved
regions-preserved c =
    let within : c.regions.number < length c.args.node.now.arguments = omega (arith, c.regions-test.true, c.region_count-count.ensures) in
    record {
      made =
          region_next c.args.node.now.arguments c.regions.number (map region_view c.regions.regions.items) (map region_view c.push.new.self.items) (region_view c.in_ok-region.region) _ within c.arguments.ensures c.in_ok-region.ensures c.regions.invariant.made
          (map_more region_view c.regions.regions.items c.push.new.self.items c.in_ok-region.region c.in_ok-push.ensures.items);
      few = omega (arith, within);
    }
