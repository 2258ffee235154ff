use Rattle.std.proofs.Common.{◌≡◌, ◌≤◌, length, map, take}
use Rattle.ir_event.specs.trees.View.{region_view}
use Rattle.patterns_lowering.specs.Bare.{region_with}
use Rattle.patterns_lowering.proofs.bare.bare_regions.Given as goal

abbrev pub invariant-regions : goal.invariant-regions
invariant-regions l = record { made : map region_view l.regions.items ≡ map region_with (take l.number l.fn.node.arguments); few : l.number ≤ length l.fn.node.arguments }
