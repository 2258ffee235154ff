use Rattle.std.proofs.Common.{◌≡◌, ◌++◌, map, drop, true}
use Rattle.std.specs.List.{list_all}
use Rattle.ir_event.specs.trees.Limits.{all_arguments_pass}
use Rattle.ir_event.specs.trees.Meaning.{is_type}
use Rattle.ir_event.specs.trees.Tree.{regions_of, region_list}
use Rattle.ir_event.specs.trees.View.{region_view}
use Rattle.patterns_lowering.specs.Numbers.{regions_lowered}
use Rattle.patterns_lowering.proofs.lower.lowered_regions.Given as goal

abbrev pub invariant-regions : goal.invariant-regions
invariant-regions l = record {
  made : map region_view l.lowered.items ++ region_list (regions_lowered l.fn.ctx l.fn.wide (regions_of (map region_view (drop l.region-index l.fn.regions)))) ≡ region_list (regions_lowered l.fn.ctx l.fn.wide (regions_of (map region_view l.fn.regions)));
  known : all_arguments_pass (list_all (is_type l.fn.ctx)) (regions_of (map region_view (drop l.region-index l.fn.regions))) ≡ true;
}
