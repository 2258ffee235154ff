use Rattle.std.proofs.Common.{◌≡◌, ◌++◌, ◌∷◌, drop, false, map}
use Rattle.std.specs.List.{list_all}
use Rattle.std.specs.Prelude.{IsTrue}
use Rattle.ir_event.specs.trees.Limits.{all_arguments_pass}
use Rattle.ir_event.specs.trees.Meaning.{is_type}
use Rattle.ir_event.specs.trees.Tree.{regions_of}
use Rattle.ir_event.specs.trees.View.{region_view}
use Rattle.ir_text.specs.View.{regions_in}
use Rattle.mlir_work_session_base.specs.OperationObjects.{region_items}
use Rattle.serde_json.specs.Written.{items_text}
use Rattle.mlir_work_session_base.proofs.operation_objects.write_regions.Given as goal

abbrev pub invariant-regions : goal.invariant-regions
invariant-regions l = record {
  text : l.out.items ++ items_text l.later (region_items (regions_in l.ctx (drop l.region-index l.regions))) ≡ l.fn.out.items ++ 91 ∷ items_text false (region_items (regions_in l.ctx l.regions));
  known : IsTrue (all_arguments_pass (list_all (is_type l.ctx)) (regions_of (map region_view (drop l.region-index l.regions))));
}
