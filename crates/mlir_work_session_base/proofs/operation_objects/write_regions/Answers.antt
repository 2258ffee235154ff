use Rattle.std.proofs.Common.{◌∙◌, ◌++◌, List, ap, map, refl}
use Rattle.std.specs.List.{list_all}
use Rattle.ir_event.specs.trees.Limits.{all_arguments_pass, arguments_pass}
use Rattle.ir_event.specs.trees.Meaning.{is_type}
use Rattle.ir_event.specs.trees.Tree.{regions_of}
use Rattle.ir_event.specs.trees.View.{region_view}
use Rattle.ir_event.specs.trees.declared.tree.TreeRegion.{TreeRegion}
use Rattle.ir_event.specs.types.Terms.{TypeTerm}
use Rattle.ir_text.specs.View.{region_in, regions_in, types_in}
use Rattle.serde_json.specs.Data.{array}
use Rattle.serde_json.specs.Written.{compact_text}
use Rattle.mlir_work_session_base.specs.OperationObjects.{argument_types, region_items, type_items}
use Rattle.mlir_work_session_base.proofs.OperationObjects.{arguments_mapped, item_more, items_done, next_all}
use Rattle.mlir_work_session_base.proofs.operation_objects.write_regions.Goals as goal

pub regions-preserved : goal.regions-preserved
regions-preserved c =
    let ctx = c.args.ctx.now in
    let r = c.region-item.result in
    record {
      text = item_more (λ (rs : List TreeRegion). region_items (regions_in ctx rs)) c.args.regions.now c.regions.region-index r (array (type_items (argument_types (region_in ctx (region_view r))))) c.regions.out.items c.write_comma.new.out.items c.write_types.new.out.items _ c.regions.later
          c.regions-test.true c.region-item.is refl c.in_ok-write_comma.ensures
          (c.in_ok-write_types.ensures ∙ ap (λ (ts : List TypeTerm). c.write_comma.new.out.items ++ compact_text (array (type_items ts))) (ap (types_in ctx) c.argument_types.ensures ∙ arguments_mapped ctx (region_view r))) c.regions.invariant.text;
      known = (next_all (λ (s : TreeRegion). arguments_pass (list_all (is_type ctx)) (region_view s)) (λ (rs : List TreeRegion). all_arguments_pass (list_all (is_type ctx)) (regions_of (map region_view rs))) c.args.regions.now c.regions.region-index r c.regions-test.true c.region-item.is refl c.regions.invariant.known).1;
    }

pub returns : goal.returns
returns c =
    items_done (λ (rs : List TreeRegion). region_items (regions_in c.args.ctx.now rs)) c.args.regions.now c.regions.region-index c.regions.out.items _ _ c.regions.later
    c.regions-test.false refl c.regions.invariant.text c.in_ok-push-2.ensures.items
