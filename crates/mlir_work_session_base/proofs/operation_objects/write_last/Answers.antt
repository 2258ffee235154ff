use Rattle.std.proofs.Common.{◌∙◌, ◌++◌, ap, codes, true}
use Rattle.ir_event.specs.trees.Meaning.{meaning}
use Rattle.ir_event.specs.trees.Tree.{Op, head, regions}
use Rattle.ir_text.specs.View.{entries_in, regions_in, types_in}
use Rattle.serde_json.specs.Data.{Members, array, member, no_members, object}
use Rattle.serde_json.specs.Written.{members_text}
use Rattle.mlir_work_session_base.specs.OperationObjects.{entry_members, index_data, last_members, parent_data, region_data, region_items, type_items}
use Rattle.mlir_work_session_base.proofs.JsonText.{member_written}
use Rattle.mlir_work_session_base.proofs.operation_objects.write_last.Goals as goal

pub returns : goal.returns
returns c =
    let ctx = c.args.ctx.now in
    let at = c.args.place.now in
    let h = c.tree.inside in
    let from_results : Members = member (codes "results") (array (type_items (types_in ctx h.results.items))) no_members in
    let from_regions : Members = member (codes "regions") (array (region_items (regions_in ctx h.regions.items))) from_results in
    let from_region : Members = member (codes "region") (region_data at) from_regions in
    let from_properties : Members = member (codes "properties") (object (entry_members (entries_in ctx h.props.items))) from_region in
    let from_place : Members = member (codes "place") (index_data at) from_properties in
    c.in_ok-push.ensures.items
    ∙ member_written _ _ _ true (codes "results") (array (type_items (types_in ctx h.results.items))) no_members c.in_ok-write_key-6.ensures (rw c.deref-3.ensures.value at c.in_ok-write_types.ensures)
    ∙ member_written _ _ _ true (codes "regions") (array (region_items (regions_in ctx h.regions.items))) from_results c.in_ok-write_key-5.ensures (rw c.deref-2.ensures.value at c.in_ok-write_regions.ensures)
    ∙ member_written _ _ _ true (codes "region") (region_data at) from_regions c.in_ok-write_key-4.ensures c.in_ok-write_region.ensures
    ∙ member_written _ _ _ true (codes "properties") (object (entry_members (entries_in ctx h.props.items))) from_region c.in_ok-write_key-3.ensures (rw c.deref.ensures.value at c.in_ok-write_entries.ensures)
    ∙ member_written _ _ _ true (codes "place") (index_data at) from_properties c.in_ok-write_key-2.ensures c.in_ok-write_index.ensures
    ∙ member_written _ _ _ true (codes "parent") (parent_data at) from_place c.in_ok-write_key.ensures c.in_ok-write_parent.ensures
    ∙ ap (λ (t : Op). c.args.out.now.items ++ members_text true (last_members at (head (meaning ctx t)) (regions (meaning ctx t)))) c.tree.view_is
