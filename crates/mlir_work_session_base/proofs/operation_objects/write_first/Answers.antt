use Rattle.std.proofs.Common.{◌∙◌, ◌++◌, ap, codes, false, true}
use Rattle.ir_event.specs.trees.Meaning.{meaning}
use Rattle.ir_event.specs.trees.Tree.{Op, head}
use Rattle.ir_event.specs.types.Terms.{name_term}
use Rattle.ir_text.specs.View.{entries_in}
use Rattle.ir_text_tokens.specs.Printing.{raw_text}
use Rattle.mlir_work_script_base.specs.Values.{op_text}
use Rattle.serde_json.specs.Data.{Members, array, member, object, string}
use Rattle.serde_json.specs.Written.{members_text}
use Rattle.mlir_work_session_base.specs.OperationObjects.{entry_members, first_members, value_items}
use Rattle.mlir_work_session_base.proofs.JsonText.{member_written}
use Rattle.mlir_work_session_base.proofs.operation_objects.write_first.Goals as goal

pub returns : goal.returns
returns c ms =
    let ctx = c.args.ctx.now in
    let h = c.tree.inside in
    let from_operands : Members = member (codes "operands") (array (value_items h.operands.items)) ms in
    let from_name : Members = member (codes "name") (string (raw_text (name_term ctx h.name))) from_operands in
    let from_kind : Members = member (codes "kind") (string (codes "operation")) from_name in
    let from_id : Members = member (codes "id") (string (op_text h.id)) from_kind in
    member_written _ _ _ true (codes "operands") (array (value_items h.operands.items)) ms c.in_ok-write_key-5.ensures (rw c.deref-2.ensures.value at c.in_ok-write_values.ensures)
    ∙ member_written _ _ _ true (codes "name") (string (raw_text (name_term ctx h.name))) from_operands c.in_ok-write_key-4.ensures c.in_ok-write_name.ensures
    ∙ member_written _ _ _ true (codes "kind") (string (codes "operation")) from_name c.in_ok-write_key-3.ensures c.in_ok-write_quoted.ensures
    ∙ member_written _ _ _ true (codes "id") (string (op_text h.id)) from_kind c.in_ok-write_key-2.ensures c.in_ok-write_op.ensures
    ∙ member_written _ _ _ false (codes "attributes") (object (entry_members (entries_in ctx h.attrs.items))) from_id c.in_ok-write_key.ensures (rw c.deref.ensures.value at c.in_ok-write_entries.ensures)
    ∙ ap (λ (t : Op). c.args.out.now.items ++ members_text false (first_members (head (meaning ctx t)) ms)) c.tree.view_is
