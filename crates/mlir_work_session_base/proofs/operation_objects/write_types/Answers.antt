use Rattle.std.proofs.Common.{List, ℕ, refl}
use Rattle.std.specs.List.{list_all}
use Rattle.ir_event.specs.trees.Meaning.{is_type}
use Rattle.ir_event.specs.types.Terms.{type_term}
use Rattle.ir_text.specs.TypeText.{type_text}
use Rattle.ir_text.specs.View.{types_in}
use Rattle.serde_json.specs.Data.{string}
use Rattle.mlir_work_session_base.specs.OperationObjects.{type_items}
use Rattle.mlir_work_session_base.proofs.OperationObjects.{item_more, items_done, next_all}
use Rattle.mlir_work_session_base.proofs.operation_objects.write_types.Goals as goal

pub types-preserved : goal.types-preserved
types-preserved c =
    let ctx = c.args.ctx.now in
    record {
      text = item_more (λ (ts : List ℕ). type_items (types_in ctx ts)) c.args.types.now c.types.id-index c.id-item.result (string (type_text (type_term ctx c.id-item.result))) c.types.out.items c.write_comma.new.out.items c.write_type.new.out.items _ c.types.later
          c.types-test.true c.id-item.is refl c.in_ok-write_comma.ensures c.in_ok-write_type.ensures c.types.invariant.text;
      known = (next_all (is_type ctx) (list_all (is_type ctx)) c.args.types.now c.types.id-index c.id-item.result c.types-test.true c.id-item.is refl c.types.invariant.known).1;
    }

pub returns : goal.returns
returns c =
    items_done (λ (ts : List ℕ). type_items (types_in c.args.ctx.now ts)) c.args.types.now c.types.id-index c.types.out.items _ _ c.types.later
    c.types-test.false refl c.types.invariant.text c.in_ok-push-2.ensures.items
