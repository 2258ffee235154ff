use Rattle.std.proofs.Common.{refl}
use Rattle.mlir_work_script_base.specs.Values.{value_text}
use Rattle.serde_json.specs.Data.{string}
use Rattle.mlir_work_session_base.specs.OperationObjects.{value_items}
use Rattle.mlir_work_session_base.proofs.OperationObjects.{item_more, items_done}
use Rattle.mlir_work_session_base.proofs.operation_objects.write_values.Goals as goal

pub values-preserved : goal.values-preserved
values-preserved c =
    item_more value_items c.args.values.now c.values.value-index c.value-item.result (string (value_text c.value-item.result)) c.values.out.items c.write_comma.new.out.items c.write_value.new.out.items _ c.values.later
    c.values-test.true c.value-item.is refl c.in_ok-write_comma.ensures c.in_ok-write_value.ensures c.values.invariant

pub returns : goal.returns
returns c =
    items_done value_items c.args.values.now c.values.value-index c.values.out.items _ _ c.values.later
    c.values-test.false refl c.values.invariant c.in_ok-push-2.ensures.items
