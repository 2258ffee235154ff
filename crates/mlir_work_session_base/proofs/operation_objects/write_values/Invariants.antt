use Rattle.std.proofs.Common.{◌≡◌, ◌++◌, ◌∷◌, drop, false}
use Rattle.mlir_work_session_base.specs.OperationObjects.{value_items}
use Rattle.serde_json.specs.Written.{items_text}
use Rattle.mlir_work_session_base.proofs.operation_objects.write_values.Given as goal

abbrev pub invariant-values : goal.invariant-values
invariant-values l = l.out.items ++ items_text l.later (value_items (drop l.value-index l.values)) ≡ l.fn.out.items ++ 91 ∷ items_text false (value_items l.values)
