use Rattle.std.proofs.Common.{◌≡◌, ◌++◌, ◌∷◌, drop, false}
use Rattle.std.specs.List.{list_all}
use Rattle.std.specs.Prelude.{IsTrue}
use Rattle.ir_event.specs.trees.Meaning.{is_type}
use Rattle.ir_text.specs.View.{types_in}
use Rattle.mlir_work_session_base.specs.OperationObjects.{type_items}
use Rattle.serde_json.specs.Written.{items_text}
use Rattle.mlir_work_session_base.proofs.operation_objects.write_types.Given as goal

abbrev pub invariant-types : goal.invariant-types
invariant-types l = record {
  text : l.out.items ++ items_text l.later (type_items (types_in l.ctx (drop l.id-index l.types))) ≡ l.fn.out.items ++ 91 ∷ items_text false (type_items (types_in l.ctx l.types));
  known : IsTrue (list_all (is_type l.ctx) (drop l.id-index l.types));
}
