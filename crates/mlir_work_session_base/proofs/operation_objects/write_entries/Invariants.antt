use Rattle.std.proofs.Common.{◌≡◌, ◌++◌, ◌∷◌, drop, false}
use Rattle.std.specs.List.{list_all}
use Rattle.std.specs.Prelude.{IsTrue}
use Rattle.ir_event.specs.trees.Meaning.{is_attr, is_name}
use Rattle.ir_event.specs.trees.Passing.{entry_passes}
use Rattle.ir_text.specs.View.{entries_in}
use Rattle.mlir_work_session_base.specs.OperationObjects.{entry_members}
use Rattle.serde_json.specs.Written.{members_text}
use Rattle.mlir_work_session_base.proofs.operation_objects.write_entries.Given as goal

abbrev pub invariant-entries : goal.invariant-entries
invariant-entries l = record {
  text : l.out.items ++ members_text l.later (entry_members (entries_in l.ctx (drop l.entry-index l.entries))) ≡ l.fn.out.items ++ 123 ∷ members_text false (entry_members (entries_in l.ctx l.entries));
  known : IsTrue (list_all (entry_passes (is_name l.ctx) (is_attr l.ctx)) (drop l.entry-index l.entries));
}
