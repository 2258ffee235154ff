use Rattle.std.proofs.Common.{◌∙◌, sym}
use Rattle.ir_event.specs.types.Terms.{name_term, type_term, attr_term}
use Rattle.ir_event.proofs.of_tree_laws.Contents.{map_has_id}
use Rattle.mlir_work_session_base.proofs.subjects.is_in.Goals as goal

pub returns : goal.returns
returns c =
    let w = c.args.world.now in
    c.in_tree.ensures ∙ sym (map_has_id (name_term w.ctx) (type_term w.ctx) (attr_term w.ctx) c.args.op w.store.module_of.tree)
