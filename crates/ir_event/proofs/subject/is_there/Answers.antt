use Rattle.std.proofs.Common.{◌∙◌, ap, sym}
use Rattle.std.specs.Prelude.{is_some}
use Rattle.ir_event.proofs.Abouts.{op_means, value_means}
use Rattle.ir_event.proofs.subject.is_there.Goals as goal

pub returns-in-Op : goal.returns-in-Op
returns-in-Op c =
    let w = c.args.world.now in
    rw c.in-Op.is (c.in_tree.ensures ∙ sym (op_means w.ctx c.in-Op.op w.store.module_of.tree))

pub returns-in-Val : goal.returns-in-Val
returns-in-Val c =
    let w = c.args.world.now in
    rw c.in-Val.is (c.is_some.ensures ∙ ap is_some c.value_type.ensures ∙ sym (value_means w.ctx c.in-Val.value w.store.module_of.tree))
