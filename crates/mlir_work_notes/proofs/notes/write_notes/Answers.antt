use Rattle.std.proofs.Common.{List, sym, subst}
use Rattle.mlir_work_script.specs.Commands.{said_of}
use Rattle.mlir_work_notes.specs.Notes.{Note, AppendsNotes}
use Rattle.mlir_work_notes.proofs.Meant.{unseen_meant, users_left_meant}
use Rattle.mlir_work_notes.proofs.notes.write_notes.Goals as goal

pub returns-in-HasUses : goal.returns-in-HasUses
returns-in-HasUses c =
    let ctx = c.args.world.now.ctx in
    let t = c.args.world.now.store.module_of.tree in
    rw c.in-HasUses.is (subst (λ (cs : List Note). AppendsNotes c.write_users_left.result c.args.out.now.items c.write_users_left.new.out.items cs) (sym (users_left_meant ctx t (said_of c.args.command.now))) c.write_users_left.ensures)

pub returns-in-NotVisible : goal.returns-in-NotVisible
returns-in-NotVisible c =
    let ctx = c.args.world.now.ctx in
    let t = c.args.world.now.store.module_of.tree in
    rw c.in-NotVisible.is (subst (λ (cs : List Note). AppendsNotes c.write_unseen.result c.args.out.now.items c.write_unseen.new.out.items cs) (sym (unseen_meant ctx t (said_of c.args.command.now))) c.write_unseen.ensures)
