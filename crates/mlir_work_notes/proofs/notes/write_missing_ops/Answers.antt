use Rattle.std.proofs.Common.{◌++◌, List, sym, subst}
use Rattle.mlir_work_script.specs.Commands.{said_of}
use Rattle.mlir_work_notes.specs.Notes.{Note, AppendsNotes, missing_op}
use Rattle.mlir_work_notes.specs.Named.{place_of_command, subject_of}
use Rattle.mlir_work_notes.proofs.Meant.{missing_op_meant}
use Rattle.mlir_work_notes.proofs.Telling.{tells_both}
use Rattle.mlir_work_notes.proofs.notes.write_missing_ops.Goals as goal

pub returns : goal.returns
returns c =
    let ctx = c.args.world.now.ctx in
    let t = c.args.world.now.store.module_of.tree in
    let first = subject_of (said_of c.args.command.now) in
    let second = place_of_command (said_of c.args.command.now) in
    subst (λ (cs : List Note). AppendsNotes c.write_missing_op-2.result c.args.out.now.items c.write_missing_op-2.new.out.items cs)
    (sym (λ i. missing_op_meant ctx t first i ++ missing_op_meant ctx t second i))
    (tells_both c.write_missing_op-2.result c.args.out.now.items c.write_missing_op.new.out.items c.write_missing_op-2.new.out.items (missing_op t first) (missing_op t second)
    (rw c.subject_of.ensures at c.in_ok-write_missing_op.ensures) (rw c.place_of_command.ensures at c.write_missing_op-2.ensures))
