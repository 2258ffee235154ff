use Rattle.std.proofs.Common.{◌++◌, List, sym, subst}
use Rattle.mlir_work_script.specs.Commands.{said_of}
use Rattle.mlir_work_notes.specs.Notes.{Note, AppendsNotes, missing_value}
use Rattle.mlir_work_notes.specs.Named.{value_given, value_replaced}
use Rattle.mlir_work_notes.proofs.Meant.{missing_value_meant}
use Rattle.mlir_work_notes.proofs.Telling.{tells_both}
use Rattle.mlir_work_notes.proofs.notes.write_missing_values.Goals as goal

pub returns : goal.returns
returns c =
    let ctx = c.args.world.now.ctx in
    let t = c.args.world.now.store.module_of.tree in
    let first = value_replaced (said_of c.args.command.now) in
    let second = value_given (said_of c.args.command.now) in
    subst (λ (cs : List Note). AppendsNotes c.write_missing_value-2.result c.args.out.now.items c.write_missing_value-2.new.out.items cs)
    (sym (λ i. missing_value_meant ctx t first i ++ missing_value_meant ctx t second i))
    (tells_both c.write_missing_value-2.result c.args.out.now.items c.write_missing_value.new.out.items c.write_missing_value-2.new.out.items (missing_value t first) (missing_value t second)
    (rw c.value_replaced.ensures at c.in_ok-write_missing_value.ensures) (rw c.value_given.ensures at c.write_missing_value-2.ensures))
