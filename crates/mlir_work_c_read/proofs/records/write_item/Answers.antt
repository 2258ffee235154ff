use Rattle.std.proofs.Common.{sym, ◌∷◌, [], ◌<◌, length, arith}
use Rattle.mlir_work_c_read.proofs.Joining.{from_full, set_here}
use Rattle.mlir_work_c_read.proofs.records.write_item.Goals as goal

pub returns-then-at-into : goal.returns-then-at-into
returns-then-at-into c =
    let full = c.if-at-into.true in
    let within = c.requires in
    record { written = sym (from_full c.args.at (c.args.item ∷ []) c.args.into.now (omega (arith, full))); end_is = omega (arith, full, within) }

pub returns : goal.returns
returns c =
    let free = c.if-at-into.false in
    let less : c.args.at < length c.args.into.now = omega (arith, free) in
    record { written = set_here c.args.at c.args.item c.args.into.now less; end_is = omega (arith, less) }
