use Rattle.std.proofs.Common.{◌∙◌, sym}
use Rattle.mlir_work_c_read.proofs.Refusing.{walk_ends, walk_on, walk_stops}
use Rattle.mlir_work_c_read.proofs.dictionaries.entries_fault.Goals as goal

pub entries-preserved : goal.entries-preserved
entries-preserved c =
    walk_on c.args.ctx.now c.args.op.now c.args.properties.now c.args.entries.now c.entries.rest.now c.entries.count c.entry-item.result _ c.in-len1-up.len_at_least c.entry-item.is c.entries.invariant
    (sym c.in_default-entry_fault.is ∙ c.entry_fault.ensures)

pub returns-in-Some : goal.returns-in-Some
returns-in-Some c =
    walk_stops c.args.ctx.now c.args.op.now c.args.properties.now c.args.entries.now c.entries.rest.now c.entries.count c.entry-item.result _ c.in-len1-up.len_at_least c.entry-item.is c.entries.invariant
    c.in-Some.refusal (sym c.in-Some.is ∙ c.entry_fault.ensures)

pub returns : goal.returns
returns c =
    walk_ends c.args.ctx.now c.args.op.now c.args.properties.now c.args.entries.now c.entries.rest.now c.entries.count c.in_default.len_below c.entries.invariant
