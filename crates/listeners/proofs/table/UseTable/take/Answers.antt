use Rattle.std.proofs.Common.{◌≡◌, ◌++◌, ◌∙◌, ap, subst, Some, None}
use Rattle.std.specs.Ordering.{nat_cmp}
use Rattle.std.specs.BTreeMap.{insert_entry}
use Rattle.listeners_support.specs.Map as idmap
use Rattle.listeners.specs.declared.operand_change.OperandChange.{OperandChange}
use Rattle.listeners.specs.Uses.{operand_uses, in_order}
use Rattle.listeners.specs.Others.{others}
use Rattle.listeners.specs.Tables.{table_uses}
use Rattle.listeners.proofs.Changing.{forget_table, put_table}
use Rattle.listeners.proofs.table.UseTable.take.Goals as goal

pub returns-in-Ok : goal.returns-in-Ok
returns-in-Ok c =
    let old = c.args.self.now in
    let v : OperandChange = record { operands = c.new-operands.result } in
    let is = subst (λ x. c.insert.new.self.entries ≡ insert_entry nat_cmp old.changed.entries x v) c.number.ensures c.in-Ok.ensures.entries in
    let gets = subst (λ x. idmap.Updates old.changed c.insert.new.self x (Some v)) c.number.ensures c.in-Ok.ensures.updates in
    put_table c.args.op old.changed c.insert.new.self v old.listed c.ordered.ensures is gets
    ∙ ap (λ vs. in_order (operand_uses c.args.op 0 vs ++ others c.args.op (table_uses old))) c.new-operands.ensures.items

pub returns-in-Err : goal.returns-in-Err
returns-in-Err c =
    let old = c.args.self.now in
    let absent = subst (λ x. idmap.get old.changed x ≡ None) c.number.ensures c.in-Err.ensures.absent in
    forget_table c.args.op old.changed c.insert.new.self old.listed c.forget.new.self absent c.in-Err.ensures.err c.forget.ensures
