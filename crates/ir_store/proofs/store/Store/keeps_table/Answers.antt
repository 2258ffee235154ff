use Rattle.std.proofs.Common.{sym, ◌∙◌, eqb}
use Rattle.std.specs.Option.{option_eq}
use Rattle.ir_store_reads.specs.types.Terms.{name_term}
use Rattle.ir_store_reads.specs.types.Words.{is_table}
use Rattle.ir_store.proofs.Climbing.{parent_found}
use Rattle.ir_store.proofs.Tabled.{found_there, relink_place, relink_parent, relink_tables}
use Rattle.ir_store.proofs.store.Store.keeps_table.Goals as goal

pub returns-in_default : goal.returns-in_default
returns-in_default c = absurd (relink_place c.args.self.now.module_of.tree c.distinct.ensures c.args.op c.args.place.now c.requires (sym c.in_default.ensures))

pub table_from-requires : goal.table_from-requires
table_from-requires c =
    let t = c.args.self.now.module_of.tree in
    let p = parent_found t c.distinct.ensures c.args.op c.in-Some.old (sym c.in-Some.ensures) in
    found_there c.in-Some.old.parent t p.0 p.1

pub table_from-requires-2 : goal.table_from-requires-2
table_from-requires-2 c = relink_parent c.args.self.now.module_of.tree c.distinct.ensures c.args.op c.args.place.now c.requires

pub returns : goal.returns
returns c =
    c.eq.ensures ∙ (λ i. option_eq eqb (c.table_from.ensures i) (c.table_from-2.ensures i))
    ∙ sym (relink_tables c.args.self.now.module_of.tree c.distinct.ensures c.args.op c.args.place.now c.requires (λ n. is_table (name_term c.args.ctx.now n)) c.in-Some.old (sym c.in-Some.ensures))
