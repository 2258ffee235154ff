use Rattle.std.proofs.Common.{refl, sym, ◌∙◌, ◌<◌, subst}
use Rattle.ir_store_reads.specs.types.Terms.{name_term}
use Rattle.ir_store_reads.specs.types.Words.{is_table}
use Rattle.ir_store.specs.Lifted.{level_of}
use Rattle.ir_store.proofs.Climbing.{level_up, parent_found, below_next}
use Rattle.ir_store.proofs.Rising.{the_op}
use Rattle.ir_store.proofs.Tabled.{found_there, table_own, table_next, table_none}
use Rattle.ir_store.proofs.store.Store.table_from.Goals as goal

pub around-smaller : goal.around-smaller
around-smaller c =
    let t = c.args.self.now.module_of.tree in
    subst (λ n. level_of c.in-Some.place.parent t < n) (sym (level_up t c.distinct.ensures c.around.at c.in-Some.place (sym c.in-Some.ensures))) (below_next (level_of c.in-Some.place.parent t))

pub around-init : goal.around-init
around-init c = (c.requires, refl)

pub around-preserved : goal.around-preserved
around-preserved c =
    let t = c.args.self.now.module_of.tree in
    let o = the_op t c.distinct.ensures c.around.at c.around.invariant.0 in
    let p = parent_found t c.distinct.ensures c.around.at c.in-Some.place (sym c.in-Some.ensures) in (
      found_there c.in-Some.place.parent t p.0 p.1,
      sym (table_next (λ n. is_table (name_term c.args.ctx.now n)) t c.distinct.ensures c.around.at o.0 o.1 (sym (c.around-test.ensures o.0 o.1)) c.in-Some.place (sym c.in-Some.ensures)) ∙ c.around.invariant.1,
    )

pub returns-in_default : goal.returns-in_default
returns-in_default c =
    let t = c.args.self.now.module_of.tree in
    let o = the_op t c.distinct.ensures c.around.at c.around.invariant.0 in
    sym (table_none (λ n. is_table (name_term c.args.ctx.now n)) t c.distinct.ensures c.around.at o.0 o.1 (sym (c.around-test.ensures o.0 o.1)) (sym c.in_default.ensures)) ∙ c.around.invariant.1

pub returns : goal.returns
returns c =
    let t = c.args.self.now.module_of.tree in
    let o = the_op t c.distinct.ensures c.around.at c.around.invariant.0 in
    sym (table_own (λ n. is_table (name_term c.args.ctx.now n)) t c.distinct.ensures c.around.at o.0 o.1 (sym (c.around-test.ensures o.0 o.1))) ∙ c.around.invariant.1
