use Rattle.std.proofs.Common.{sym, ◌∙◌, ◌<◌, subst, ap}
use Rattle.ir_store_reads.specs.trees.Ids.{find}
use Rattle.ir_store_reads.specs.tree_laws.Reads.{is_within}
use Rattle.ir_store.specs.Lifted.{level_of}
use Rattle.ir_store.proofs.Climbing.{level_up, below_next}
use Rattle.ir_store.proofs.Rising.{differs, agrees, within_at_none, within_at_up, within_at_own}
use Rattle.ir_store.proofs.store.Store.is_within.Goals as goal

pub around-smaller : goal.around-smaller
around-smaller c =
    let t = c.args.self.now.module_of.tree in
    subst (λ n. level_of c.in-Some.place.parent t < n) (sym (level_up t c.distinct.ensures c.around.at c.in-Some.place (sym c.in-Some.ensures))) (below_next (level_of c.in-Some.place.parent t))

pub around-preserved : goal.around-preserved
around-preserved c =
    let t = c.args.self.now.module_of.tree in
    sym (within_at_up t c.distinct.ensures c.args.op c.requires c.around.at (differs c.around.at c.args.op c.around-test.ensures) c.in-Some.place (sym c.in-Some.ensures)) ∙ c.around.invariant

pub returns : goal.returns
returns c =
    let t = c.args.self.now.module_of.tree in
    sym (ap (λ y. is_within y (find c.args.op t)) (agrees c.around.at c.args.op c.around-test.ensures) ∙ within_at_own t c.distinct.ensures c.args.op c.requires) ∙ c.around.invariant

pub returns-in_default : goal.returns-in_default
returns-in_default c =
    let t = c.args.self.now.module_of.tree in
    sym (within_at_none t c.distinct.ensures c.args.op c.requires c.around.at (differs c.around.at c.args.op c.around-test.ensures) (sym c.in_default.ensures)) ∙ c.around.invariant
