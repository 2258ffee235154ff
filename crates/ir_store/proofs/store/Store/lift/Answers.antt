use Rattle.std.proofs.Common.{sym, ap, ◌∙◌, ◌<◌, subst, Some, None}
use Rattle.ir_store.specs.Lifted.{level_of, lifted}
use Rattle.ir_store.proofs.Climbing.{below_next}
use Rattle.ir_store.proofs.Preceding.{parent_level, parentless_level, lifted_step}
use Rattle.ir_store.proofs.store.Store.lift.Goals as goal

pub levels-smaller-in-Some-parent : goal.levels-smaller-in-Some-parent
levels-smaller-in-Some-parent c =
    let t = c.args.self.now.module_of.tree in
    subst (λ n. level_of c.in-Some.above t < n) (sym (parent_level t c.distinct.ensures c.levels.left c.in-Some.above (sym c.in-Some.ensures))) (below_next (level_of c.in-Some.above t))

pub levels-preserved-in-Some-parent : goal.levels-preserved-in-Some-parent
levels-preserved-in-Some-parent c =
    let t = c.args.self.now.module_of.tree in
    lifted_step t c.distinct.ensures c.levels.left c.in-Some.above c.levels.at (Some c.in-Some-parent.parent) (sym c.in-Some.ensures) (sym c.in-Some-parent.ensures) ∙ c.levels.invariant

pub levels-smaller : goal.levels-smaller
levels-smaller c =
    let t = c.args.self.now.module_of.tree in
    subst (λ n. level_of c.in-Some.above t < n) (sym (parent_level t c.distinct.ensures c.levels.left c.in-Some.above (sym c.in-Some.ensures))) (below_next (level_of c.in-Some.above t))

pub levels-preserved : goal.levels-preserved
levels-preserved c =
    let t = c.args.self.now.module_of.tree in
    lifted_step t c.distinct.ensures c.levels.left c.in-Some.above c.levels.at None (sym c.in-Some.ensures) (sym c.in_default-parent.ensures) ∙ c.levels.invariant

pub returns : goal.returns
returns c =
    let t = c.args.self.now.module_of.tree in
    sym (ap (λ k. lifted k c.levels.at t) (parentless_level t c.distinct.ensures c.levels.left (sym c.in_default.ensures))) ∙ c.levels.invariant
