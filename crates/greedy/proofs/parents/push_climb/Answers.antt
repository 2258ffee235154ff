use Rattle.std.proofs.Common.{sym, ◌∙◌}
use Rattle.greedy.specs.Parts.{IsClimbed}
use Rattle.greedy.proofs.Climbing.{climb_none, climb_more, climb_top, climb_end, higher}
use Rattle.greedy.proofs.parents.push_climb.Goals as goal

pub around-init : goal.around-init
around-init c = climb_none c.args.world.now c.args.op c.args.ops.now.items

pub returns-in_default : goal.returns-in_default
returns-in_default c =
    climb_top c.args.world.now (IsClimbed c.args.world.now c.args.op) c.around.at c.args.ops.now.items c.around.ops.items _ (sym c.place.ensures ∙ c.in_default.is) c.around.invariant c.in_ok-push.ensures

pub around-smaller : goal.around-smaller
around-smaller c = higher c.args.world.now.store.module_of.tree c.args.world.now.wellformed.distinct c.around.at c.in-Some.place (sym c.place.ensures ∙ c.in-Some.is)

pub around-preserved : goal.around-preserved
around-preserved c =
    climb_more c.args.world.now (IsClimbed c.args.world.now c.args.op) c.around.at c.in-Some.place c.args.ops.now.items c.around.ops.items _ (sym c.place.ensures ∙ c.in-Some.is) c.around.invariant c.in_ok-push.ensures

pub returns : goal.returns
returns c = climb_end c.args.world.now (IsClimbed c.args.world.now c.args.op) c.around.at c.args.ops.now.items c.around.ops.items (sym c.is_recursive_at.ensures ∙ c.around-test.false) c.around.invariant
