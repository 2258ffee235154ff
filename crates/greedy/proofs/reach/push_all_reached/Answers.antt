use Rattle.std.proofs.Common.{refl}
use Rattle.greedy.specs.Parts.{IsReachedUpTo}
use Rattle.greedy.proofs.Adding.{from_item, rest_all, rest_more, rest_done}
use Rattle.greedy.proofs.reach.push_all_reached.Goals as goal
use Rattle.ir_event.proofs.of_types.Truths.{none_left}

pub events-init : goal.events-init
events-init c = rest_all (IsReachedUpTo c.args.world.now.store.module_of.tree c.args.passed) c.args.events.now c.args.ops.now.items

pub events-preserved : goal.events-preserved
events-preserved c =
    rest_more (IsReachedUpTo c.args.world.now.store.module_of.tree c.args.passed) c.args.events.now c.args.ops.now.items c.events.rest.now _ c.event-item.result c.events.ops.items _
    (from_item c.events.rest.now c.event-item.result _ _ c.in-len1-up.len_at_least c.event-item.is refl) c.events.invariant c.in_ok-push_reached.ensures

pub returns : goal.returns
returns c = rest_done (IsReachedUpTo c.args.world.now.store.module_of.tree c.args.passed) c.args.events.now c.args.ops.now.items c.events.rest.now c.events.ops.items (none_left c.events.rest.now c.in_default.len_below) c.events.invariant
