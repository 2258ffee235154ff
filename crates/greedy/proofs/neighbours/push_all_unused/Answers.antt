use Rattle.std.proofs.Common.{refl}
use Rattle.greedy.specs.Parts.{GivesUnused}
use Rattle.greedy.proofs.Adding.{from_item, rest_all, rest_more, rest_done}
use Rattle.greedy.proofs.neighbours.push_all_unused.Goals as goal
use Rattle.ir_event.proofs.of_types.Truths.{none_left}

pub values-init : goal.values-init
values-init c = rest_all (GivesUnused c.args.store.now.module_of.tree) c.args.values.now c.args.ops.now.items

pub values-preserved : goal.values-preserved
values-preserved c =
    rest_more (GivesUnused c.args.store.now.module_of.tree) c.args.values.now c.args.ops.now.items c.values.rest.now _ c.value-item.result c.values.ops.items _
    (from_item c.values.rest.now c.value-item.result _ _ c.in-len1-up.len_at_least c.value-item.is refl) c.values.invariant c.in_ok-push_unused.ensures

pub returns : goal.returns
returns c = rest_done (GivesUnused c.args.store.now.module_of.tree) c.args.values.now c.args.ops.now.items c.values.rest.now c.values.ops.items (none_left c.values.rest.now c.in_default.len_below) c.values.invariant
