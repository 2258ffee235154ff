use Rattle.std.proofs.Common.{refl}
use Rattle.listeners.proofs.Pushing.{ends_begin, ends_end, ends_more}
use Rattle.listeners.proofs.Steps.{from_item}
use Rattle.listeners.proofs.about.push_all_uses.Goals as goal

pub values-init : goal.values-init
values-init c = ends_begin c.args.world.now.store.module_of.tree c.args.values.now c.args.keys.now.items

pub values-preserved : goal.values-preserved
values-preserved c =
    ends_more c.args.world.now.store.module_of.tree c.args.values.now c.value-item.result _ c.values.left.now c.values.keys.items c.push_uses.new.keys.items c.args.keys.now.items
    (from_item c.values.left.now c.value-item.result _ _ c.in-len1-up.len_at_least c.value-item.is refl) c.in_ok-push_uses.ensures c.values.invariant

pub returns : goal.returns
returns c = ends_end c.args.world.now.store.module_of.tree c.args.values.now c.values.left.now c.values.keys.items c.args.keys.now.items c.in_default.len_below c.values.invariant
