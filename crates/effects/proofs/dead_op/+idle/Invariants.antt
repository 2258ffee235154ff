use Rattle.std.proofs.Common.{◌-◌, ◌≡◌, ◌≤◌, ◌+◌, ◌*◌}
use Rattle.ir_event.specs.trees.Ids.{find}
use Rattle.ir_event.specs.trees.Places.{first_id}
use Rattle.effects.specs.Effects.{own_by}
use Rattle.effects.specs.Idle.{idle_at, idle_ops, idle_regions}
use Rattle.effects.specs.Within.{list_at, list_size, op_size, ops_from, regions_from, regions_of}
use Rattle.effects.proofs.dead_op.+idle.Given as goal

abbrev pub decreases-is_idle : goal.decreases-is_idle
decreases-is_idle l = 2 * op_size (find l.op l.world.now.store.module_of.tree)

abbrev pub decreases-is_list_idle : goal.decreases-is_list_idle
decreases-is_list_idle l = 2 * list_size (list_at l.op l.region l.world.now.store.module_of.tree) + 1

abbrev pub invariant-is_idle-regions : goal.invariant-is_idle-regions
invariant-is_idle-regions l =
    (idle_regions (own_by l.world.ctx) (regions_from l.region (regions_of (find l.op l.world.store.module_of.tree))) ≡ idle_at (own_by l.world.ctx) l.op l.world.store.module_of.tree)
    × (l.region ≤ l.count)

abbrev pub decreases-is_idle-regions : goal.decreases-is_idle-regions
decreases-is_idle-regions l = l.count - l.region

abbrev pub invariant-is_list_idle-ops : goal.invariant-is_list_idle-ops
invariant-is_list_idle-ops l =
    (idle_ops (own_by l.world.ctx) (ops_from l.at l.world.store.module_of.tree) ≡ idle_ops (own_by l.world.ctx) (list_at l.fn.op l.region l.world.store.module_of.tree))
    × (first_id (ops_from l.at l.world.store.module_of.tree) ≡ l.at)
    × (list_size (ops_from l.at l.world.store.module_of.tree) ≤ list_size (list_at l.fn.op l.region l.world.store.module_of.tree))

abbrev pub decreases-is_list_idle-ops : goal.decreases-is_list_idle-ops
decreases-is_list_idle-ops l = list_size (ops_from l.at l.world.store.module_of.tree)
