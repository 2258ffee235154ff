use Rattle.std.proofs.Common.{◌≡◌, ◌*◌, ◌+◌, ◌-◌, [], length, map}
use Rattle.ir_text_tokens.specs.declared.token.Mark.TheVariants.{CloseRound, CloseCurly}
use Rattle.ir_types.specs.Things.{IsExtendedBy}
use Rattle.ir_tree.specs.View.{region_view}
use Rattle.ir_text_types.specs.Lists.{more_at}
use Rattle.ir_tree.specs.Limits.{most_ops}
use Rattle.ir_text_operations.specs.Free.{free_bound}
use Rattle.ir_text_names.specs.States.{after_in, state_of}
use Rattle.ir_text_operations.specs.OpReading.{region_at, regions_at, op_at, ops_at}
use Rattle.ir_text_operations.proofs.ops.+op.Given as goal

abbrev pub decreases-op : goal.decreases-op
decreases-op g l = 5 * l.depth

abbrev pub decreases-ops : goal.decreases-ops
decreases-ops g l = 5 * l.depth + 1

abbrev pub decreases-region : goal.decreases-region
decreases-region g l = 5 * l.depth + 2

abbrev pub decreases-regions : goal.decreases-regions
decreases-regions g l = 5 * l.depth + 3

abbrev pub decreases-op_with : goal.decreases-op_with
decreases-op_with g l = 5 * l.depth + 4

abbrev pub invariant-regions-items : goal.invariant-regions-items
invariant-regions-items g l = record {
  reads : more_at after_in CloseRound (region_at (ops_at CloseCurly (op_at (free_bound (g.O.Outer.types l.around.outer.now)) l.around.last l.depth) most_ops []) l.id l.isolated) (16 - l.count) (map region_view l.items.items) (state_of l.rest l.scope l.ctx) ≡ regions_at (ops_at CloseCurly (op_at (free_bound (g.O.Outer.types l.around.outer.now)) l.around.last l.depth) most_ops []) l.id l.isolated (state_of l.bytes l.initial.scope l.initial.ctx);
  grows : IsExtendedBy l.initial.ctx l.ctx;
  count : length l.items.items ≡ l.count;
}

abbrev pub invariant-ops-items : goal.invariant-ops-items
invariant-ops-items g l = record {
  reads : ops_at l.close (op_at (free_bound (g.O.Outer.types l.around.outer.now)) l.around.last l.depth) (most_ops - l.counter) l.items.items (state_of l.rest l.scope l.ctx) ≡ ops_at l.close (op_at (free_bound (g.O.Outer.types l.around.outer.now)) l.around.last l.depth) most_ops [] (state_of l.bytes l.initial.scope l.initial.ctx);
  grows : IsExtendedBy l.initial.ctx l.ctx;
}
