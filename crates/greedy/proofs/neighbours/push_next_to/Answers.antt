use Rattle.greedy.specs.Parts.{GivesMoved, IsOuter, IsNextTo}
use Rattle.greedy.specs.Adding.{Adds}
use Rattle.greedy.proofs.Adding.{on_ok, adds_both}
use Rattle.greedy.proofs.neighbours.push_next_to.Goals as goal

pub returns : goal.returns
returns c =
    on_ok (Adds (IsOuter c.args.world.now c.args.event.now) c.push_moved.new.ops.items c.push_parents.new.ops.items) (Adds (IsNextTo c.args.world.now c.args.event.now) c.args.ops.now.items c.push_parents.new.ops.items) c.push_parents.result
    (λ b. adds_both (IsNextTo c.args.world.now c.args.event.now) (GivesMoved c.args.world.now c.args.event.now) (IsOuter c.args.world.now c.args.event.now) c.args.ops.now.items c.push_moved.new.ops.items c.push_parents.new.ops.items (λ x k. k) c.in_ok-push_moved.ensures b) c.push_parents.ensures
