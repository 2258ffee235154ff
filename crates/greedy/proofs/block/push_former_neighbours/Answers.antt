use Rattle.std.proofs.Common.{◌≡◌, true}
use Rattle.greedy.specs.Reached.{at_end}
use Rattle.greedy.specs.Parts.{IsOrAtEnd}
use Rattle.greedy.proofs.Reached.{is_or_at_end}
use Rattle.greedy.specs.Adding.{Adds}
use Rattle.greedy.proofs.Adding.{on_ok, adds_both}
use Rattle.greedy.proofs.block.push_former_neighbours.Goals as goal

pub returns : goal.returns
returns c =
    let t = c.args.world.now.store.module_of.tree in
    on_ok (Adds (λ x. at_end c.args.place.now x t ≡ true) c.push.new.ops.items c.push_end.new.ops.items) (Adds (IsOrAtEnd c.args.op c.args.place.now t) c.args.ops.now.items c.push_end.new.ops.items) c.push_end.result
    (λ b. adds_both (IsOrAtEnd c.args.op c.args.place.now t) (λ x. x ≡ c.args.op) (λ x. at_end c.args.place.now x t ≡ true) c.args.ops.now.items c.push.new.ops.items c.push_end.new.ops.items (is_or_at_end c.args.op c.args.place.now t) c.in_ok-push.ensures b) c.push_end.ensures
