use Rattle.std.proofs.Common.{◌≡◌, true}
use Rattle.greedy.specs.Reached.{ends}
use Rattle.greedy.specs.Parts.{IsOrEnds}
use Rattle.greedy.proofs.Reached.{is_or_ends}
use Rattle.greedy.specs.Adding.{Adds}
use Rattle.greedy.proofs.Adding.{on_ok, adds_both}
use Rattle.greedy.proofs.block.push_with_lasts.Goals as goal

pub returns : goal.returns
returns c =
    let t = c.args.world.now.store.module_of.tree in
    on_ok (Adds (λ x. ends c.args.op x t ≡ true) c.push.new.ops.items c.push_lasts.new.ops.items) (Adds (IsOrEnds c.args.op t) c.args.ops.now.items c.push_lasts.new.ops.items) c.push_lasts.result
    (λ b. adds_both (IsOrEnds c.args.op t) (λ x. x ≡ c.args.op) (λ x. ends c.args.op x t ≡ true) c.args.ops.now.items c.push.new.ops.items c.push_lasts.new.ops.items (is_or_ends c.args.op t) c.in_ok-push.ensures b) c.push_lasts.ensures
