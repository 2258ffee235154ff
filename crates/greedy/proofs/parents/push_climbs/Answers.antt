use Rattle.std.proofs.Common.{◌⊎◌}
use Rattle.greedy.specs.Adding.{Adds}
use Rattle.greedy.specs.Parts.{IsClimbed}
use Rattle.greedy.proofs.Adding.{on_ok, adds_both}
use Rattle.greedy.proofs.parents.push_climbs.Goals as goal

pub returns : goal.returns
returns c =
    let w = c.args.world.now in
    on_ok (Adds (IsClimbed w c.args.other) c.push_climb.new.ops.items c.push_climb-2.new.ops.items) (Adds (λ x. IsClimbed w c.args.op x ⊎ IsClimbed w c.args.other x) c.args.ops.now.items c.push_climb-2.new.ops.items) c.push_climb-2.result
    (λ b. adds_both (λ x. IsClimbed w c.args.op x ⊎ IsClimbed w c.args.other x) (IsClimbed w c.args.op) (IsClimbed w c.args.other) c.args.ops.now.items c.push_climb.new.ops.items c.push_climb-2.new.ops.items (λ x k. k) c.in_ok-push_climb.ensures b) c.push_climb-2.ensures
