use Rattle.std.proofs.Common.{◌≡◌, true}
use Rattle.greedy.specs.Reached.{at_end}
use Rattle.greedy.specs.Adding.{Adds}
use Rattle.greedy.specs.Parts.{IsOrEnds}
use Rattle.greedy.proofs.Adding.{on_ok, adds_as, adds_nothing}
use Rattle.greedy.proofs.Reached.{at_no_end, at_the_end}
use Rattle.greedy.proofs.block.push_end.Goals as goal

pub returns-in-Some : goal.returns-in-Some
returns-in-Some c =
    let t = c.args.world.now.store.module_of.tree in
    adds_nothing (λ x. at_end c.args.place.now x t ≡ true) c.args.ops.now.items (at_no_end c.args.place.now c.in-Some.field-0 c.in-Some.is t)

pub returns-in-None : goal.returns-in-None
returns-in-None c =
    let t = c.args.world.now.store.module_of.tree in
    on_ok (Adds (IsOrEnds c.args.place.now.parent t) c.args.ops.now.items c.push_with_lasts.new.ops.items) (Adds (λ x. at_end c.args.place.now x t ≡ true) c.args.ops.now.items c.push_with_lasts.new.ops.items) c.push_with_lasts.result
    (adds_as (λ x. at_end c.args.place.now x t ≡ true) (IsOrEnds c.args.place.now.parent t) c.args.ops.now.items c.push_with_lasts.new.ops.items (at_the_end c.args.place.now t)) c.push_with_lasts.ensures
