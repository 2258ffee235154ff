use Rattle.std.proofs.Common.{◌≡◌, sym, ◌∙◌}
use Rattle.greedy.specs.Adding.{Adds}
use Rattle.greedy.specs.Parts.{IsAround}
use Rattle.greedy.proofs.Adding.{on_ok, adds_as, adds_nothing}
use Rattle.greedy.proofs.Reached.{around_none, around_is, around_not}
use Rattle.greedy.proofs.block.push_around.Goals as goal

pub returns-in_default : goal.returns-in_default
returns-in_default c =
    let t = c.args.world.now.store.module_of.tree in
    adds_nothing (IsAround t c.args.op) c.args.ops.now.items (around_none t c.args.world.now.wellformed.distinct c.args.op (sym c.in_default.is ∙ c.place.ensures))

pub returns-in-Some-before : goal.returns-in-Some-before
returns-in-Some-before c =
    let t = c.args.world.now.store.module_of.tree in
    adds_nothing (IsAround t c.args.op) c.args.ops.now.items (around_not t c.args.world.now.wellformed.distinct c.args.op c.in-Some.place c.in-Some-before.field-0 (sym c.in-Some.is ∙ c.place.ensures) c.in-Some-before.is)

pub returns-in-None : goal.returns-in-None
returns-in-None c =
    let t = c.args.world.now.store.module_of.tree in
    on_ok (Adds (λ x. x ≡ c.in-Some.place.parent) c.args.ops.now.items c.push.new.ops.items) (Adds (IsAround t c.args.op) c.args.ops.now.items c.push.new.ops.items) c.push.result
    (adds_as (IsAround t c.args.op) (λ x. x ≡ c.in-Some.place.parent) c.args.ops.now.items c.push.new.ops.items (λ x k. (around_is t c.args.world.now.wellformed.distinct c.args.op c.in-Some.place (sym c.in-Some.is ∙ c.place.ensures) x k).0)) c.push.ensures
