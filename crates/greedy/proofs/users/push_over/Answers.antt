use Rattle.std.proofs.Common.{◌≡◌, sym, ◌∙◌}
use Rattle.greedy.specs.Adding.{Adds}
use Rattle.greedy.specs.Parts.{IsHanded, IsOver}
use Rattle.greedy.proofs.Adding.{on_ok, adds_as, adds_nothing}
use Rattle.greedy.proofs.Skipping.{over_handed, over_is, over_none}
use Rattle.greedy.proofs.users.push_over.Goals as goal

pub returns-in_default : goal.returns-in_default
returns-in_default c =
    let t = c.args.world.now.store.module_of.tree in
    adds_nothing (IsOver t c.args.op) c.args.ops.now.items (over_none t c.args.world.now.wellformed.distinct c.args.op (sym c.in_default.is ∙ c.place.ensures))

pub push_handed_at-requires : goal.push_handed_at-requires
push_handed_at-requires c = sym c.place.ensures ∙ c.in-Some.is

pub returns-in-Some-before : goal.returns-in-Some-before
returns-in-Some-before c =
    let t = c.args.world.now.store.module_of.tree in
    on_ok (Adds (IsHanded t c.args.op) c.args.ops.now.items c.push_handed_at.new.ops.items) (Adds (IsOver t c.args.op) c.args.ops.now.items c.push_handed_at.new.ops.items) c.push_handed_at.result
    (adds_as (IsOver t c.args.op) (IsHanded t c.args.op) c.args.ops.now.items c.push_handed_at.new.ops.items (over_handed t c.args.world.now.wellformed.distinct c.args.op c.in-Some.place c.in-Some-before.field-0 (sym c.in-Some.is ∙ c.place.ensures) c.in-Some-before.is)) c.push_handed_at.ensures

pub returns-in-None : goal.returns-in-None
returns-in-None c =
    let t = c.args.world.now.store.module_of.tree in
    on_ok (Adds (λ x. x ≡ c.in-Some.place.parent) c.args.ops.now.items c.push.new.ops.items) (Adds (IsOver t c.args.op) c.args.ops.now.items c.push.new.ops.items) c.push.result
    (adds_as (IsOver t c.args.op) (λ x. x ≡ c.in-Some.place.parent) c.args.ops.now.items c.push.new.ops.items (over_is t c.args.world.now.wellformed.distinct c.args.op c.in-Some.place (sym c.in-Some.is ∙ c.place.ensures))) c.push.ensures
