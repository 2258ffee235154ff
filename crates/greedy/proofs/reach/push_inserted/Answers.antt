use Rattle.std.proofs.Common.{◌≡◌}
use Rattle.greedy.specs.Adding.{Adds}
use Rattle.greedy.specs.Parts.{IsOver, UpTo}
use Rattle.greedy.proofs.Adding.{on_ok, adds_as}
use Rattle.greedy.proofs.Skipping.{inserted_earlier, inserted_later}
use Rattle.greedy.proofs.reach.push_inserted.Goals as goal

pub returns-then-precedes : goal.returns-then-precedes
returns-then-precedes c =
    let t = c.args.world.now.store.module_of.tree in
    on_ok (Adds (IsOver t c.args.op) c.args.ops.now.items c.push_over.new.ops.items) (Adds (UpTo t c.args.passed (λ x. x ≡ c.args.op)) c.args.ops.now.items c.push_over.new.ops.items) c.push_over.result
    (adds_as (UpTo t c.args.passed (λ x. x ≡ c.args.op)) (IsOver t c.args.op) c.args.ops.now.items c.push_over.new.ops.items (inserted_later t c.args.world.now.wellformed.distinct c.args.passed c.args.op c.precedes.result c.precedes.ensures c.if-precedes.true)) c.push_over.ensures

pub returns : goal.returns
returns c =
    let t = c.args.world.now.store.module_of.tree in
    on_ok (Adds (λ x. x ≡ c.args.op) c.args.ops.now.items c.push.new.ops.items) (Adds (UpTo t c.args.passed (λ x. x ≡ c.args.op)) c.args.ops.now.items c.push.new.ops.items) c.push.result
    (adds_as (UpTo t c.args.passed (λ x. x ≡ c.args.op)) (λ x. x ≡ c.args.op) c.args.ops.now.items c.push.new.ops.items (inserted_earlier t c.args.world.now.wellformed.distinct c.args.passed c.args.op c.precedes.result c.precedes.ensures c.if-precedes.false)) c.push.ensures
