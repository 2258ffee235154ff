use Rattle.greedy.specs.Adding.{Adds}
use Rattle.greedy.specs.Parts.{IsOrEnds, IsOver, UpTo}
use Rattle.greedy.proofs.Adding.{on_ok, adds_as}
use Rattle.greedy.proofs.Skipping.{changed_earlier, changed_later}
use Rattle.greedy.proofs.reach.push_changed.Goals as goal

pub returns-then-precedes : goal.returns-then-precedes
returns-then-precedes c =
    let t = c.args.world.now.store.module_of.tree in
    on_ok (Adds (IsOver t c.args.op) c.args.ops.now.items c.push_over.new.ops.items) (Adds (UpTo t c.args.passed (IsOrEnds c.args.op t)) c.args.ops.now.items c.push_over.new.ops.items) c.push_over.result
    (adds_as (UpTo t c.args.passed (IsOrEnds c.args.op t)) (IsOver t c.args.op) c.args.ops.now.items c.push_over.new.ops.items (changed_later t c.args.world.now.wellformed.distinct c.args.passed c.args.op c.precedes.result c.precedes.ensures c.if-precedes.true)) c.push_over.ensures

pub returns : goal.returns
returns c =
    let t = c.args.world.now.store.module_of.tree in
    on_ok (Adds (IsOrEnds c.args.op t) c.args.ops.now.items c.push_with_lasts.new.ops.items) (Adds (UpTo t c.args.passed (IsOrEnds c.args.op t)) c.args.ops.now.items c.push_with_lasts.new.ops.items) c.push_with_lasts.result
    (adds_as (UpTo t c.args.passed (IsOrEnds c.args.op t)) (IsOrEnds c.args.op t) c.args.ops.now.items c.push_with_lasts.new.ops.items (changed_earlier t c.args.world.now.wellformed.distinct c.args.passed c.args.op c.precedes.result c.precedes.ensures c.if-precedes.false)) c.push_with_lasts.ensures
