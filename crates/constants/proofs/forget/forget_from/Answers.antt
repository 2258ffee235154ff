use Rattle.std.proofs.Common.{◌≡◌, ◌≤◌, ◌<◌, true, rules, length, get_or}
use Rattle.constants.proofs.Forgets.{trail_start, forgetting_from_end}
use Rattle.constants.proofs.Counted.{forgets_start, forgets_more, forgets_looks, forgets_trail, forgets_end}
use Rattle.constants.specs.Tables.{known_in, look_in, uses_in}
use Rattle.constants.proofs.forget.forget_from.Goals as goal

pub returns-then-not-forget-clause-trail : goal.returns-then-not-forget-clause-trail
returns-then-not-forget-clause-trail c =
    trail_start (look_in c.args.view.now.world.now) (c.forget.result ≡ true) c.args.op (known_in c.args.table.now) (known_in c.forget.new.table) c.args.trail.now.items c.forget.new.trail.items c.requires c.forget.ensures

pub loop-next-init : goal.loop-next-init
loop-next-init c =
    let yes : c.forget.result ≡ true = search rules in
    forgets_start look_in uses_in (c.forget.result ≡ true) c.args.op (known_in c.args.table.now) (known_in c.forget.new.table) c.args.trail.now.items c.forget.new.trail.items c.args.view.now.world.now c.args.view.now.looks yes c.requires c.forget.ensures

pub returns-then-not-forget_users-clause-trail : goal.returns-then-not-forget_users-clause-trail
returns-then-not-forget_users-clause-trail c =
    let lt : c.loop-next.next < length c.loop-next.trail.items = search rules in
    let is : c.index.result.now ≡ get_or c.loop-next.trail.items c.loop-next.next c.index.result.now = search rules in
    forgets_trail look_in uses_in (c.forget_users.result ≡ true) c.args.op c.index.result.now (known_in c.args.table.now) (known_in c.loop-next.table) (known_in c.forget_users.new.table) c.loop-next.trail.items c.forget_users.new.trail.items
    c.loop-next.next c.args.view.now.world.now c.loop-next.view.world.now c.args.view.now.looks c.loop-next.view.looks lt is c.loop-next.invariant c.forget_users.ensures.forgotten

pub returns-then-not-forget_users-clause-looks : goal.returns-then-not-forget_users-clause-looks
returns-then-not-forget_users-clause-looks c =
    let lt : c.loop-next.next < length c.loop-next.trail.items = search rules in
    let is : c.index.result.now ≡ get_or c.loop-next.trail.items c.loop-next.next c.index.result.now = search rules in
    forgets_looks look_in uses_in (c.forget_users.result ≡ true) c.args.op c.index.result.now (known_in c.args.table.now) (known_in c.loop-next.table) (known_in c.forget_users.new.table) c.loop-next.trail.items c.forget_users.new.trail.items
    c.loop-next.next c.args.view.now.world.now c.loop-next.view.world.now c.args.view.now.looks c.loop-next.view.looks c.forget_users.new.view.looks lt is c.loop-next.invariant c.forget_users.ensures.forgotten c.forget_users.ensures.looks

pub loop-next-preserved : goal.loop-next-preserved
loop-next-preserved c =
    let yes : c.forget_users.result ≡ true = search rules in
    let lt : c.loop-next.next < length c.loop-next.trail.items = search rules in
    let is : c.index.result.now ≡ get_or c.loop-next.trail.items c.loop-next.next c.index.result.now = search rules in
    forgets_more look_in uses_in (c.forget_users.result ≡ true) c.args.op c.index.result.now (known_in c.args.table.now) (known_in c.loop-next.table) (known_in c.forget_users.new.table) c.loop-next.trail.items c.forget_users.new.trail.items
    c.loop-next.next c.args.view.now.world.now c.loop-next.view.world.now c.forget_users.new.view.world.now c.args.view.now.looks c.loop-next.view.looks c.forget_users.new.view.looks
    yes lt is c.loop-next.invariant c.forget_users.ensures.forgotten c.forget_users.ensures.looks c.forget_users.ensures.world

pub returns-clause-forgotten : goal.returns-clause-forgotten
returns-clause-forgotten c done =
    let le : length c.loop-next.trail.items ≤ c.loop-next.next = search rules in
    forgetting_from_end (look_in c.args.view.now.world.now) c.args.op (known_in c.args.table.now) (known_in c.loop-next.table) c.loop-next.trail.items c.loop-next.next le c.loop-next.invariant.from

pub returns-clause-looks : goal.returns-clause-looks
returns-clause-looks c =
    let le : length c.loop-next.trail.items ≤ c.loop-next.next = search rules in
    forgets_end look_in uses_in c.args.op (known_in c.args.table.now) (known_in c.loop-next.table) c.loop-next.trail.items c.loop-next.next c.args.view.now.world.now c.loop-next.view.world.now c.args.view.now.looks c.loop-next.view.looks le c.loop-next.invariant
