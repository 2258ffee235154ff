use Rattle.std.proofs.Common.{◌≡◌, ◌≤◌, true, false, refl, rules, length}
use Rattle.constants.proofs.Counted.{learns_start, learns_more, learns_broken, learns_all}
use Rattle.constants.proofs.Forgetful.{never}
use Rattle.constants.specs.Tables.{known_in, look_in, uses_in}
use Rattle.constants.proofs.learn.learn_all.Goals as goal

pub loop-op-init : goal.loop-op-init
loop-op-init c = learns_start look_in uses_in c.args.ops.now (known_in c.args.table.now) c.args.trail.now.items c.args.view.now.world.now c.args.view.now.looks

pub returns-then-not-learn-clause-learnt : goal.returns-then-not-learn-clause-learnt
returns-then-not-learn-clause-learnt c =
    learns_broken look_in uses_in (c.learn.result ≡ true) _ c.args.ops.now c.loop-op.op-index c.op-item.result (known_in c.args.table.now) (known_in c.loop-op.table) (known_in c.learn.new.table) c.args.trail.now.items c.loop-op.trail.items c.learn.new.trail.items
    c.args.view.now.world.now c.loop-op.view.world.now c.args.view.now.looks c.loop-op.view.looks (never false refl) c.loop-op-test.true c.op-item.is c.loop-op.invariant c.learn.ensures.learnt

pub loop-op-preserved : goal.loop-op-preserved
loop-op-preserved c =
    let yes : c.learn.result ≡ true = search rules in
    learns_more look_in uses_in (c.learn.result ≡ true) c.args.ops.now c.loop-op.op-index c.op-item.result (known_in c.args.table.now) (known_in c.loop-op.table) (known_in c.learn.new.table) c.args.trail.now.items c.loop-op.trail.items c.learn.new.trail.items
    c.args.view.now.world.now c.loop-op.view.world.now c.learn.new.view.world.now c.args.view.now.looks c.loop-op.view.looks c.learn.new.view.looks yes c.loop-op-test.true c.op-item.is c.loop-op.invariant c.learn.ensures.learnt c.learn.ensures.looks c.learn.ensures.world

pub returns-clause-learnt : goal.returns-clause-learnt
returns-clause-learnt c =
    let le : length c.args.ops.now ≤ c.loop-op.op-index = search rules in
    learns_all look_in uses_in _ c.args.ops.now c.loop-op.op-index (known_in c.args.table.now) (known_in c.loop-op.table) c.args.trail.now.items c.loop-op.trail.items c.args.view.now.world.now c.loop-op.view.world.now c.args.view.now.looks c.loop-op.view.looks le c.loop-op.invariant
