use Rattle.std.proofs.Common.{◌≡◌, ◌≤◌, ◌<◌, ◌∙◌, true, false, refl, rules, length, get_or}
use Rattle.constants.proofs.Counted.{learns_from_start, learns_from_more, learns_from_broken, learns_first_broken, learns_from_end}
use Rattle.constants.proofs.Forgetful.{never}
use Rattle.constants.specs.Tables.{known_in, look_in, uses_in}
use Rattle.constants.proofs.learn.learn_from.Goals as goal

pub returns-then-not-learn_first-clause-learnt : goal.returns-then-not-learn_first-clause-learnt
returns-then-not-learn_first-clause-learnt c here there =
    learns_first_broken look_in uses_in (c.learn_first.result ≡ true) _ c.args.op c.args.forgotten.now (known_in c.args.table.now) (known_in c.learn_first.new.table) c.new-trail.result.items c.learn_first.new.trail.items
    c.args.view.now.world.now c.args.view.now.looks c.learn_first.new.view.looks (never false refl) c.new-trail.ensures.items (c.learn_first.ensures.learnt here there) c.learn_first.ensures.looks

pub loop-next-init : goal.loop-next-init
loop-next-init c =
    let yes : c.learn_first.result ≡ true = search rules in (
      c.learn_first.ensures.world,
      λ here there. learns_from_start look_in uses_in (c.learn_first.result ≡ true) c.args.op c.args.forgotten.now (known_in c.args.table.now) (known_in c.learn_first.new.table) c.new-trail.result.items c.learn_first.new.trail.items
          c.args.view.now.world.now c.learn_first.new.view.world.now c.args.view.now.looks c.learn_first.new.view.looks yes c.new-trail.ensures.items (c.learn_first.ensures.learnt here there) c.learn_first.ensures.world c.learn_first.ensures.looks,
    )

pub returns-then-not-learn_users-clause-learnt : goal.returns-then-not-learn_users-clause-learnt
returns-then-not-learn_users-clause-learnt c here there =
    let lt : c.loop-next.next < length c.loop-next.trail.items = search rules in
    let is : c.index.result.now ≡ get_or c.loop-next.trail.items c.loop-next.next c.index.result.now = search rules in
    learns_from_broken look_in uses_in (c.learn_users.result ≡ true) _ c.args.op c.index.result.now c.args.forgotten.now (known_in c.args.table.now) (known_in c.loop-next.table) (known_in c.learn_users.new.table) c.loop-next.trail.items c.learn_users.new.trail.items
    c.loop-next.next c.args.view.now.world.now c.loop-next.view.world.now c.args.view.now.looks c.loop-next.view.looks c.learn_users.new.view.looks (never false refl) lt is (c.loop-next.invariant.1 here there) c.learn_users.ensures.learnt c.learn_users.ensures.looks

pub returns-then-not-learn_users-clause-world : goal.returns-then-not-learn_users-clause-world
returns-then-not-learn_users-clause-world c = c.learn_users.ensures.world ∙ c.loop-next.invariant.0

pub loop-next-preserved : goal.loop-next-preserved
loop-next-preserved c =
    let yes : c.learn_users.result ≡ true = search rules in
    let lt : c.loop-next.next < length c.loop-next.trail.items = search rules in
    let is : c.index.result.now ≡ get_or c.loop-next.trail.items c.loop-next.next c.index.result.now = search rules in (
      c.learn_users.ensures.world ∙ c.loop-next.invariant.0,
      λ here there. learns_from_more look_in uses_in (c.learn_users.result ≡ true) c.args.op c.index.result.now c.args.forgotten.now (known_in c.args.table.now) (known_in c.loop-next.table) (known_in c.learn_users.new.table) c.loop-next.trail.items c.learn_users.new.trail.items
          c.loop-next.next c.args.view.now.world.now c.loop-next.view.world.now c.learn_users.new.view.world.now c.args.view.now.looks c.loop-next.view.looks c.learn_users.new.view.looks yes lt is (c.loop-next.invariant.1 here there) c.learn_users.ensures.learnt c.learn_users.ensures.looks c.learn_users.ensures.world,
    )

pub returns-clause-learnt : goal.returns-clause-learnt
returns-clause-learnt c here there =
    let le : length c.loop-next.trail.items ≤ c.loop-next.next = search rules in
    learns_from_end look_in uses_in _ c.args.op c.args.forgotten.now (known_in c.args.table.now) (known_in c.loop-next.table) c.loop-next.trail.items c.loop-next.next c.args.view.now.world.now c.loop-next.view.world.now c.args.view.now.looks c.loop-next.view.looks le (c.loop-next.invariant.1 here there)
