use Rattle.std.proofs.Common.{◌≡◌, ℕ, true, false, refl, sym, subst, rules, length, arith}
use Rattle.constants.proofs.Counted.{LearnsAll, learns_start, learns_more, learns_broken, learns_all}
use Rattle.constants.proofs.Forgetful.{never, users_length, user_at, user_before, user_next, user_passed, all_read, read_whole}
use Rattle.constants.specs.Tables.{known_in, look_in, uses_in, users_of}
use Rattle.constants.proofs.learn.learn_uses.Goals as goal
use Rattle.std.proofs.lemmas.List.{length_push}

pub loop-user-init : goal.loop-user-init
loop-user-init c = (
  c.into_iter-user-iterator.ensures.into_iter_gives,
  learns_start look_in uses_in (users_of c.args.uses) (known_in c.args.table.now) c.args.trail.now.items c.args.view.now.world.now c.args.view.now.looks,
)

pub returns-then-not-learn-clause-learnt : goal.returns-then-not-learn-clause-learnt
returns-then-not-learn-clause-learnt c =
    let u : ℕ × ℕ = (c.in-Some.user, c.in-Some.field-0-1) in
    let us = c.loop-user.yielded in
    let is = user_next us u c.loop-user.user-iterator c.next.new.self c.args.uses c.loop-user.invariant.0 c.in-Some.ensures.steps in
    learns_broken look_in uses_in (c.learn.result ≡ true) _ (users_of c.args.uses) (length us) c.in-Some.user (known_in c.args.table.now) (known_in c.loop-user.table) (known_in c.learn.new.table) c.args.trail.now.items c.loop-user.trail.items c.learn.new.trail.items
    c.args.view.now.world.now c.loop-user.view.world.now c.args.view.now.looks c.loop-user.view.looks (never false refl) (user_before us u c.next.new.self c.args.uses is) (user_at us u c.next.new.self c.args.uses is) c.loop-user.invariant.1 c.learn.ensures.learnt

pub returns-then-not-learn-clause-looks : goal.returns-then-not-learn-clause-looks
returns-then-not-learn-clause-looks c =
    let u : ℕ × ℕ = (c.in-Some.user, c.in-Some.field-0-1) in
    let us = c.loop-user.yielded in
    let is = user_next us u c.loop-user.user-iterator c.next.new.self c.args.uses c.loop-user.invariant.0 c.in-Some.ensures.steps in
    let less = user_before us u c.next.new.self c.args.uses is in
    let size = users_length c.args.uses in
    let few = c.loop-user.invariant.1.few in
    let one = c.learn.ensures.looks in
    omega (arith, less, size, few, one)

pub loop-user-preserved : goal.loop-user-preserved
loop-user-preserved c =
    let u : ℕ × ℕ = (c.in-Some.user, c.in-Some.field-0-1) in
    let us = c.loop-user.yielded in
    let is = user_next us u c.loop-user.user-iterator c.next.new.self c.args.uses c.loop-user.invariant.0 c.in-Some.ensures.steps in
    let yes : c.learn.result ≡ true = search rules in (
      user_passed us u c.loop-user.user-iterator c.next.new.self c.args.uses c.loop-user.invariant.0 c.in-Some.ensures.steps,
      subst (λ n. LearnsAll look_in uses_in (users_of c.args.uses) n (known_in c.args.table.now) (known_in c.learn.new.table) c.args.trail.now.items c.learn.new.trail.items c.args.view.now.world.now c.learn.new.view.world.now c.args.view.now.looks c.learn.new.view.looks) (sym (length_push us u))
          (learns_more look_in uses_in (c.learn.result ≡ true) (users_of c.args.uses) (length us) c.in-Some.user (known_in c.args.table.now) (known_in c.loop-user.table) (known_in c.learn.new.table) c.args.trail.now.items c.loop-user.trail.items c.learn.new.trail.items
          c.args.view.now.world.now c.loop-user.view.world.now c.learn.new.view.world.now c.args.view.now.looks c.loop-user.view.looks c.learn.new.view.looks yes (user_before us u c.next.new.self c.args.uses is) (user_at us u c.next.new.self c.args.uses is) c.loop-user.invariant.1 c.learn.ensures.learnt c.learn.ensures.looks c.learn.ensures.world),
    )

pub returns-clause-learnt : goal.returns-clause-learnt
returns-clause-learnt c =
    learns_all look_in uses_in _ (users_of c.args.uses) (length c.loop-user.yielded) (known_in c.args.table.now) (known_in c.loop-user.table) c.args.trail.now.items c.loop-user.trail.items c.args.view.now.world.now c.loop-user.view.world.now c.args.view.now.looks c.loop-user.view.looks
    (all_read c.loop-user.yielded c.loop-user.user-iterator c.args.uses c.loop-user.invariant.0 c.in-None.ensures.steps.0) c.loop-user.invariant.1

pub returns-clause-looks : goal.returns-clause-looks
returns-clause-looks c =
    let few = c.loop-user.invariant.1.few in
    let size = read_whole c.loop-user.yielded c.loop-user.user-iterator c.args.uses c.loop-user.invariant.0 c.in-None.ensures.steps.0 in
    omega (arith, few, size)
