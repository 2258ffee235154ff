use Rattle.std.proofs.Common.{◌≡◌, ℕ, true, false, refl, sym, subst, rules, length, take}
use Rattle.ir_event.specs.tree_laws.Members.{In}
use Rattle.constants.specs.Phases.{Forgotten}
use Rattle.constants.proofs.Forgets.{forgot_nobody}
use Rattle.constants.proofs.Counted.{forgot_next, forgot_broken, forgot_all}
use Rattle.constants.proofs.Forgetful.{never, user_at, user_before, user_next, user_passed, all_read}
use Rattle.constants.specs.Tables.{known_in, users_of}
use Rattle.constants.proofs.forget.forget_all.Goals as goal
use Rattle.std.proofs.lemmas.List.{length_push}

pub loop-user-init : goal.loop-user-init
loop-user-init c = (c.into_iter-user-iterator.ensures.into_iter_gives, forgot_nobody (Unit {0}) (known_in c.args.table.now) c.args.trail.now.items)

pub returns-then-not-forget : goal.returns-then-not-forget
returns-then-not-forget c =
    let u : ℕ × ℕ = (c.in-Some.user, c.in-Some.field-0-1) in
    let us = c.loop-user.yielded in
    let is = user_next us u c.loop-user.user-iterator c.next.new.self c.args.uses c.loop-user.invariant.0 c.in-Some.ensures.steps in
    forgot_broken (Unit {0}) (c.forget.result ≡ true) _ (users_of c.args.uses) (length us) c.in-Some.user (known_in c.args.table.now) (known_in c.loop-user.table) (known_in c.forget.new.table) c.args.trail.now.items c.loop-user.trail.items c.forget.new.trail.items
    tt (never false refl) (user_before us u c.next.new.self c.args.uses is) (user_at us u c.next.new.self c.args.uses is) c.loop-user.invariant.1 c.forget.ensures

pub loop-user-preserved : goal.loop-user-preserved
loop-user-preserved c =
    let u : ℕ × ℕ = (c.in-Some.user, c.in-Some.field-0-1) in
    let us = c.loop-user.yielded in
    let is = user_next us u c.loop-user.user-iterator c.next.new.self c.args.uses c.loop-user.invariant.0 c.in-Some.ensures.steps in
    let yes : c.forget.result ≡ true = search rules in (
      user_passed us u c.loop-user.user-iterator c.next.new.self c.args.uses c.loop-user.invariant.0 c.in-Some.ensures.steps,
      subst (λ n. Forgotten (Unit {0}) (λ y. In y (take n (users_of c.args.uses))) (known_in c.args.table.now) (known_in c.forget.new.table) c.args.trail.now.items c.forget.new.trail.items) (sym (length_push us u))
          (forgot_next (Unit {0}) (c.forget.result ≡ true) (Unit {0}) (users_of c.args.uses) (length us) c.in-Some.user (known_in c.args.table.now) (known_in c.loop-user.table) (known_in c.forget.new.table) c.args.trail.now.items c.loop-user.trail.items c.forget.new.trail.items
          tt yes (user_before us u c.next.new.self c.args.uses is) (user_at us u c.next.new.self c.args.uses is) c.loop-user.invariant.1 c.forget.ensures),
    )

pub returns : goal.returns
returns c =
    forgot_all (Unit {0}) _ (users_of c.args.uses) (length c.loop-user.yielded) (known_in c.args.table.now) (known_in c.loop-user.table) c.args.trail.now.items c.loop-user.trail.items tt
    (all_read c.loop-user.yielded c.loop-user.user-iterator c.args.uses c.loop-user.invariant.0 c.in-None.ensures.steps.0) c.loop-user.invariant.1
