use Rattle.std.proofs.Common.{◌∙◌, ap, sym, subst, ℕ, ◌<◌, ◌≤◌, map}
use Rattle.listeners.specs.Listings.{forgotten}
use Rattle.ir_event.proofs.of_trees.Steps.{write_next, write_all}
use Rattle.listeners.proofs.listing.forget_in.Goals as goal

pub loop-user-preserved : goal.loop-user-preserved
loop-user-preserved c =
    let f = forgotten c.args.id in
    let n = c.loop-user.user-index in
    let within = subst (λ (k : ℕ). n < k) (sym c.loop-user.auto.user-items) c.loop-user-test.true in
    write_next f c.loop-user.user-items n c.user-item.result c.after.result (map f c.args.users.now) within c.user-item.is (c.after.ensures ∙ ap f (sym c.user-item.is)) c.loop-user.invariant

pub returns : goal.returns
returns c =
    let f = forgotten c.args.id in
    let n = c.loop-user.user-index in
    let past = subst (λ (k : ℕ). k ≤ n) (sym c.loop-user.auto.user-items) c.loop-user-test.false in
    write_all f c.loop-user.user-items n (map f c.args.users.now) past c.loop-user.invariant
