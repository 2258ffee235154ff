use Rattle.std.proofs.Common.{rules, ◌≡◌, length}
use Rattle.listeners.proofs.Listed.{pushed_count, pushed_uses}
use Rattle.listeners.proofs.listing.Listing.push.Goals as goal

pub invariant_of-self-in-Ok-push : goal.invariant_of-self-in-Ok-push
invariant_of-self-in-Ok-push c =
    let long : c.in-Ok.count ≡ length c.args.operands.now = search rules in
    pushed_count c.self.inside.users.items _ c.self.inside.operands.items _ c.args.operands.now c.args.id c.in-Ok.count long c.in-Ok-push.ensures.items c.in_ok-extend_from_slice.ensures.items c.self.invariant

pub returns-in-Ok-push : goal.returns-in-Ok-push
returns-in-Ok-push c =
    let long : c.in-Ok.count ≡ length c.args.operands.now = search rules in
    rw (← c.self.view_is) (pushed_uses c.self.inside.users.items _ c.self.inside.operands.items _ c.args.operands.now c.args.id c.in-Ok.count long c.in-Ok-push.ensures.items c.in_ok-extend_from_slice.ensures.items c.self.invariant)
