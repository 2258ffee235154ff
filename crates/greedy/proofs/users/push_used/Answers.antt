use Rattle.std.proofs.Common.{ℕ}
use Rattle.greedy.specs.Parts.{IsIn}
use Rattle.greedy.proofs.Using.{uses_begin, uses_more, uses_end}
use Rattle.greedy.proofs.users.push_used.Goals as goal

pub uses-init : goal.uses-init
uses-init c = uses_begin c.args.uses _ c.args.ops.now.items c.into_iter-user-iterator.ensures.into_iter_gives

pub uses-preserved : goal.uses-preserved
uses-preserved c =
    let u : ℕ × ℕ = (c.in-Some.user, c.in-Some.field-0-1) in
    uses_more (IsIn c.args.uses) u c.uses.user-iterator c.next.new.self c.args.ops.now.items c.uses.ops.items _ c.in-Some.ensures.steps c.uses.invariant c.in_ok-push.ensures

pub returns : goal.returns
returns c = uses_end (IsIn c.args.uses) c.uses.user-iterator c.args.ops.now.items c.uses.ops.items c.in-None.ensures.steps.0 c.uses.invariant
