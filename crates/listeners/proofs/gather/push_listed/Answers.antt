use Rattle.std.proofs.Common.{rules, arith, ◌≡◌, ◌+◌, ◌∷◌, ◌++◌, ap, sym, ◌∙◌, drop, take, length}
use Rattle.std.proofs.lemmas.List.{drop_more, length-drop}
use Rattle.listeners.specs.Keys.{keys_of}
use Rattle.listeners.specs.Others.{only}
use Rattle.listeners.specs.Listings.{operand_count, listed_uses, user_uses}
use Rattle.listeners.specs.Tables.{is_unchanged}
use Rattle.listeners.proofs.Changing.{next_user}
use Rattle.listeners.proofs.gather.push_listed.Goals as goal

pub loop-user-preserved : goal.loop-user-preserved
loop-user-preserved c =
    let p = is_unchanged c.args.changed.now in
    let users = c.args.users.now in
    let n = c.loop-user.user-index in
    let user = c.user-item.result in
    let others = drop (n + 1) users in
    let rest = c.loop-user.rest.now in
    let all : drop n users ≡ user ∷ others = drop_more users n user (omega arith) ∙ λ i. sym c.user-item.is i ∷ others in
    let preceding : c.split_at.result.0.now ≡ take user.count rest = search rules in
    let back : c.split_at.result.1.now ≡ drop user.count rest = search rules in
    let new : c.push_user.new.keys.items ≡ c.loop-user.keys.items ++ keys_of (only p (user_uses user c.split_at.result.0.now)) = search rules in
    let sum : user.count + operand_count others ≡ length rest = ap operand_count (sym all) ∙ c.loop-user.invariant.count in
    let left = length-drop user.count rest in
    record {
      count = (let fewer : operand_count others ≡ length (drop user.count rest) = omega (arith, sum, left) in fewer ∙ sym (ap length back));
      keys = next_user p user others rest c.split_at.result.0.now c.split_at.result.1.now c.loop-user.keys.items c.push_user.new.keys.items (c.args.keys.now.items ++ keys_of (only p (listed_uses users c.args.operands.now))) preceding back
          (ap (λ l. c.loop-user.keys.items ++ keys_of (only p (listed_uses l rest))) (sym all) ∙ c.loop-user.invariant.keys) new;
    }
