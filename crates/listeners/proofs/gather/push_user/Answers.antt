use Rattle.std.proofs.Common.{rules, ◌≡◌, ap, sym, ◌∙◌, ◌++◌, true, false, not, [], append-nil, subst}
use Rattle.std.specs.Prelude.{OnOk, is_some}
use Rattle.listeners_support.specs.Map as idmap
use Rattle.listeners.specs.Uses.{operand_uses}
use Rattle.listeners.specs.Keys.{keys_of}
use Rattle.listeners.specs.Others.{only}
use Rattle.listeners.specs.Listings.{user_uses}
use Rattle.listeners.specs.Tables.{is_unchanged}
use Rattle.listeners.proofs.Changing.{user_counts, user_dead, user_hidden}
use Rattle.listeners.proofs.gather.push_user.Goals as goal
use Rattle.listeners.proofs.gather.push_user.Goals.{then-not-user-via-then-not-user, then-not-user-via-else-not-user+then-contains_key}

pub returns-then-not-user : goal.returns-then-not-user
returns-then-not-user c =
    let none : only (is_unchanged c.args.changed.now) (user_uses c.args.user.now c.args.operands.now) ≡ [] =
    elim c.then-not-user.branch [
      | then-not-user-via-then-not-user w ↦ user_dead (is_unchanged c.args.changed.now) c.args.user.now c.args.operands.now (search (rules, w))
      | then-not-user-via-else-not-user+then-contains_key w ↦ (let yes : w.contains_key.result ≡ true = search (rules, w) in user_hidden (is_unchanged c.args.changed.now) c.args.user.now c.args.operands.now (ap not (ap (λ x. is_some (idmap.get c.args.changed.now x)) (sym w.number.ensures) ∙ sym w.contains_key.ensures ∙ yes)))
    ] in
    sym (append-nil c.args.keys.now.items) ∙ ap (λ us. c.args.keys.now.items ++ keys_of us) (sym none)

pub returns : goal.returns
returns c =
    let live : c.args.user.now.live ≡ true = search rules in
    let free : c.contains_key.result ≡ false = search rules in
    let same : only (is_unchanged c.args.changed.now) (user_uses c.args.user.now c.args.operands.now) ≡ operand_uses c.args.user.now.id 0 c.args.operands.now =
    user_counts (is_unchanged c.args.changed.now) c.args.user.now c.args.operands.now live (ap not (ap (λ x. is_some (idmap.get c.args.changed.now x)) (sym c.number.ensures) ∙ sym c.contains_key.ensures ∙ free)) in
    subst (λ us. OnOk c.push_keys.result (c.push_keys.new.keys.items ≡ c.args.keys.now.items ++ keys_of us)) (sym same) c.push_keys.ensures
