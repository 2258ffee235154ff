use Rattle.std.proofs.Common.{◌≡◌, arith, sym, ap, ◌∙◌, None, true}
use Rattle.ir_store_lists.specs.Lists.{home_at, list_at, has}
use Rattle.ir_store_lists.proofs.Kept.{member_item, before_has, before_read, label_or}
use Rattle.ir_store_lists.proofs.order_labels.low_label.Goals as goal

pub offset_bounds-labels-prev : goal.offset_bounds-labels-prev
offset_bounds-labels-prev c =
    let h = home_at c.args.chains.now.homes c.args.node in
    let there : has c.in-Some.prev (list_at c.args.chains.now.lists h) ≡ true = before_has c.args.node c.in-Some.prev None _ (sym c.prev.ensures ∙ c.in-Some.is) (λ z. (cc)) in
    let item = member_item c.args.chains.now h c.in-Some.prev c.laws.ensures there in
    omega (arith, item.inside, c.requires.rising.few)

pub bounds-labels-prev : goal.bounds-labels-prev
bounds-labels-prev c =
    let h = home_at c.args.chains.now.homes c.args.node in
    let there : has c.in-Some.prev (list_at c.args.chains.now.lists h) ≡ true = before_has c.args.node c.in-Some.prev None _ (sym c.prev.ensures ∙ c.in-Some.is) (λ z. (cc)) in
    let item = member_item c.args.chains.now h c.in-Some.prev c.laws.ensures there in
    omega (arith, item.inside, c.requires.rising.long)

pub returns-in-Some : goal.returns-in-Some
returns-in-Some c =
    let h = home_at c.args.chains.now.homes c.args.node in
    let e = before_read c.args.labels.now c.args.node None (list_at c.args.chains.now.lists h) (c.laws.ensures.covers c.args.node c.requires.node) in
    ap (label_or c.args.labels.now) (sym c.in-Some.is ∙ c.prev.ensures) ∙ e

pub returns-in-None : goal.returns-in-None
returns-in-None c =
    let h = home_at c.args.chains.now.homes c.args.node in
    let e = before_read c.args.labels.now c.args.node None (list_at c.args.chains.now.lists h) (c.laws.ensures.covers c.args.node c.requires.node) in
    ap (label_or c.args.labels.now) (sym c.in-None.is ∙ c.prev.ensures) ∙ e
