use Rattle.std.proofs.Common.{◌≡◌, arith, sym, ap, ◌∙◌, None, true}
use Rattle.ir_store_lists.specs.Lists.{list_at, has}
use Rattle.ir_store_lists.proofs.Kept.{member_item, last_has, last_read, label_or}
use Rattle.ir_store_lists.proofs.order_labels.high_label.Goals as goal

pub offset_bounds-labels-node : goal.offset_bounds-labels-node
offset_bounds-labels-node c =
    let there : has c.in-Some.node (list_at c.args.chains.now.lists c.args.head) ≡ true = last_has c.in-Some.node None _ (sym c.last.ensures ∙ c.in-Some.is) (λ z. (cc)) in
    let item = member_item c.args.chains.now c.args.head c.in-Some.node c.laws.ensures there in
    omega (arith, item.inside, c.requires.rising.few)

pub bounds-labels-node : goal.bounds-labels-node
bounds-labels-node c =
    let there : has c.in-Some.node (list_at c.args.chains.now.lists c.args.head) ≡ true = last_has c.in-Some.node None _ (sym c.last.ensures ∙ c.in-Some.is) (λ z. (cc)) in
    let item = member_item c.args.chains.now c.args.head c.in-Some.node c.laws.ensures there in
    omega (arith, item.inside, c.requires.rising.long)

pub returns-in-Some : goal.returns-in-Some
returns-in-Some c =
    ap (label_or c.args.labels.now) (sym c.in-Some.is ∙ c.last.ensures) ∙ last_read c.args.labels.now None (list_at c.args.chains.now.lists c.args.head)

pub returns-in-None : goal.returns-in-None
returns-in-None c =
    ap (label_or c.args.labels.now) (sym c.in-None.is ∙ c.last.ensures) ∙ last_read c.args.labels.now None (list_at c.args.chains.now.lists c.args.head)
