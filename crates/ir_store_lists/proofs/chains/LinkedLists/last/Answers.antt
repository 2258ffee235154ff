use Rattle.std.proofs.Common.{◌∙◌, sym, ap, subst, arith, refl, None, Some}
use Rattle.std.proofs.lemmas.List.{length-map}
use Rattle.ir_store_lists.specs.Lists.{IsHead, list_at, last_of}
use Rattle.ir_store_lists.proofs.Readings.{read_prev, no_item, some_item, last_read}
use Rattle.ir_store_lists.proofs.chains.LinkedLists.last.Goals as goal

pub returns-then-node-head : goal.returns-then-node-head
returns-then-node-head c =
    let head = subst (λ v. IsHead v.homes c.args.head) (sym c.self.view_is) c.requires in
    let l = c.self.inside.links.items in
    let h = c.args.head in
    let prev = read_prev l h c.index.result.now (omega (arith, head.inside, length-map l (λ x. x.home))) c.index.ensures in
    let read = ap (λ z. last_of z (list_at c.self.inside.linked.0 h)) (sym (no_item h h refl)) ∙ last_read _ _ _ h h _ (c.self.inside.linked.1.rings h head) in
    sym (no_item h _ (prev ∙ c.if-node-head.true)) ∙ sym read ∙ ap (λ v. last_of None (list_at v.lists h)) c.self.view_is

pub returns-else-node-head : goal.returns-else-node-head
returns-else-node-head c =
    let head = subst (λ v. IsHead v.homes c.args.head) (sym c.self.view_is) c.requires in
    let l = c.self.inside.links.items in
    let h = c.args.head in
    let prev = read_prev l h c.index.result.now (omega (arith, head.inside, length-map l (λ x. x.home))) c.index.ensures in
    let read = ap (λ z. last_of z (list_at c.self.inside.linked.0 h)) (sym (no_item h h refl)) ∙ last_read _ _ _ h h _ (c.self.inside.linked.1.rings h head) in
    sym (ap Some prev) ∙ sym (some_item h _ (λ e. c.if-node-head.false (sym prev ∙ e))) ∙ sym read ∙ ap (λ v. last_of None (list_at v.lists h)) c.self.view_is
