use Rattle.std.proofs.Common.{◌∙◌, sym, ap, subst, arith, slice_get}
use Rattle.std.proofs.lemmas.List.{length-map}
use Rattle.ir_store_lists.specs.Lists.{IsHead, list_at}
use Rattle.ir_store_lists.proofs.Readings.{read_next, first_none, first_some}
use Rattle.ir_store_lists.proofs.chains.LinkedLists.first.Goals as goal

pub returns-then-node-head : goal.returns-then-node-head
returns-then-node-head c =
    let head = subst (λ v. IsHead v.homes c.args.head) (sym c.self.view_is) c.requires in
    let l = c.self.inside.links.items in
    let next = read_next l c.args.head c.index.result.now (omega (arith, head.inside, length-map l (λ x. x.home))) c.index.ensures in
    first_none _ _ _ c.args.head c.args.head _ _ next c.if-node-head.true (c.self.inside.linked.1.rings c.args.head head)
    ∙ ap (λ v. slice_get (list_at v.lists c.args.head) 0) c.self.view_is

pub returns-else-node-head : goal.returns-else-node-head
returns-else-node-head c =
    let head = subst (λ v. IsHead v.homes c.args.head) (sym c.self.view_is) c.requires in
    let l = c.self.inside.links.items in
    let next = read_next l c.args.head c.index.result.now (omega (arith, head.inside, length-map l (λ x. x.home))) c.index.ensures in
    first_some _ _ _ c.args.head c.args.head _ _ next c.if-node-head.false (c.self.inside.linked.1.rings c.args.head head)
    ∙ ap (λ v. slice_get (list_at v.lists c.args.head) 0) c.self.view_is
