use Rattle.std.proofs.Common.{◌∙◌, sym, ap, subst, map, arith, set}
use Rattle.std.proofs.lemmas.List.{length-map}
use Rattle.ir_store_lists.specs.Lists.{IsItem, IsFree, put_before}
use Rattle.ir_store_lists.specs.Ring.{linked_is, homes}
use Rattle.ir_store_lists.proofs.Around.{item_between}
use Rattle.ir_store_lists.proofs.Joins.{links_join}
use Rattle.ir_store_lists.proofs.Readings.{read_home}
use Rattle.ir_store_lists.proofs.chains.LinkedLists.insert_before.Goals as goal

pub link_in-requires-clause-prev : goal.link_in-requires-clause-prev
link_in-requires-clause-prev c =
    let item = subst (λ v. IsItem v.homes c.args.at) (sym c.self.view_is) c.requires.at in
    let b = item_between _ _ _ _ c.args.at c.self.inside.linked.1 item in
    omega (arith, b.prev_inside, length-map c.self.inside.links.items (λ l. l.home))

pub invariant_of-self-inside : goal.invariant_of-self-inside
invariant_of-self-inside c =
    let f = subst (λ v. IsFree v.homes c.args.node) (sym c.self.view_is) c.requires.free in
    let item = subst (λ v. IsItem v.homes c.args.at) (sym c.self.view_is) c.requires.at in
    let l = c.self.inside.links.items in
    let home = read_home l c.args.at c.index.result.now (omega (arith, item.inside, length-map l (λ x. x.home))) c.index.ensures in
    ((map (put_before c.args.node c.args.at) c.self.inside.linked.0, links_join l c.link_in.new.links.items _ c.args.node c.args.at f item c.self.inside.linked.1 c.link_in.ensures.next c.link_in.ensures.prev (c.link_in.ensures.home ∙ ap (set (homes l) c.args.node) (sym home))), tt)

pub returns-clause-lists : goal.returns-clause-lists
returns-clause-lists c =
    let f = subst (λ v. IsFree v.homes c.args.node) (sym c.self.view_is) c.requires.free in
    let item = subst (λ v. IsItem v.homes c.args.at) (sym c.self.view_is) c.requires.at in
    let l = c.self.inside.links.items in
    let home = read_home l c.args.at c.index.result.now (omega (arith, item.inside, length-map l (λ x. x.home))) c.index.ensures in
    linked_is c.link_in.new.links.items c.self-1.given.0 (map (put_before c.args.node c.args.at) c.self.inside.linked.0)
    (links_join l c.link_in.new.links.items _ c.args.node c.args.at f item c.self.inside.linked.1 c.link_in.ensures.next c.link_in.ensures.prev (c.link_in.ensures.home ∙ ap (set (homes l) c.args.node) (sym home)))
    ∙ ap (λ v. map (put_before c.args.node c.args.at) v.lists) c.self.view_is
