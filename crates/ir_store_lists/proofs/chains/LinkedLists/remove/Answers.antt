use Rattle.std.proofs.Common.{◌∙◌, sym, ap, subst, map, arith}
use Rattle.std.proofs.lemmas.List.{length-map}
use Rattle.ir_store_lists.specs.Lists.{IsItem, without}
use Rattle.ir_store_lists.specs.Ring.{linked_is}
use Rattle.ir_store_lists.proofs.Around.{item_between}
use Rattle.ir_store_lists.proofs.Cuts.{links_cut}
use Rattle.ir_store_lists.proofs.chains.LinkedLists.remove.Goals as goal

pub unlink-requires-clause-prev : goal.unlink-requires-clause-prev
unlink-requires-clause-prev c =
    let item = subst (λ v. IsItem v.homes c.args.node) (sym c.self.view_is) c.requires in
    let b = item_between _ _ _ _ c.args.node c.self.inside.linked.1 item in
    omega (arith, b.prev_inside, length-map c.self.inside.links.items (λ l. l.home))

pub unlink-requires-clause-next : goal.unlink-requires-clause-next
unlink-requires-clause-next c =
    let item = subst (λ v. IsItem v.homes c.args.node) (sym c.self.view_is) c.requires in
    let b = item_between _ _ _ _ c.args.node c.self.inside.linked.1 item in
    omega (arith, b.next_inside, length-map c.self.inside.links.items (λ l. l.home))

pub invariant_of-self-inside : goal.invariant_of-self-inside
invariant_of-self-inside c =
    let item = subst (λ v. IsItem v.homes c.args.node) (sym c.self.view_is) c.requires in
    ((map (without c.args.node) c.self.inside.linked.0, links_cut c.self.inside.links.items c.unlink.new.links.items _ c.args.node item c.self.inside.linked.1 c.unlink.ensures.next c.unlink.ensures.prev c.unlink.ensures.home), tt)

pub returns-clause-lists : goal.returns-clause-lists
returns-clause-lists c =
    let item = subst (λ v. IsItem v.homes c.args.node) (sym c.self.view_is) c.requires in
    linked_is c.unlink.new.links.items c.self-1.given.0 (map (without c.args.node) c.self.inside.linked.0) (links_cut c.self.inside.links.items c.unlink.new.links.items _ c.args.node item c.self.inside.linked.1 c.unlink.ensures.next c.unlink.ensures.prev c.unlink.ensures.home)
    ∙ ap (λ v. map (without c.args.node) v.lists) c.self.view_is
