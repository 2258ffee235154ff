use Rattle.std.proofs.Common.{◌∙◌, ◌++◌, ◌∷◌, [], sym, ap, subst, arith, set}
use Rattle.std.proofs.lemmas.List.{length-map}
use Rattle.ir_store_lists.specs.Lists.{IsHead, IsFree, list_at}
use Rattle.ir_store_lists.specs.Ring.{linked_is}
use Rattle.ir_store_lists.proofs.Around.{head_prev_inside}
use Rattle.ir_store_lists.proofs.Joins.{links_push}
use Rattle.ir_store_lists.proofs.chains.LinkedLists.push_back.Goals as goal

pub link_in-requires-clause-prev : goal.link_in-requires-clause-prev
link_in-requires-clause-prev c =
    let head = subst (λ v. IsHead v.homes c.args.head) (sym c.self.view_is) c.requires.head in
    omega (arith, head_prev_inside _ _ _ _ c.args.head c.self.inside.linked.1 head, length-map c.self.inside.links.items (λ l. l.home))

pub invariant_of-self-inside : goal.invariant_of-self-inside
invariant_of-self-inside c =
    let f = subst (λ v. IsFree v.homes c.args.node) (sym c.self.view_is) c.requires.free in
    let head = subst (λ v. IsHead v.homes c.args.head) (sym c.self.view_is) c.requires.head in
    ((set c.self.inside.linked.0 c.args.head (list_at c.self.inside.linked.0 c.args.head ++ c.args.node ∷ []), links_push c.self.inside.links.items c.link_in.new.links.items _ c.args.node c.args.head f head c.self.inside.linked.1 c.link_in.ensures.next c.link_in.ensures.prev c.link_in.ensures.home), tt)

pub returns-clause-lists : goal.returns-clause-lists
returns-clause-lists c =
    let f = subst (λ v. IsFree v.homes c.args.node) (sym c.self.view_is) c.requires.free in
    let head = subst (λ v. IsHead v.homes c.args.head) (sym c.self.view_is) c.requires.head in
    linked_is c.link_in.new.links.items c.self-1.given.0 _
    (links_push c.self.inside.links.items c.link_in.new.links.items _ c.args.node c.args.head f head c.self.inside.linked.1 c.link_in.ensures.next c.link_in.ensures.prev c.link_in.ensures.home)
    ∙ ap (λ v. set v.lists c.args.head (list_at v.lists c.args.head ++ c.args.node ∷ [])) c.self.view_is
