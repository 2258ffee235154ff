use Rattle.std.proofs.Common.{◌∙◌, sym, ap, subst, set}
use Rattle.ir_store_lists.specs.Lists.{Lists, IsHead, list_at, free}
use Rattle.ir_store_lists.specs.Ring.{homes}
use Rattle.ir_store_lists.proofs.Heads.{links_open, view_of}
use Rattle.ir_store_lists.proofs.chains.LinkedLists.free_head.Goals as goal

pub invariant_of-self-inside : goal.invariant_of-self-inside
invariant_of-self-inside c =
    let h = subst (λ v. IsHead v.homes c.args.head) (sym c.self.view_is) c.requires.head in
    let none = ap (λ v. list_at v.lists c.args.head) c.self.view_is ∙ c.requires.empty in
    ((c.self.inside.linked.0, links_open c.self.inside.links.items c.open.new.links.items _ c.args.head h none c.self.inside.linked.1 c.open.ensures.next c.open.ensures.prev c.open.ensures.home), tt)

pub returns : goal.returns
returns c =
    let l = c.self.inside.links.items in
    let h = subst (λ v. IsHead v.homes c.args.head) (sym c.self.view_is) c.requires.head in
    let none = ap (λ v. list_at v.lists c.args.head) c.self.view_is ∙ c.requires.empty in
    let s = links_open l c.open.new.links.items _ c.args.head h none c.self.inside.linked.1 c.open.ensures.next c.open.ensures.prev c.open.ensures.home in
    view_of c.open.new.links.items c.self.inside.headroom c.self-1.given.0 c.self.inside.linked.0 (set (homes l) c.args.head free) s c.open.ensures.home
    ∙ ap {A = Lists} {B = Lists} (λ v. record v { homes = set v.homes c.args.head free }) c.self.view_is
