use Rattle.std.proofs.Common.{◌∙◌, sym, ap, subst, set}
use Rattle.ir_store_lists.specs.Lists.{Lists, IsFree}
use Rattle.ir_store_lists.specs.Ring.{homes}
use Rattle.ir_store_lists.proofs.Heads.{links_close, view_of}
use Rattle.ir_store_lists.proofs.chains.LinkedLists.make_head.Goals as goal

pub invariant_of-self-inside : goal.invariant_of-self-inside
invariant_of-self-inside c =
    let f = subst (λ v. IsFree v.homes c.args.node) (sym c.self.view_is) c.requires in
    ((c.self.inside.linked.0, links_close c.self.inside.links.items c.close.new.links.items _ c.args.node f c.self.inside.linked.1 c.close.ensures.next c.close.ensures.prev c.close.ensures.home), tt)

pub returns : goal.returns
returns c =
    let l = c.self.inside.links.items in
    let f = subst (λ v. IsFree v.homes c.args.node) (sym c.self.view_is) c.requires in
    let s = links_close l c.close.new.links.items _ c.args.node f c.self.inside.linked.1 c.close.ensures.next c.close.ensures.prev c.close.ensures.home in
    view_of c.close.new.links.items c.self.inside.headroom c.self-1.given.0 c.self.inside.linked.0 (set (homes l) c.args.node c.args.node) s c.close.ensures.home
    ∙ ap {A = Lists} {B = Lists} (λ v. record v { homes = set v.homes c.args.node c.args.node }) c.self.view_is
