use Rattle.std.proofs.Common.{◌<◌, ◌∙◌, refl, sym, ap, subst, length, arith}
use Rattle.std.proofs.lemmas.List.{length-map}
use Rattle.ir_store_lists.specs.Lists.{IsItem, list_at, home_at, after}
use Rattle.ir_store_lists.specs.Ring.{homes}
use Rattle.ir_store_lists.proofs.Readings.{read_next, read_home, after_none, after_some}
use Rattle.ir_store_lists.proofs.chains.LinkedLists.next.Goals as goal

pub returns-then-link : goal.returns-then-link
returns-then-link c =
    let item = subst (λ v. IsItem v.homes c.args.node) (sym c.self.view_is) c.requires in
    let l = c.self.inside.links.items in
    let s = c.self.inside.linked.1 in
    let h = home_at (homes l) c.args.node in
    let here : c.args.node < length l = omega (arith, item.inside, length-map l (λ x. x.home)) in
    let next = read_next l c.args.node c.index-link.result.now here c.index-link.ensures in
    let home = read_home l c.args.node c.index-link.result.now here c.index-link.ensures in
    after_none _ _ _ h c.args.node _ h _ next (c.if-link.true ∙ sym home) (s.covers h c.args.node (s.heads c.args.node item) refl (λ e. item.other (sym e))) (s.rings h (s.heads c.args.node item))
    ∙ ap (λ v. after c.args.node (list_at v.lists (home_at v.homes c.args.node))) c.self.view_is

pub returns-else-link : goal.returns-else-link
returns-else-link c =
    let item = subst (λ v. IsItem v.homes c.args.node) (sym c.self.view_is) c.requires in
    let l = c.self.inside.links.items in
    let s = c.self.inside.linked.1 in
    let h = home_at (homes l) c.args.node in
    let here : c.args.node < length l = omega (arith, item.inside, length-map l (λ x. x.home)) in
    let next = read_next l c.args.node c.index-link.result.now here c.index-link.ensures in
    let home = read_home l c.args.node c.index-link.result.now here c.index-link.ensures in
    after_some _ _ _ h c.args.node _ h _ next (λ e. c.if-link.false (e ∙ home)) (s.covers h c.args.node (s.heads c.args.node item) refl (λ e. item.other (sym e))) (s.rings h (s.heads c.args.node item))
    ∙ ap (λ v. after c.args.node (list_at v.lists (home_at v.homes c.args.node))) c.self.view_is
