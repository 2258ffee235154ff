use Rattle.std.proofs.Common.{◌<◌, ◌∙◌, refl, sym, ap, subst, length, arith, Some, None}
use Rattle.std.proofs.lemmas.List.{length-map}
use Rattle.ir_store_lists.specs.Lists.{IsItem, list_at, home_at, before}
use Rattle.ir_store_lists.specs.Ring.{homes}
use Rattle.ir_store_lists.proofs.Readings.{read_prev, read_home, no_item, some_item, before_read}
use Rattle.ir_store_lists.proofs.chains.LinkedLists.prev.Goals as goal

pub returns-then-link : goal.returns-then-link
returns-then-link c =
    let item = subst (λ v. IsItem v.homes c.args.node) (sym c.self.view_is) c.requires in
    let l = c.self.inside.links.items in
    let s = c.self.inside.linked.1 in
    let n = c.args.node in
    let h = home_at (homes l) n in
    let here : n < length l = omega (arith, item.inside, length-map l (λ x. x.home)) in
    let prev = read_prev l n c.index-link.result.now here c.index-link.ensures in
    let home = read_home l n c.index-link.result.now here c.index-link.ensures in
    let head = s.heads n item in
    let read = ap (λ z. before n z (list_at c.self.inside.linked.0 h)) (sym (no_item h h refl)) ∙ before_read _ _ _ h n h _ (s.covers h n head refl (λ e. item.other (sym e))) (s.rings h head) in
    sym (no_item h _ (prev ∙ c.if-link.true ∙ sym home)) ∙ sym read ∙ ap (λ v. before n None (list_at v.lists (home_at v.homes n))) c.self.view_is

pub returns-else-link : goal.returns-else-link
returns-else-link c =
    let item = subst (λ v. IsItem v.homes c.args.node) (sym c.self.view_is) c.requires in
    let l = c.self.inside.links.items in
    let s = c.self.inside.linked.1 in
    let n = c.args.node in
    let h = home_at (homes l) n in
    let here : n < length l = omega (arith, item.inside, length-map l (λ x. x.home)) in
    let prev = read_prev l n c.index-link.result.now here c.index-link.ensures in
    let home = read_home l n c.index-link.result.now here c.index-link.ensures in
    let head = s.heads n item in
    let read = ap (λ z. before n z (list_at c.self.inside.linked.0 h)) (sym (no_item h h refl)) ∙ before_read _ _ _ h n h _ (s.covers h n head refl (λ e. item.other (sym e))) (s.rings h head) in
    sym (ap Some prev) ∙ sym (some_item h _ (λ e. c.if-link.false (sym prev ∙ e ∙ home))) ∙ sym read ∙ ap (λ v. before n None (list_at v.lists (home_at v.homes n))) c.self.view_is
