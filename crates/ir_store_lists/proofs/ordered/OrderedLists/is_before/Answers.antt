use Rattle.std.proofs.Common.{◌≡◌, ◌∙◌, ap, sym, subst, true, nat_lt, arith}
use Rattle.std.proofs.lemmas.List.{get_or_default}
use Rattle.ir_store_lists.specs.Lists.{IsItem, home_at, list_at, has}
use Rattle.ir_store_lists.specs.Labels.{goes_before, label_at}
use Rattle.ir_store_lists.proofs.Laws.{as_labels}
use Rattle.ir_store_lists.proofs.ordered.OrderedLists.is_before.Goals as goal

pub returns : goal.returns
returns c =
    let chains = c.self.inside.chains in
    let a = subst (λ v. IsItem v.homes c.args.a) (sym c.self.view_is) c.requires.a in
    let b = subst (λ v. IsItem v.homes c.args.b) (sym c.self.view_is) c.requires.b in
    let h = home_at chains.homes c.args.a in
    let same = subst (λ v. home_at v.homes c.args.b ≡ home_at v.homes c.args.a) (sym c.self.view_is) c.requires.same in
    let there = subst (λ z. has c.args.b (list_at chains.lists z) ≡ true) same (c.laws.ensures.covers c.args.b b) in
    let l = c.self.inside.labels.items in
    let la : c.index.result.now ≡ label_at l c.args.a = c.index.ensures ∙ get_or_default l c.args.a c.index.result.now 0 (omega (arith, a.inside, c.self.invariant.0.long)) in
    let lb : c.index-2.result.now ≡ label_at l c.args.b = c.index-2.ensures ∙ get_or_default l c.args.b c.index-2.result.now 0 (omega (arith, b.inside, c.self.invariant.0.long)) in
    (λ i. nat_lt (la i) (lb i))
    ∙ sym (as_labels c.self.inside.labels.items 0 c.args.a c.args.b (list_at chains.lists h) (c.self.invariant.0.rises h) (c.laws.ensures.covers c.args.a a) there)
    ∙ ap (λ v. goes_before c.args.a c.args.b (list_at v.lists (home_at v.homes c.args.a))) c.self.view_is
