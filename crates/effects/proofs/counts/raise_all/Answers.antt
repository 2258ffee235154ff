use Rattle.std.proofs.Common.{◌≡◌, ◌+◌, ◌∷◌, [], ◌≤◌, true, sym, ◌∙◌, subst, rules, drop, length}
use Rattle.std.proofs.lemmas.List.{at_drop_more}
use Rattle.std.proofs.Math.ListN.{drop_of_length-le}
use Rattle.effects.specs.Counts.{counts_in, Raised}
use Rattle.effects.proofs.Changes.{on_true_is}
use Rattle.effects.proofs.Raising.{raised_none, raised_joined}
use Rattle.effects.proofs.counts.raise_all.Goals as goal

pub loop-value-preserved : goal.loop-value-preserved
loop-value-preserved c b p =
    let xs = c.args.values.now in
    let i = c.loop-value.value-index in
    let v = c.value-item.result in
    let old = counts_in c.loop-value.counts in
    let yes : c.raise.result ≡ true = search rules in
    let split = at_drop_more (λ l. l) xs i v c.loop-value-test.true ∙ (λ j. sym c.value-item.is j ∷ drop (i + 1) xs) in
    c.loop-value.invariant b (subst (λ l. Raised l old b) (sym split) (raised_joined (v ∷ []) (drop (i + 1) xs) old (counts_in c.raise.new.counts) b (on_true_is c.raise.result _ yes c.raise.ensures) p))

pub returns : goal.returns
returns c =
    let xs = c.args.values.now in
    let end = counts_in c.loop-value.counts in
    let le : length xs ≤ c.loop-value.value-index = search rules in
    c.loop-value.invariant end (subst (λ l. Raised l end end) (sym (drop_of_length-le xs le)) (raised_none end))
