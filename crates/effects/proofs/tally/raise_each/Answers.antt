use Rattle.std.proofs.Common.{◌≡◌, ◌+◌, ◌≤◌, ◌∷◌, [], true, sym, ap, ◌∙◌, subst, rules, drop, length}
use Rattle.std.proofs.lemmas.List.{at_drop_more}
use Rattle.std.proofs.Math.ListN.{drop_of_length-le}
use Rattle.ir_event.specs.Heads.{all_operands}
use Rattle.effects.specs.Counts.{counts_in, Raised}
use Rattle.effects.specs.Found.{head_at, heads_by, with_head}
use Rattle.effects.proofs.Changes.{on_true_is}
use Rattle.effects.proofs.Headed.{operands_joined}
use Rattle.effects.proofs.Raising.{raised_none, raised_joined}
use Rattle.effects.proofs.Finding.{head_joined}
use Rattle.effects.proofs.tally.raise_each.Goals as goal

pub loop-op-preserved : goal.loop-op-preserved
loop-op-preserved c b p =
    let s = c.args.store.now in
    let all = heads_by (head_at s) in
    let xs = c.args.ops.now in
    let i = c.loop-op.op-index in
    let x = c.op-item.result in
    let yes : c.raise_found.result ≡ true = search rules in
    let rest = all (drop (i + 1) xs) in
    let one = with_head x (head_at s x) [] in
    let split = at_drop_more all xs i x c.loop-op-test.true ∙ (λ j. all (sym c.op-item.is j ∷ drop (i + 1) xs)) ∙ head_joined x (head_at s x) rest in
    c.loop-op.invariant b (subst (λ l. Raised l (counts_in c.loop-op.counts) b) (sym (ap all_operands split ∙ operands_joined one rest))
    (raised_joined (all_operands one) (all_operands rest) (counts_in c.loop-op.counts) (counts_in c.raise_found.new.counts) b (on_true_is c.raise_found.result _ yes c.raise_found.ensures) p))

pub returns : goal.returns
returns c =
    let xs = c.args.ops.now in
    let r = counts_in c.loop-op.counts in
    let le : length xs ≤ c.loop-op.op-index = search rules in
    c.loop-op.invariant r (subst (λ l. Raised (all_operands (heads_by (head_at c.args.store.now) l)) r r) (sym (drop_of_length-le xs le)) (raised_none r))
