use Rattle.std.proofs.Common.{◌≡◌, ◌+◌, ◌∷◌, true, sym, ◌∙◌, subst, rules, drop}
use Rattle.std.proofs.lemmas.List.{at_drop_more}
use Rattle.effects.specs.Counts.{counts_in, kept_by, AllEntered}
use Rattle.effects.specs.Found.{head_at, heads_by}
use Rattle.effects.proofs.Changes.{on_true_is}
use Rattle.effects.proofs.Raising.{entered_joined}
use Rattle.effects.proofs.Finding.{head_joined}
use Rattle.effects.proofs.tally.enter_all.Goals as goal

pub loop-op-preserved : goal.loop-op-preserved
loop-op-preserved c b p =
    let w = c.args.world.now in
    let kept = kept_by w.ctx in
    let all = heads_by (head_at w.store) in
    let xs = c.args.ops.now in
    let i = c.loop-op.op-index in
    let x = c.op-item.result in
    let yes : c.enter_found.result ≡ true = search rules in
    let split = at_drop_more all xs i x c.loop-op-test.true ∙ (λ j. all (sym c.op-item.is j ∷ drop (i + 1) xs)) ∙ head_joined x (head_at w.store x) (all (drop (i + 1) xs)) in
    c.loop-op.invariant b (subst (λ l. AllEntered kept l (counts_in c.loop-op.counts) b) (sym split)
    (entered_joined kept _ _ (counts_in c.loop-op.counts) (counts_in c.enter_found.new.counts) b (on_true_is c.enter_found.result _ yes c.enter_found.ensures) p))
