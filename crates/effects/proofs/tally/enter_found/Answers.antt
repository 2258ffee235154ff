use Rattle.std.proofs.Common.{refl, ap, ◌∙◌, subst, []}
use Rattle.std.specs.Prelude.{option_map}
use Rattle.ir_event.specs.store.Nodes.{Node}
use Rattle.effects.specs.Found.{with_head}
use Rattle.effects.specs.Counts.{counts_in, kept_by, Entered, AllEntered}
use Rattle.effects.proofs.Changes.{on_true_more}
use Rattle.effects.proofs.tally.enter_found.Goals as goal

pub returns : goal.returns
returns c =
    let kept = kept_by c.args.world.now.ctx in
    let x = c.args.op in
    let a = counts_in c.args.counts.now in
    let b = counts_in c.enter.new.counts in
    on_true_more c.enter.result _ _
    (λ p. subst (λ o. AllEntered kept (with_head x o []) a b) (ap (option_map (λ (n : Node). n.head)) c.in-Some.ensures)
    (b, subst (λ k. Entered x k a b) (c.stays-kept.ensures ∙ ap kept c.name.ensures) p, λ y. refl))
    c.enter.ensures
