use Rattle.std.proofs.Common.{◌≡◌, true, subst, rules, ◌∙◌}
use Rattle.ir_event.specs.Heads.{all_operands}
use Rattle.effects.specs.Counts.{counts_in, kept_by, AllEntered, Raised}
use Rattle.effects.proofs.Changes.{on_true_is, on_true_more}
use Rattle.effects.proofs.Followed.{begun_counts}
use Rattle.effects.proofs.Finding.{heads_found}
use Rattle.effects.proofs.dead.tally.Goals as goal

pub returns : goal.returns
returns c vacant =
    let w = c.args.world.now in
    let t = w.store.module_of.tree in
    let a = counts_in c.args.counts.now in
    let m = counts_in c.enter_all.new.counts in
    let yes : c.enter_all.result ≡ true = search rules in
    let first = heads_found w.store c.deref.result.now w.wellformed.distinct (c.deref.ensures.value ∙ c.in-Ok.ensures.listed) in
    let then = heads_found w.store c.deref-2.result.now w.wellformed.distinct (c.deref-2.ensures.value ∙ c.in-Ok.ensures.listed) in
    let entered = subst (λ z. AllEntered (kept_by w.ctx) z a m) first (on_true_is c.enter_all.result _ yes c.enter_all.ensures) in
    on_true_more c.raise_each.result _ _
    (λ raised. begun_counts w.ctx t a m (counts_in c.raise_each.new.counts) w.wellformed.distinct vacant entered (subst (λ z. Raised (all_operands z) m (counts_in c.raise_each.new.counts)) then raised))
    c.raise_each.ensures
