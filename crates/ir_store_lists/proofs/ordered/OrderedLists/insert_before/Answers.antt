use Rattle.std.proofs.Common.{◌≡◌, ◌∙◌, ℕ, List, ap, sym, subst, length, arith, set}
use Rattle.std.specs.Vec.{vec_capacity}
use Rattle.std.proofs.lemmas.List.{length-set}
use Rattle.ir_store_lists.specs.Lists.{IsFree, IsItem, home_at}
use Rattle.ir_store_lists.specs.Labels.{Rising, HasHeadroom}
use Rattle.ir_store_lists.proofs.Kept.{rising_put, whole_written, headroom_kept}
use Rattle.ir_store_lists.proofs.ordered.OrderedLists.insert_before.Goals as goal

pub invariant_of-self : goal.invariant_of-self
invariant_of-self c =
    let chains = c.self.inside.chains in
    let old = c.self.inside.labels.items in
    let new = c.label_for-label.new.labels in
    let node = c.args.node in
    let label = c.label_for-label.result in
    let f = subst (λ v. IsFree v.homes node) (sym c.self.view_is) c.requires.free in
    let item = subst (λ v. IsItem v.homes c.args.at) (sym c.self.view_is) c.requires.at in
    let long : length new ≡ length old = omega (arith, c.label_for-label.ensures.rising.long, c.self.invariant.0.long) in
    let whole = whole_written c.self.inside.labels.len new old long (omega (arith, c.self.inside.labels.ok.0)) in
    let P : List ℕ → Type 0 = λ z. Rising c.insert_before.new.self (set z node label) × HasHeadroom (length (set z node label)) (vec_capacity c.self.inside.labels) c.insert_before.new.self.headroom in
    subst P (sym whole) (
      rising_put chains c.insert_before.new.self new node c.args.at label c.laws.ensures f item c.label_for-label.ensures.low c.label_for-label.ensures.high
          c.insert_before.ensures.lists (ap length c.insert_before.ensures.homes ∙ length-set chains.homes node (home_at chains.homes c.args.at)) c.label_for-label.ensures.rising,
      headroom_kept old (set new node label) (vec_capacity c.self.inside.labels) chains.headroom _ (length-set new node label ∙ long) c.insert_before.ensures.headroom c.self.invariant.1,
    )
