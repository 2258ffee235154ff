use Rattle.std.proofs.Common.{◌≡◌, ◌∙◌, ℕ, List, ap, sym, subst, length, arith, set}
use Rattle.std.specs.Vec.{vec_capacity}
use Rattle.std.proofs.lemmas.List.{length-set}
use Rattle.ir_store_lists.specs.Lists.{IsFree, IsHead}
use Rattle.ir_store_lists.specs.Labels.{Rising, HasHeadroom}
use Rattle.ir_store_lists.proofs.Kept.{rising_push, whole_written, headroom_kept}
use Rattle.ir_store_lists.proofs.ordered.OrderedLists.push_back.Goals as goal

pub invariant_of-self : goal.invariant_of-self
invariant_of-self c =
    let chains = c.self.inside.chains in
    let old = c.self.inside.labels.items in
    let new = c.end_label-label.new.labels in
    let node = c.args.node in
    let label = c.end_label-label.result in
    let f = subst (λ v. IsFree v.homes node) (sym c.self.view_is) c.requires.free in
    let head = subst (λ v. IsHead v.homes c.args.head) (sym c.self.view_is) c.requires.head in
    let long : length new ≡ length old = omega (arith, c.end_label-label.ensures.rising.long, c.self.invariant.0.long) in
    let whole = whole_written c.self.inside.labels.len new old long (omega (arith, c.self.inside.labels.ok.0)) in
    let P : List ℕ → Type 0 = λ z. Rising c.push_back.new.self (set z node label) × HasHeadroom (length (set z node label)) (vec_capacity c.self.inside.labels) c.push_back.new.self.headroom in
    subst P (sym whole) (
      rising_push chains c.push_back.new.self new node c.args.head label c.laws.ensures f head c.end_label-label.ensures.above
          c.push_back.ensures.lists (ap length c.push_back.ensures.homes ∙ length-set chains.homes node c.args.head) c.end_label-label.ensures.rising,
      headroom_kept old (set new node label) (vec_capacity c.self.inside.labels) chains.headroom _ (length-set new node label ∙ long) c.push_back.ensures.headroom c.self.invariant.1,
    )
