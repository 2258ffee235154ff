use Rattle.std.proofs.Common.{◌≡◌, ◌∙◌, ◌+◌, ◌-◌, ◌<◌, ap, length, arith}
use Rattle.std.proofs.lemmas.List.{length_push}
use Rattle.ir_store_lists.specs.Lists.{free}
use Rattle.ir_store_lists.proofs.Kept.{rising_grown}
use Rattle.ir_store_lists.proofs.ordered.OrderedLists.new_node.Goals as goal

pub invariant_of-self : goal.invariant_of-self
invariant_of-self c =
    let l = c.self.inside.labels.items in
    let headroom : c.new_node.new.self.headroom ≡ c.self.inside.chains.headroom - 1 = ap (λ v. v.headroom) c.new_node.ensures.added in
    let some : 0 < c.self.inside.chains.headroom = omega (arith, c.requires, ap (λ v. v.headroom) c.self.view_is) in
    let more : length c.push_label.new.labels.items ≡ length l + 1 = ap length c.push_label.ensures.items ∙ length_push l 0 in (
      rising_grown c.self.inside.chains c.new_node.new.self l c.push_label.new.labels.items free (ap (λ v. v.lists) c.new_node.ensures.added) (ap (λ v. v.homes) c.new_node.ensures.added) c.push_label.ensures.items
          (omega (arith, c.self.invariant.0.long, c.self.invariant.1.few, some)) c.self.invariant.0,
      record {
        within = omega (arith, headroom, some, more, c.self.invariant.1.within, c.push_label.ensures.capacity);
        few = omega (arith, headroom, some, more, c.self.invariant.1.few);
      },
    )
