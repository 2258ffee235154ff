use Rattle.std.proofs.Common.{◌∙◌, ap, sym, subst, length}
use Rattle.std.proofs.lemmas.List.{length-set}
use Rattle.std.specs.Vec.{vec_capacity}
use Rattle.ir_store_lists.specs.Lists.{free}
use Rattle.ir_store_lists.specs.Labels.{HasHeadroom}
use Rattle.ir_store_lists.proofs.Kept.{rising_without}
use Rattle.ir_store_lists.proofs.ordered.OrderedLists.remove.Goals as goal

pub invariant_of-self : goal.invariant_of-self
invariant_of-self c =
    let l = c.self.inside.labels.items in (
      rising_without c.self.inside.chains c.remove.new.self l c.args.node c.remove.ensures.lists (ap length c.remove.ensures.homes ∙ length-set c.self.inside.chains.homes c.args.node free) c.self.invariant.0,
      subst (λ z. HasHeadroom (length l) (vec_capacity c.self.inside.labels) z) (sym c.remove.ensures.headroom) c.self.invariant.1,
    )
