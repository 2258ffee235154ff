use Rattle.ir_store_lists.proofs.Kept.{rising_taken}
use Rattle.ir_store_lists.proofs.ordered.OrderedLists.pop_front.Goals as goal

pub invariant_of-self : goal.invariant_of-self
invariant_of-self c = rising_taken c.self.inside.chains c.pop_front.new.self c.self.inside.labels.items _ c.pop_front.result c.pop_front.ensures.taken c.self.invariant.0 c.self.invariant.1
