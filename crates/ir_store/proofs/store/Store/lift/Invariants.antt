use Rattle.std.proofs.Common.{◌≡◌}
use Rattle.ir_store.specs.Lifted.{level_of, lifted}
use Rattle.ir_store.proofs.store.Store.lift.Given as goal

abbrev pub invariant-levels : goal.invariant-levels
invariant-levels l = lifted (level_of l.left l.self.module_of.tree) l.at l.self.module_of.tree ≡ lifted (level_of l.fn.guide l.self.module_of.tree) l.fn.op l.self.module_of.tree

abbrev pub decreases-levels : goal.decreases-levels
decreases-levels l = level_of l.left l.self.module_of.tree
