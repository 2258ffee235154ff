use Rattle.std.proofs.Common.{◌≡◌, List, ℕ, ◌++◌, true, length}
use Rattle.ir_store_reads.specs.trees.Ids.{find, has_id}
use Rattle.ir_store.specs.Ends.{ids_in}
use Rattle.ir_store.proofs.store.Store.last_within.Given as goal

abbrev pub invariant-inside : goal.invariant-inside
invariant-inside l = (has_id l.at l.self.module_of.tree ≡ true) × ((ys : List ℕ) × (ids_in (find l.fn.op l.self.module_of.tree) ≡ ys ++ ids_in (find l.at l.self.module_of.tree)))

abbrev pub decreases-inside : goal.decreases-inside
decreases-inside l = length (ids_in (find l.at l.self.module_of.tree))
