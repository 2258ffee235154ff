use Rattle.std.proofs.Common.{length, not}
use Rattle.ir_store_reads.specs.Lists.{list_at}
use Rattle.ir_store_reads.specs.Index.{cells_of}
use Rattle.ir_store_reads.specs.Walks.{from_slot}
use Rattle.ir_store_reads.proofs.Walked.{Walks}
use Rattle.ir_store.specs.Outside.{leaves_use}
use Rattle.ir_store.proofs.outside.users_go.Given as goal

abbrev pub invariant-users : goal.invariant-users
invariant-users l = Walks l.uses.lists (λ u. not (leaves_use l.slots (cells_of l.cells.items) l.op l.store.module_of.tree u)) l.fn.head l.at

abbrev pub decreases-users : goal.decreases-users
decreases-users l = length (from_slot l.at (list_at l.uses.lists l.fn.head))
