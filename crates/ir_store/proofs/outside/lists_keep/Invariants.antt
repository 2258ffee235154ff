use Rattle.std.proofs.Common.{◌≡◌, not}
use Rattle.ir_store_reads.specs.Index.{AreHeads, cells_of}
use Rattle.ir_store.specs.Outside.{leaves_use, lists_pass}
use Rattle.ir_store.proofs.outside.lists_keep.Given as goal

abbrev pub invariant-heads : goal.invariant-heads
invariant-heads l = AreHeads l.at l.left l.uses.homes
    × (lists_pass l.uses.lists (λ u. not (leaves_use l.slots (cells_of l.cells.items) l.op l.store.module_of.tree u)) l.at l.left
    ≡ lists_pass l.uses.lists (λ u. not (leaves_use l.slots (cells_of l.cells.items) l.op l.store.module_of.tree u)) l.fn.base l.fn.count)

abbrev pub decreases-heads : goal.decreases-heads
decreases-heads l = l.left
