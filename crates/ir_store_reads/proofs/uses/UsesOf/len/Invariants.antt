use Rattle.std.specs.Prelude.{length}
use Rattle.ir_store_slots.specs.Index.{cells_of}
use Rattle.ir_store_reads.specs.Uses.{uses_left}
use Rattle.ir_store_reads.proofs.Using.{Counts}
use Rattle.ir_store_reads.proofs.uses.UsesOf.len.Given as goal

abbrev pub invariant-uses : goal.invariant-uses
invariant-uses l = Counts l.self-inside.slots.now (cells_of l.self-inside.cells.now.items) l.self-inside.uses.now (length l.self) l.count l.at

abbrev pub decreases-uses : goal.decreases-uses
decreases-uses l = length (uses_left l.self-inside.slots.now (cells_of l.self-inside.cells.now.items) l.self-inside.uses.now l.at)
