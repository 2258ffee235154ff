use Rattle.std.proofs.Common.{length}
use Rattle.std.specs.FinMap as finmap
use Rattle.ir_store_lists.specs.Lists.{list_at}
use Rattle.ir_store_slots.specs.Walks.{from_slot}
use Rattle.ir_store_slots.proofs.Listed.{Sweeps}
use Rattle.ir_store_slots.proofs.release.release_held.Given as goal

abbrev pub invariant-held : goal.invariant-held
invariant-held l = Sweeps l.from l.initial.slots l.slots (finmap.get l.initial.keys) (finmap.get l.keys) (list_at l.marks.lists 0) l.marks.homes l.at

abbrev pub decreases-held : goal.decreases-held
decreases-held l = length (from_slot l.at (list_at l.marks.lists 0))
