use Rattle.std.specs.FinMap as finmap
use Rattle.ir_store_slots.proofs.Descending.{Descends}
use Rattle.ir_store_slots.proofs.release.release_ids.Given as goal

abbrev pub invariant-ids : goal.invariant-ids
invariant-ids l = Descends l.from l.end l.initial.slots l.slots (finmap.get l.initial.keys) (finmap.get l.keys) l.marks.homes

abbrev pub decreases-ids : goal.decreases-ids
decreases-ids l = l.end
