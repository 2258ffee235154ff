use Rattle.std.proofs.Common.{◌≡◌, length}
use Rattle.std.specs.Prelude.{slice_get}
use Rattle.ir_store_lists.specs.Lists.{list_at}
use Rattle.ir_store_slots.proofs.Listed.{Forgot}
use Rattle.ir_store_slots.proofs.release.forget_keys.Given as goal

abbrev pub invariant-lacking : goal.invariant-lacking
invariant-lacking l = Forgot l.initial.slots l.slots l.marks.homes × (l.at ≡ slice_get (list_at l.marks.lists 1) 0)

abbrev pub decreases-lacking : goal.decreases-lacking
decreases-lacking l = length (list_at l.marks.lists 1)
