use Rattle.std.proofs.Common.{◌-◌, ◌≤◌}
use Rattle.std.specs.List.{position_or_len}
use Rattle.indexmap.specs.IndexMap.{keys}
use Rattle.ir_types_interner.proofs.intern.among_first.Given as goal

-- the key isn't at an earlier index
abbrev pub invariant-places : goal.invariant-places
invariant-places g l = l.place ≤ position_or_len (g.K.PartialEq.eq l.key) (keys l.map)

abbrev pub decreases-places : goal.decreases-places
decreases-places g l = 4 - l.place
