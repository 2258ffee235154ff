use Rattle.std.proofs.Common.{◌≡◌, ◌≤◌, ◌+◌, ◌++◌, length}
use Rattle.ir_event.specs.trees.Limits.{most_next}
use Rattle.patterns_lowering.specs.Numbers.{numbers_from}
use Rattle.patterns_lowering.proofs.holders.ids_from.Given as goal

abbrev pub invariant-types : goal.invariant-types
invariant-types l = record { ids : l.ids.items ++ numbers_from l.next l.rest ≡ numbers_from l.fn.first l.fn.types; headroom : l.next + length l.rest ≤ most_next }

abbrev pub decreases-types : goal.decreases-types
decreases-types l = length l.rest
