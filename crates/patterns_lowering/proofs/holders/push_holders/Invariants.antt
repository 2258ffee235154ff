use Rattle.std.proofs.Common.{◌≡◌, ◌++◌, length}
use Rattle.patterns_lowering.specs.Numbers.{holder_edits}
use Rattle.patterns_lowering.proofs.holders.push_holders.Given as goal

abbrev pub invariant-types : goal.invariant-types
invariant-types l = l.edits.items ++ holder_edits l.fn.place l.rest ≡ l.initial.edits.items ++ holder_edits l.fn.place l.fn.types

abbrev pub decreases-types : goal.decreases-types
decreases-types l = length l.rest
