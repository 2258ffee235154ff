use Rattle.std.proofs.Common.{◌≡◌, ◌++◌, length}
use Rattle.patterns_lowering.specs.Numbers.{erase_edits}
use Rattle.patterns_lowering.proofs.holders.push_erased.Given as goal

abbrev pub invariant-ops : goal.invariant-ops
invariant-ops l = l.edits.items ++ erase_edits l.rest ≡ l.initial.edits.items ++ erase_edits l.fn.ops

abbrev pub decreases-ops : goal.decreases-ops
decreases-ops l = length l.rest
