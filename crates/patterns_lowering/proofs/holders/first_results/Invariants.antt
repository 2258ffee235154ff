use Rattle.std.proofs.Common.{◌≡◌, ◌++◌, length}
use Rattle.patterns_lowering.specs.Numbers.{first_results}
use Rattle.patterns_lowering.proofs.holders.first_results.Given as goal

abbrev pub invariant-ops : goal.invariant-ops
invariant-ops l = l.values.items ++ first_results l.rest ≡ first_results l.fn.ops

abbrev pub decreases-ops : goal.decreases-ops
decreases-ops l = length l.rest
