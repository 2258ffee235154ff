use Rattle.std.proofs.Common.{length, ◌++◌, ◌≡◌}
use Rattle.user_patterns_apply.specs.Built.{as_operands}
use Rattle.user_patterns_apply.proofs.building.as_operands.Given as goal

abbrev pub invariant-values : goal.invariant-values
invariant-values l = l.operands.items ++ as_operands l.rest ≡ as_operands l.fn.values

abbrev pub decreases-values : goal.decreases-values
decreases-values l = length l.rest
