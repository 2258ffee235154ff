use Rattle.std.proofs.Common.{◌≡◌, ◌++◌, length}
use Rattle.conversion.specs.DefiningOps.{defining_ops_of}
use Rattle.conversion.proofs.defining_ops.all_defining_ops.Given as goal

abbrev pub invariant-values : goal.invariant-values
invariant-values l = l.found_defining_ops.items ++ defining_ops_of l.rest ≡ defining_ops_of l.values

abbrev pub decreases-values : goal.decreases-values
decreases-values l = length l.rest
