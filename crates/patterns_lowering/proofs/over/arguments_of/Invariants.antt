use Rattle.std.proofs.Common.{◌≡◌, ◌+◌, ◌++◌, length}
use Rattle.patterns_soundness.specs.base.Makes.{arguments_from}
use Rattle.patterns_lowering.proofs.over.arguments_of.Given as goal

abbrev pub invariant-types : goal.invariant-types
invariant-types l = record { values : l.values.items ++ arguments_from l.fn.op l.number l.rest ≡ arguments_from l.fn.op 0 l.fn.types; number : l.number + length l.rest ≡ length l.fn.types }

abbrev pub decreases-types : goal.decreases-types
decreases-types l = length l.rest
