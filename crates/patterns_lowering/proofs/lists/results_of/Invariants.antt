use Rattle.std.proofs.Common.{◌≡◌, ◌+◌, ◌++◌, length}
use Rattle.patterns_soundness.specs.base.Makes.{results_from}
use Rattle.patterns_lowering.proofs.lists.results_of.Given as goal

abbrev pub invariant-types : goal.invariant-types
invariant-types l = record { values : l.values.items ++ results_from l.fn.op l.number l.rest ≡ results_from l.fn.op 0 l.fn.types; number : l.number + length l.rest ≡ length l.fn.types }

abbrev pub decreases-types : goal.decreases-types
decreases-types l = length l.rest
