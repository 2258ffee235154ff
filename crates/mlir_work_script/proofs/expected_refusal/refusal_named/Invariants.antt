use Rattle.std.proofs.Common.{◌≡◌, length}
use Rattle.std.specs.List.{find}
use Rattle.mlir_work_script.specs.Expecting.{all_refusals, names}
use Rattle.mlir_work_script.proofs.expected_refusal.refusal_named.Given as goal

abbrev pub invariant-loop-rest : goal.invariant-loop-rest
invariant-loop-rest l = find (names l.fn.word) l.rest ≡ find (names l.fn.word) all_refusals

abbrev pub decreases-loop-rest : goal.decreases-loop-rest
decreases-loop-rest l = length l.rest
