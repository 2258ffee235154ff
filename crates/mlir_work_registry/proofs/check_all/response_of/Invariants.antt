use Rattle.std.proofs.Common.{◌≡◌, length}
use Rattle.mlir_work_registry.specs.Verdicts.{verdict_views, verdicts_notice}
use Rattle.mlir_work_registry.proofs.check_all.response_of.Given as goal

abbrev pub invariant-verdicts : goal.invariant-verdicts
invariant-verdicts l = verdicts_notice (verdict_views l.rest) ≡ verdicts_notice (verdict_views l.fn.verdicts)

abbrev pub decreases-verdicts : goal.decreases-verdicts
decreases-verdicts l = length l.rest
