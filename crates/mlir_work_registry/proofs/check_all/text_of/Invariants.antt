use Rattle.std.proofs.Common.{◌≡◌, ◌++◌, length}
use Rattle.mlir_work_registry.specs.Verdicts.{verdict_views, verdicts_text}
use Rattle.mlir_work_registry.proofs.check_all.text_of.Given as goal

abbrev pub invariant-verdicts : goal.invariant-verdicts
invariant-verdicts l = l.out.items ++ verdicts_text (verdict_views l.rest) ≡ verdicts_text (verdict_views l.fn.verdicts)

abbrev pub decreases-verdicts : goal.decreases-verdicts
decreases-verdicts l = length l.rest
