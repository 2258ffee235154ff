use Rattle.std.proofs.Common.{length}
use Rattle.rewriter_machine.specs.Panels.{all_shown}
use Rattle.mlir_work_analyses.specs.Listeners.{any_analysis}
use Rattle.mlir_work_analyses.proofs.Listed.{AreSoFar}
use Rattle.mlir_work_analyses.proofs.any_analysis.listed_listeners.Given as goal

-- the analyses so far, followed by those of the remaining kinds, are the listed ones of all
abbrev pub invariant-all_kinds : goal.invariant-all_kinds
invariant-all_kinds l = AreSoFar l.opaque l.listed l.rest (all_shown any_analysis l.all.items)

abbrev pub decreases-all_kinds : goal.decreases-all_kinds
decreases-all_kinds l = length l.rest
