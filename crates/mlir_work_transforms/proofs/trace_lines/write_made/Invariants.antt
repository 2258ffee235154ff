use Rattle.std.proofs.Common.{◌≡◌, ◌++◌, ◌-◌, true}
use Rattle.mlir_work_transforms.specs.TraceText.{made_from}
use Rattle.mlir_work_transforms.proofs.trace_lines.write_made.Given as goal

abbrev pub invariant-made : goal.invariant-made
invariant-made l = l.text.items ++ made_from l.first l.number (l.until - l.number) ≡ l.fn.text.items ++ made_from true l.from (l.until - l.from)

abbrev pub decreases-made : goal.decreases-made
decreases-made l = l.until - l.number
