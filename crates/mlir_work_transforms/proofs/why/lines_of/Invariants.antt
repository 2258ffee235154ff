use Rattle.std.proofs.Common.{◌≡◌, ◌++◌, length}
use Rattle.ir_event.specs.Modules.{module_in}
use Rattle.mlir_work_transforms.specs.WhyText.{why_lines}
use Rattle.mlir_work_transforms.proofs.why.lines_of.Given as goal

abbrev pub invariant-rules : goal.invariant-rules
invariant-rules l = l.text.items ++ why_lines l.rest l.fn.op (module_in l.fn.world) ≡ why_lines l.fn.rules l.fn.op (module_in l.fn.world)

abbrev pub decreases-rules : goal.decreases-rules
decreases-rules l = length l.rest
