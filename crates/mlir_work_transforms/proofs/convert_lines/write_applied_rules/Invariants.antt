use Rattle.std.proofs.Common.{◌≡◌, ◌++◌, length}
use Rattle.mlir_work_transforms.specs.ConvertText.{located_text}
use Rattle.mlir_work_transforms.proofs.convert_lines.write_applied_rules.Given as goal

abbrev pub invariant-applied : goal.invariant-applied
invariant-applied l = l.text.items ++ located_text l.rest ≡ l.fn.text.items ++ located_text l.applied

abbrev pub decreases-applied : goal.decreases-applied
decreases-applied l = length l.rest
