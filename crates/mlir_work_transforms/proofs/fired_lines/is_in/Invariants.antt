use Rattle.std.proofs.Common.{◌≡◌, length}
use Rattle.std.specs.List.{list_any}
use Rattle.mlir_work_transforms.specs.FiredText.{is_in, is_same}
use Rattle.mlir_work_transforms.proofs.fired_lines.is_in.Given as goal

abbrev pub invariant-entries : goal.invariant-entries
invariant-entries l = list_any (is_same l.fn.one) l.rest ≡ is_in l.fn.one l.fn.list

abbrev pub decreases-entries : goal.decreases-entries
decreases-entries l = length l.rest
