use Rattle.std.proofs.Common.{◌≡◌, ◌+◌, ◌≤◌, length}
use Rattle.mlir_work_transforms.specs.FiredText.{times_in}
use Rattle.mlir_work_transforms.proofs.fired_lines.times_in.Given as goal

abbrev pub invariant-entries : goal.invariant-entries
invariant-entries l = record {
  count : l.count + times_in l.fn.one l.rest ≡ times_in l.fn.one l.fn.list;
  below : l.count + length l.rest ≤ length l.fn.list;
}

abbrev pub decreases-entries : goal.decreases-entries
decreases-entries l = length l.rest
