use Rattle.std.proofs.Common.{◌≡◌, ◌+◌, length, map}
use Rattle.mlir_work_c_read.specs.Records.{use_item}
use Rattle.mlir_work_c_read.proofs.Joining.{ContinuesFrom}
use Rattle.mlir_work_c_read.proofs.records.write_uses.Given as goal

abbrev pub invariant-uses : goal.invariant-uses
invariant-uses l =
    (l.count + length l.rest ≡ length l.fn.uses)
    × (l.place ≡ l.fn.at + l.count)
    × ContinuesFrom (map use_item l.rest) (map use_item l.fn.uses) l.fn.at l.place l.into l.initial.into

abbrev pub decreases-uses : goal.decreases-uses
decreases-uses l = length l.rest
