use Rattle.std.proofs.Common.{◌≡◌, ◌+◌, ◌≤◌, length}
use Rattle.ir_verify_base.specs.Types.{unknown_count}
use Rattle.ir_verify_base.proofs.memref_rules.unknown_count.Given as goal

abbrev pub invariant-loop-rest : goal.invariant-loop-rest
invariant-loop-rest l = record {
  count : l.count + unknown_count l.rest ≡ unknown_count l.fn.dims;
  below : l.count + length l.rest ≤ length l.fn.dims;
}

abbrev pub decreases-loop-rest : goal.decreases-loop-rest
decreases-loop-rest l = length l.rest
