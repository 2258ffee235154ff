use Rattle.std.proofs.Common.{◌≡◌, ◌≤◌, length, take, vec_len, vec_capacity}
use Rattle.ir_text_operations.specs.OpReading.{values_of}
use Rattle.ir_text_operations.proofs.operands.values_of.Given as goal

abbrev pub invariant-items : goal.invariant-items
invariant-items l = record {
  items : l.values.items ≡ values_of (take l.operand-index l.operands);
  count : vec_len l.values ≡ l.operand-index;
  headroom : length l.operands ≤ vec_capacity l.values;
}
