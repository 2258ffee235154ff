use Rattle.std.proofs.Common.{◌≡◌, ◌<◌, ◌^◌, drop}
use Rattle.mlir_work_script_base.specs.Numbers.{number_after}
use Rattle.mlir_work_script_base.proofs.numbers.digits_value.Given as goal

-- the remaining digits extend the number so far to the number of all digits
abbrev pub invariant-loop-digit : goal.invariant-loop-digit
invariant-loop-digit l = record {
  small : l.number < 2 ^ 32;
  same : number_after l.number (drop l.digit-index l.digits) ≡ number_after 0 l.digits;
}
