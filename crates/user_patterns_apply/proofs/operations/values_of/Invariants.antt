use Rattle.std.proofs.Common.{◌≡◌, ◌++◌, length, map}
use Rattle.user_patterns_apply.specs.Built.{operand_in}
use Rattle.user_patterns_apply.proofs.operations.values_of.Given as goal

abbrev pub invariant-operands : goal.invariant-operands
invariant-operands l = l.values.items ++ map (operand_in l.fn.next) l.rest ≡ map (operand_in l.fn.next) l.fn.operands

abbrev pub decreases-operands : goal.decreases-operands
decreases-operands l = length l.rest
