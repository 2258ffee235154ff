use Rattle.std.proofs.Common.{◌≡◌, ◌++◌, drop}
use Rattle.listeners.specs.Uses.{operand_uses}
use Rattle.listeners.specs.Keys.{keys_of}
use Rattle.listeners.proofs.gather.push_keys.Given as goal

abbrev pub invariant-loop-number : goal.invariant-loop-number
invariant-loop-number l = l.keys.items ++ keys_of (operand_uses l.user l.number (drop l.number l.operands)) ≡ l.initial.keys.items ++ keys_of (operand_uses l.user 0 l.operands)
