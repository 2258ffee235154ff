use Rattle.std.proofs.Common.{◌≡◌, ◌++◌, drop}
use Rattle.ir_tree.specs.Uses.{operand_uses}
use Rattle.ir_tree.proofs.uses.push_own_uses.Given as goal

abbrev pub invariant-loop-number : goal.invariant-loop-number
invariant-loop-number l =
    l.out.items ++ operand_uses l.value l.user l.number (drop l.number l.operand-items)
    ≡ l.initial.out.items ++ operand_uses l.value l.user 0 l.operand-items
