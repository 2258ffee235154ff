use Rattle.std.proofs.Common.{◌≡◌, ◌++◌, drop}
use Rattle.listeners.specs.Following.{operands_in}
use Rattle.listeners.specs.Collected.{uses_by}
use Rattle.listeners.proofs.collect.push_all.Given as goal

abbrev pub invariant-loop-op : goal.invariant-loop-op
invariant-loop-op l = l.out ++ uses_by (operands_in l.store) (drop l.op-index l.ops) ≡ l.initial.out ++ uses_by (operands_in l.store) l.ops
