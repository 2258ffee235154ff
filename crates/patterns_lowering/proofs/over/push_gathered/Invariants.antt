use Rattle.std.proofs.Common.{◌≡◌, ◌≤◌, ◌++◌, length, reverse, take}
use Rattle.patterns_lowering.specs.Numbers.{gather_edits}
use Rattle.patterns_lowering.proofs.over.push_gathered.Given as goal

abbrev pub invariant-ops : goal.invariant-ops
invariant-ops l = record {
  edits : l.edits.items ++ gather_edits l.fn.op l.fn.region l.next (reverse (take l.left l.fn.block.before.items)) ≡ l.initial.edits.items ++ gather_edits l.fn.op l.fn.region l.fn.block.last (reverse l.fn.block.before.items);
  few : l.left ≤ length l.fn.block.before.items;
}

abbrev pub decreases-ops : goal.decreases-ops
decreases-ops l = l.left
