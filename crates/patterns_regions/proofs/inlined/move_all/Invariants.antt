use Rattle.std.proofs.Common.{◌≡◌, ◌++◌, drop}
use Rattle.patterns_regions.specs.Opened.{move_edits}
use Rattle.patterns_regions.proofs.inlined.move_all.Given as goal

abbrev pub invariant-loop-op : goal.invariant-loop-op
invariant-loop-op l = l.out.items ++ move_edits l.place (drop l.op-index l.ops) ≡ l.initial.out.items ++ move_edits l.place l.ops
