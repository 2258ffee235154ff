use Rattle.std.proofs.Common.{◌≤◌, ◌-◌}
use Rattle.patterns.proofs.ByNumber.{AreUpTo}
use Rattle.patterns.proofs.rules_by_name.by_name.Given as goal

abbrev pub invariant-numbers : goal.invariant-numbers
invariant-numbers l = (l.number ≤ 39) × AreUpTo l.fn.rules l.number l.rows.items

abbrev pub decreases-numbers : goal.decreases-numbers
decreases-numbers l = 39 - l.number
