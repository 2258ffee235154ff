use Rattle.std.proofs.Common.{◌≡◌, ◌++◌, length}
use Rattle.patterns_lowering.specs.Numbers.{replace_edits}
use Rattle.patterns_lowering.proofs.lists.push_replaced.Given as goal

abbrev pub invariant-values : goal.invariant-values
invariant-values l = l.edits.items ++ replace_edits l.left l.right ≡ l.initial.edits.items ++ replace_edits l.fn.olds l.fn.news

abbrev pub decreases-values : goal.decreases-values
decreases-values l = length l.left
