use Rattle.std.proofs.Common.{length}
use Rattle.greedy.specs.Adding.{Adding, OneOf}
use Rattle.greedy.specs.Parts.{Gives}
use Rattle.greedy.proofs.neighbours.push_defining_ops.Given as goal

abbrev pub invariant-values : goal.invariant-values
invariant-values l = Adding (OneOf Gives l.fn.values) (OneOf Gives l.rest) l.fn.ops.items l.ops.items

abbrev pub decreases-values : goal.decreases-values
decreases-values l = length l.rest
