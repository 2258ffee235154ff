use Rattle.std.proofs.Common.{length}
use Rattle.greedy.specs.Adding.{Adding, OneOf}
use Rattle.greedy.specs.Parts.{GivesUnused}
use Rattle.greedy.proofs.neighbours.push_all_unused.Given as goal

abbrev pub invariant-values : goal.invariant-values
invariant-values l =
    Adding (OneOf (GivesUnused l.fn.store.module_of.tree) l.fn.values) (OneOf (GivesUnused l.fn.store.module_of.tree) l.rest) l.fn.ops.items l.ops.items

abbrev pub decreases-values : goal.decreases-values
decreases-values l = length l.rest
