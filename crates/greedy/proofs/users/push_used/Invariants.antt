use Rattle.greedy.specs.Adding.{Adding}
use Rattle.greedy.specs.Parts.{IsIn}
use Rattle.greedy.proofs.users.push_used.Given as goal

abbrev pub invariant-uses : goal.invariant-uses
invariant-uses l = Adding (IsIn l.fn.uses) (IsIn l.user-iterator) l.fn.ops.items l.ops.items
