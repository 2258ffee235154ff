use Rattle.std.proofs.Common.{◌-◌}
use Rattle.greedy.specs.LocalContext.{Uses}
use Rattle.greedy.specs.Adding.{Adding}
use Rattle.greedy.proofs.Using.{IsUserAmong}
use Rattle.greedy.proofs.users.push_users.Given as goal

abbrev pub invariant-numbers : goal.invariant-numbers
invariant-numbers l = Adding (λ x. Uses x l.fn.op l.fn.world.store.module_of.tree) (IsUserAmong l.fn.world l.fn.op l.number l.count) l.fn.ops.items l.ops.items

abbrev pub decreases-numbers : goal.decreases-numbers
decreases-numbers l = l.count - l.number
