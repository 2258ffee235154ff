use Rattle.std.proofs.Common.{length}
use Rattle.listeners.proofs.Pushing.{Ends}
use Rattle.listeners.proofs.about.push_all_uses.Given as goal

abbrev pub invariant-values : goal.invariant-values
invariant-values l = Ends l.fn.world.store.module_of.tree l.fn.values l.left l.keys.items l.initial.keys.items

abbrev pub decreases-values : goal.decreases-values
decreases-values l = length l.left
