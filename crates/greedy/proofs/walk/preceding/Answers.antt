use Rattle.std.proofs.Common.{sym}
use Rattle.greedy.proofs.Following.{prev_precedes, parent_precedes, rootless}
use Rattle.greedy.proofs.walk.preceding.Goals as goal

pub returns-in-Some-clause-some : goal.returns-in-Some-clause-some
returns-in-Some-clause-some c = prev_precedes c.args.store.now.module_of.tree c.requires.distinct c.args.op c.in-Some.prev (sym c.in-Some.ensures)

pub returns-in_default-parent-clause-none : goal.returns-in_default-parent-clause-none
returns-in_default-parent-clause-none c = rootless c.args.store.now.module_of.tree c.requires.distinct c.args.op c.requires.there (sym c.in_default-parent.ensures)

pub returns-clause-some : goal.returns-clause-some
returns-clause-some c = parent_precedes c.args.store.now.module_of.tree c.requires.distinct c.args.op c.in-Some-parent.parent (sym c.in-Some-parent.ensures)
