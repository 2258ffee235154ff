use Rattle.std.proofs.Common.{sym}
use Rattle.greedy.proofs.Following.{before_precedes, not_after}
use Rattle.greedy.proofs.walk.precedes.Goals as goal

pub returns-then-is_before : goal.returns-then-is_before
returns-then-is_before c = sym (before_precedes c.args.store.now.module_of.tree c.requires.distinct c.args.op c.args.other (sym c.if-is_before.ensures))

pub returns-then-is_before-2 : goal.returns-then-is_before-2
returns-then-is_before-2 c =
    let t = c.args.store.now.module_of.tree in
    sym (not_after t c.requires.distinct c.args.other c.args.op (before_precedes t c.requires.distinct c.args.other c.args.op (sym c.if-is_before-2.ensures)))
