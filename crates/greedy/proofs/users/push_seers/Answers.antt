use Rattle.std.proofs.Common.{sym}
use Rattle.greedy.specs.Parts.{IsSeer}
use Rattle.greedy.proofs.Adding.{adds_nothing}
use Rattle.greedy.proofs.Using.{seer_absent}
use Rattle.greedy.proofs.users.push_seers.Goals as goal

pub returns-then-not-in_tree : goal.returns-then-not-in_tree
returns-then-not-in_tree c =
    let t = c.args.world.now.store.module_of.tree in
    adds_nothing (IsSeer t c.args.passed c.args.op) c.args.ops.now.items (seer_absent c.args.world.now c.args.passed c.args.op (sym c.if-not-in_tree.ensures))
