use Rattle.constants.proofs.Counted.{LearnsAll}
use Rattle.constants.specs.Tables.{known_in, look_in, uses_in}
use Rattle.constants.proofs.learn.learn_all.Given as goal

abbrev pub invariant-loop-op : goal.invariant-loop-op
invariant-loop-op l = LearnsAll look_in uses_in l.ops l.op-index (known_in l.initial.table) (known_in l.table) l.initial.trail.items l.trail.items l.initial.view.world.now l.view.world.now l.initial.view.looks l.view.looks
