use Rattle.std.proofs.Common.{◌≡◌, ◌++◌, length}
use Rattle.constants.proofs.Counted.{LearnsAll}
use Rattle.constants.specs.Tables.{known_in, look_in, uses_in, users_of}
use Rattle.constants.proofs.learn.learn_uses.Given as goal

abbrev pub invariant-loop-user : goal.invariant-loop-user
invariant-loop-user l =
    (l.yielded ++ l.user-iterator ≡ l.fn.uses)
    × LearnsAll look_in uses_in (users_of l.fn.uses) (length l.yielded) (known_in l.initial.table) (known_in l.table) l.initial.trail.items l.trail.items l.initial.view.world.now l.view.world.now l.initial.view.looks l.view.looks
