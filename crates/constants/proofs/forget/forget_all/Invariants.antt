use Rattle.std.proofs.Common.{◌≡◌, ◌++◌, take, length}
use Rattle.ir_event.specs.tree_laws.Members.{In}
use Rattle.constants.specs.Phases.{Forgotten}
use Rattle.constants.specs.Tables.{known_in, users_of}
use Rattle.constants.proofs.forget.forget_all.Given as goal

abbrev pub invariant-loop-user : goal.invariant-loop-user
invariant-loop-user l =
    (l.yielded ++ l.user-iterator ≡ l.fn.uses)
    × Forgotten (Unit {0}) (λ y. In y (take (length l.yielded) (users_of l.fn.uses))) (known_in l.initial.table) (known_in l.table) l.initial.trail.items l.trail.items
