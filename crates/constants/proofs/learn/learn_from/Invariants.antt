use Rattle.std.proofs.Common.{◌≡◌, ℕ, ◌-◌, ◌^◌}
use Rattle.ir_event.specs.tree_laws.Members.{In}
use Rattle.constants.specs.Trails.{IsThere}
use Rattle.constants.proofs.Counted.{LearnsFrom}
use Rattle.constants.specs.Tables.{known_in, look_in, uses_in}
use Rattle.constants.proofs.learn.learn_from.Given as goal

abbrev pub invariant-loop-next : goal.invariant-loop-next
invariant-loop-next l = (l.view.world.now ≡ l.fn.view.world.now)
    × (IsThere (look_in l.fn.view.world.now) l.fn.op → ((y : ℕ) → In y l.fn.forgotten → IsThere (look_in l.fn.view.world.now) y)
    → LearnsFrom look_in uses_in l.fn.op l.fn.forgotten (known_in l.fn.table) (known_in l.table) l.trail.items l.next l.fn.view.world.now l.view.world.now l.fn.view.looks l.view.looks)

-- the length of a trail is limited by memory
abbrev pub decreases-loop-next : goal.decreases-loop-next
decreases-loop-next l = 2 ^ 64 - l.next
