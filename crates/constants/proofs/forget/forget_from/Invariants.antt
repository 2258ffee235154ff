use Rattle.std.proofs.Common.{◌-◌, ◌^◌}
use Rattle.constants.proofs.Counted.{ForgetsFrom}
use Rattle.constants.specs.Tables.{known_in, look_in, uses_in}
use Rattle.constants.proofs.forget.forget_from.Given as goal

abbrev pub invariant-loop-next : goal.invariant-loop-next
invariant-loop-next l = ForgetsFrom look_in uses_in l.fn.op (known_in l.fn.table) (known_in l.table) l.trail.items l.next l.fn.view.world.now l.view.world.now l.fn.view.looks l.view.looks

-- the length of a trail is limited by memory
abbrev pub decreases-loop-next : goal.decreases-loop-next
decreases-loop-next l = 2 ^ 64 - l.next
