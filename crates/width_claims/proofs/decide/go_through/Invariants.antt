use Rattle.std.proofs.Common.{◌-◌, length, slice_get}
use Rattle.width_claims.specs.Walks.{GoesThrough}
use Rattle.width_claims.proofs.decide.go_through.Given as goal

abbrev pub invariant-transitions : goal.invariant-transitions
invariant-transitions g l =
    GoesThrough (g.M.Machine.after l.fn.machine) (g.M.Machine.accepts l.fn.machine) (g.M.Machine.letters l.fn.machine) (slice_get l.fn.states.keys 0) l.states.keys l.origins.items l.fn.place l.transitions l.at

abbrev pub decreases-transitions : goal.decreases-transitions
decreases-transitions g l = length l.transitions - l.at
