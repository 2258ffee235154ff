use Rattle.std.proofs.Common.{◌-◌, Some}
use Rattle.width_claims.specs.Walks.{Walked}
use Rattle.width_claims.proofs.decide.search.Given as goal

abbrev pub invariant-places : goal.invariant-places
invariant-places g l =
    Walked (g.M.Machine.after l.fn.machine) (g.M.Machine.accepts l.fn.machine) (g.M.Machine.letters l.fn.machine) (Some l.fn.start) l.states.keys l.origins.items l.place

abbrev pub decreases-places : goal.decreases-places
decreases-places g l = l.most - l.place
