use Rattle.std.proofs.Common.{◌≡◌, ◌++◌, map, take, drop}
use Rattle.listeners.specs.Listings.{forgotten}
use Rattle.listeners.proofs.listing.forget_in.Given as goal

abbrev pub invariant-loop-user : goal.invariant-loop-user
invariant-loop-user l = take l.user-index l.user-items ++ map (forgotten l.id) (drop l.user-index l.user-items) ≡ map (forgotten l.id) l.initial.user-items
