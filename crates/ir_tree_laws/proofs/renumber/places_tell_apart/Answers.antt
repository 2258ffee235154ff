use Rattle.ir_tree_laws.proofs.RenumberedPlaces.{places_tell, place_at}
use Rattle.ir_tree_laws.proofs.renumber.places_tell_apart.Goals as goal

pub returns-clause-apart : goal.returns-clause-apart
returns-clause-apart c xs = places_tell xs

pub returns-clause-places : goal.returns-clause-places
returns-clause-places c xs ys x d = place_at xs ys x d
