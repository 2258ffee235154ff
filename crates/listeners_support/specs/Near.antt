-- The operations near an event.
use Rattle.std.specs.Prelude.{ℕ, List, [], ◌∷◌, Option, Some, None, option_and_then}
use Rattle.ir_event.specs.trees.Tree.{OpOf, RegionsOf, no_regions, region, regions}
use Rattle.ir_event.specs.trees.Ids.{find}
use Rattle.ir_event.specs.tree_laws.Reads.{ops_in, last_id, last_at, prev_of}
use Rattle.ir_event.specs.declared.event.Event.{Event}
use Rattle.ir_event.specs.declared.event.Event.TheVariants.{Put, Take, SetOperand, SetEntry, Shift}

-- the item, if there is one, prepended to a list
abbrev pub if_any : {X : Type 0} → Option X → List X → List X
if_any None xs = xs
if_any (Some x) xs = x ∷ xs

-- the last operation in the block of each region
abbrev pub lasts_of : {N T A : Type 0} → RegionsOf N T A → List ℕ
lasts_of no_regions = []
lasts_of (region g rs) = if_any (option_and_then last_id (ops_in g)) (lasts_of rs)

-- the same for an operation, if there is one
abbrev pub lasts_found : {N T A : Type 0} → Option (OpOf N T A) → List ℕ
lasts_found None = []
lasts_found (Some o) = lasts_of (regions o)

-- the same for operation x
abbrev pub lasts_in : {N T A : Type 0} → ℕ → OpOf N T A → List ℕ
lasts_in x t = lasts_found (find x t)

-- the list, if the place is the end of its block; elsewhere an insertion or removal changes no neighbour's context
abbrev pub if_end : {X : Type 0} → Option ℕ → List X → List X
if_end None xs = xs
if_end (Some b) xs = []

-- the operations near an event that led to this tree: only their contexts can differ from before
abbrev pub near : {N T A : Type 0} → Event → OpOf N T A → List ℕ
near (Put x place fresh) t = x ∷ if_end place.before (place.parent ∷ if_any (prev_of x t) [])
near (Take x place fresh) t =
    x ∷ if_end place.before (place.parent ∷ if_any (last_at place.parent place.region t) [])
near (SetOperand x k old new) t = x ∷ lasts_in x t
near (SetEntry x part key old new) t = x ∷ lasts_in x t
near (Shift x old new) t =
    x ∷ old.parent ∷ new.parent ∷ if_any (last_at old.parent old.region t) (if_any (prev_of x t) [])

-- the items that are present
abbrev pub somes : {X : Type 0} → List (Option X) → List X
somes [] = []
somes (o ∷ os) = if_any o (somes os)
