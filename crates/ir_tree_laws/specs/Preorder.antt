-- The position of a place of a tree in pre-order.
use Rattle.std.specs.Prelude.{◌≡◌, ℕ, zero, suc, ◌+◌, List, [], ◌∷◌, ◌++◌, Option, Some, None}
use Rattle.ir_tree.specs.declared.place.Place.{Place}
use Rattle.ir_tree.specs.Tree.{OpOf, RegionsOf, no_regions, region, regions}
use Rattle.ir_tree.specs.Ids.{find, region_ids}

-- the ids in the first n regions of an operation, in pre-order
abbrev pub first_ids : {N T A : Type 0} → ℕ → RegionsOf N T A → List ℕ
first_ids zero rs = []
first_ids (suc n) no_regions = []
first_ids (suc n) (region g rs) = region_ids g ++ first_ids n rs

-- a tree's ids are split directly before the next operation at a place; if there is none, directly after the operations
-- inside the regions of the place's parent, up to the region of the place
abbrev pub IsCutBefore : {N T A : Type 0} → Option ℕ → Place → OpOf N T A → List ℕ → List ℕ → Type 0
IsCutBefore (Some b) place t preceding back = (ids : List ℕ) × (back ≡ b ∷ ids)
IsCutBefore {N} {T} {A} None place t preceding back = (p : OpOf N T A) × (before : List ℕ) × (find place.parent t ≡ Some p) × (preceding ≡ before ++ (place.parent ∷ first_ids (place.region + 1) (regions p)))

-- a tree's ids, in pre-order, are split at a place
abbrev pub IsCutAt : {N T A : Type 0} → Place → OpOf N T A → List ℕ → List ℕ → Type 0
IsCutAt place t preceding back = IsCutBefore place.before place t preceding back
