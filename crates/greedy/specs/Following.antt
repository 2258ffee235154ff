-- The operation after another in pre-order.
use Rattle.std.specs.Prelude.{◌≡◌, ◌≤◌, ℕ, zero, suc, ◌+◌, List, [], ◌∷◌, ◌++◌, length, eqb, if◌then◌else◌, Option}
use Rattle.std.specs.Prelude.{Some, None}
use Rattle.ir_event.specs.trees.Tree.{OpOf, RegionsOf, no_regions, region, regions, region_count}
use Rattle.ir_event.specs.trees.Ids.{ids, find, regions_ids, ops_ids}
use Rattle.ir_event.specs.tree_laws.Stands.{StepOf, OpWithPathOf}

-- the first entry of a list
abbrev pub first_id : List ℕ → Option ℕ
first_id [] = None
first_id (x ∷ xs) = Some x

-- the entry after the first a in a list
abbrev pub comes_next : ℕ → List ℕ → Option ℕ
comes_next a [] = None
comes_next a (x ∷ xs) = if eqb x a then first_id xs else comes_next a xs

module _ {N T A : Type 0} where
  abbrev pub following : ℕ → OpOf N T A → Option ℕ
  following x t = comes_next x (ids t)

  -- no operation has more than `most_regions` regions
  abbrev pub HasFewRegions : OpOf N T A → Type 0
  HasFewRegions t = (x : ℕ) (o : OpOf N T A) → find x t ≡ Some o → region_count (regions o) ≤ 16

  -- the regions from an index on
  abbrev pub regions_from : ℕ → RegionsOf N T A → RegionsOf N T A
  regions_from zero rs = rs
  regions_from (suc r) no_regions = no_regions
  regions_from (suc r) (region g rs) = regions_from r rs

  -- the first operation in the regions from an index on
  abbrev pub first_inside : ℕ → Option (OpOf N T A) → Option ℕ
  first_inside r None = None
  first_inside r (Some o) = first_id (regions_ids (regions_from r (regions o)))

  -- the ids after all contents of an operation, by its path
  abbrev pub trailing : List (StepOf N T A) → List ℕ
  trailing [] = []
  trailing (a ∷ q) = ops_ids a.rest ++ (regions_ids (regions_from (a.region + 1) (regions a.parent)) ++ trailing q)

  abbrev pub after_of : Option (OpWithPathOf N T A) → List ℕ
  after_of None = []
  after_of (Some s) = trailing s.path

  -- the number of parents of an optional operation
  abbrev pub height_of : Option (OpWithPathOf N T A) → ℕ
  height_of None = 0
  height_of (Some s) = length s.path

  -- the number of regions of an optional operation
  abbrev pub count_of : Option (OpOf N T A) → ℕ
  count_of None = 0
  count_of (Some o) = region_count (regions o)
