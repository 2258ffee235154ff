-- Inserting an operation with everything inside it, header by header.
use Rattle.std.specs.Prelude.{ℕ, ◌+◌, nat_le, List, [], ◌∷◌, ◌++◌, Option, None}
use Rattle.ir_event.specs.types.declared.refusal.Refusal.{Refusal}
use Rattle.ir_event.specs.types.declared.refusal.Refusal.TheVariants.{NoSuchOp, NoSuchIndex}
use Rattle.ir_event.specs.types.declared.refusal.Refusal.TheVariants.{Full, IdsExhausted, TooDeepHere}
use Rattle.ir_event.specs.trees.declared.place.Place.{Place}
use Rattle.ir_event.specs.trees.Tree.{OpOf, op, RegionsOf, no_regions, region}
use Rattle.ir_event.specs.trees.Tree.{RegionOf, empty, block, OpsOf, no_ops, next}
use Rattle.ir_event.specs.trees.Ids.{has_id, op_count}
use Rattle.ir_event.specs.trees.Limits.{depth, every, most_ops, most_next, op_fits}
use Rattle.ir_event.specs.trees.WellFormed.{ModuleOf}
use Rattle.ir_event.specs.tree_laws.Reads.{around}
use Rattle.ir_event.specs.tree_laws.Reasons.{unless, has_place, fits_around}
use Rattle.rewriter_machine.specs.Edits.{TestsOf, Make, edited_by}

-- regions with empty blocks
abbrev pub bare_region : {N T A : Type 0} → RegionOf N T A → RegionOf N T A
bare_region empty = empty
bare_region (block args os) = block args no_ops

abbrev pub bare_regions : {N T A : Type 0} → RegionsOf N T A → RegionsOf N T A
bare_regions no_regions = no_regions
bare_regions (region g rs) = region (bare_region g) (bare_regions rs)

-- an operation without the operations inside it
abbrev pub bare : {N T A : Type 0} → OpOf N T A → OpOf N T A
bare (op h rs) = op h (bare_regions rs)

-- the end of the block of region r of operation p
abbrev pub end_of : ℕ → ℕ → Place
end_of p r = record { parent = p; region = r; before = None }

-- the headers of an operation to be inserted at a place, and of those inside it, each with its place, in pre-order;
-- those inside are appended to their blocks
abbrev mutual
  pub headers : {N T A : Type 0} → Place → OpOf N T A → List (Place × OpOf N T A)
  headers place (op h rs) = (place, op h (bare_regions rs)) ∷ regions_headers h.id 0 rs

  pub regions_headers : {N T A : Type 0} → ℕ → ℕ → RegionsOf N T A → List (Place × OpOf N T A)
  regions_headers p r no_regions = []
  regions_headers p r (region g rs) = region_headers p r g ++ regions_headers p (r + 1) rs

  pub region_headers : {N T A : Type 0} → ℕ → ℕ → RegionOf N T A → List (Place × OpOf N T A)
  region_headers p r empty = []
  region_headers p r (block args os) = ops_headers p r os

  pub ops_headers : {N T A : Type 0} → ℕ → ℕ → OpsOf N T A → List (Place × OpOf N T A)
  ops_headers p r no_ops = []
  ops_headers p r (next o os) = headers (end_of p r) o ++ ops_headers p r os

-- a module with headers inserted one after another, each under the next free id
abbrev pub all_made : {N T A : Type 0} → TestsOf N T → List (Place × OpOf N T A) → ModuleOf N T A → ModuleOf N T A
all_made w [] m = m
all_made w (u ∷ us) m = all_made w us (edited_by w (Make u.0 u.1) m)

-- the reason against inserting an operation, with everything inside it, at a place, without a check of dominance, where
-- `free` is the next free id: the place's parent is missing; no such place; a count exceeds its limit; not enough ids
-- are left; too deep
abbrev pub insert_fault : {N T A : Type 0} → Place → OpOf N T A → ℕ → OpOf N T A → Option Refusal
insert_fault place o free t =
    unless (has_id place.parent t) NoSuchOp
    (unless (has_place place t) NoSuchIndex
    (unless (nat_le (op_count t + op_count o) most_ops) Full
    (unless (every op_fits o) Full
    (unless (nat_le (free + op_count o) most_next) IdsExhausted
    (unless (fits_around (depth o) (around place.parent t)) TooDeepHere None)))))
