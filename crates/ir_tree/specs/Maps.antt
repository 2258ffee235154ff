-- Trees of the same shape, with names, types and attributes changed.
use Rattle.std.specs.Prelude.{map}
use Rattle.ir_tree.specs.Tree.{HeadOf, OpOf, op, RegionsOf, no_regions, region, RegionOf, empty, block, OpsOf, no_ops, next}

-- an entry of a dictionary, with f applied to its key and h to its attribute
abbrev pub map_entry : {N A M B : Type 0} → (N → M) → (A → B) → N × A → M × B
map_entry f h e = (f e.0, h e.1)

-- a head, with f applied to its name and keys, g to its types and h to its attributes
abbrev pub map_head : {N T A M U B : Type 0} → (N → M) → (T → U) → (A → B) → HeadOf N T A → HeadOf M U B
map_head f g h x =
    record { id = x.id; name = f x.name; operands = x.operands; results = map g x.results; properties = map (map_entry f h) x.properties; attributes = map (map_entry f h) x.attributes }

-- a tree, with f applied to each name and key, g to each type and h to each attribute
abbrev mutual
  pub map_tree : {N T A M U B : Type 0} → (N → M) → (T → U) → (A → B) → OpOf N T A → OpOf M U B
  map_tree f g h (op x rs) = op (map_head f g h x) (map_regions f g h rs)

  pub map_regions : {N T A M U B : Type 0} → (N → M) → (T → U) → (A → B) → RegionsOf N T A → RegionsOf M U B
  map_regions f g h no_regions = no_regions
  map_regions f g h (region r rs) = region (map_region f g h r) (map_regions f g h rs)

  pub map_region : {N T A M U B : Type 0} → (N → M) → (T → U) → (A → B) → RegionOf N T A → RegionOf M U B
  map_region f g h empty = empty
  map_region f g h (block args os) = block (map g args) (map_ops f g h os)

  pub map_ops : {N T A M U B : Type 0} → (N → M) → (T → U) → (A → B) → OpsOf N T A → OpsOf M U B
  map_ops f g h no_ops = no_ops
  map_ops f g h (next o os) = next (map_tree f g h o) (map_ops f g h os)
