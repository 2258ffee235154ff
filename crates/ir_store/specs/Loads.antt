-- A tree built operation by operation, each appended to its block.
use Rattle.std.specs.Prelude.{◌≡◌, ◌<◌, ℕ, ◌+◌, List, eqb, true, if◌then◌else◌, Option, None, Some}
use Rattle.std.specs.List.{list_any}
use Rattle.std.specs.FinMap as map
use Rattle.ir_store_reads.specs.trees.declared.place.Place.{Place}
use Rattle.ir_store_reads.specs.trees.Tree.{Op, Regions, no_regions, region, Region, empty, block, Ops, no_ops, next}
use Rattle.ir_store_reads.specs.trees.Ids.{ops_ids, regions_ids}
use Rattle.ir_store_reads.specs.trees.Places.{put}
use Rattle.ir_store_reads.specs.tree_laws.Restores.{MayPut}
use Rattle.ir_store_reads.specs.Stored.{Stored, Gone, none_gone}

-- the end of the block of a region
abbrev pub end_of : ℕ → ℕ → Place
end_of p r = record { parent = p; region = r; before = None }

-- operations, and regions of them, put at the ends of the blocks of operation p
abbrev pub put_ops : ℕ → ℕ → Ops → Op → Op
put_ops p r no_ops t = t
put_ops p r (next o os) t = put_ops p r os (put (end_of p r) o t)

abbrev pub put_region : ℕ → ℕ → Region → Op → Op
put_region p r empty t = t
put_region p r (block args os) t = put_ops p r os t

abbrev pub put_regions : ℕ → ℕ → Regions → Op → Op
put_regions p r no_regions t = t
put_regions p r (region g rs) t = put_regions p (r + 1) rs (put_region p r g t)

-- each operation may be inserted at its place
abbrev pub MayOps : ℕ → ℕ → Ops → Op → Type 0
MayOps p r no_ops t = Unit {0}
MayOps p r (next o os) t = MayPut (end_of p r) o t × MayOps p r os (put (end_of p r) o t)

abbrev pub MayRegion : ℕ → ℕ → Region → Op → Type 0
MayRegion p r empty t = Unit {0}
MayRegion p r (block args os) t = MayOps p r os t

abbrev pub MayRegions : ℕ → ℕ → Regions → Op → Type 0
MayRegions p r no_regions t = Unit {0}
MayRegions p r (region g rs) t = MayRegion p r g t × MayRegions p (r + 1) rs (put_region p r g t)

-- the removed keys of operation x, after the operations with these ids are added
abbrev pub gone_with : List ℕ → Stored → ℕ → Option Gone
gone_with xs s x = if list_any (λ y. eqb y x) xs then Some none_gone else map.get s.gone x

-- a store with another tree, after the operations with these ids are added
pub record Adds (t : Op) (xs : List ℕ) (s u : Stored) : Type 0 where
  pub module_of : u.module_of ≡ record { tree = t; next = s.module_of.next }
  pub held : u.held ≡ s.held
  pub gone : (x : ℕ) → map.get u.gone x ≡ gone_with xs s x

-- all of these ids are below a bound
abbrev pub AreBelow : ℕ → List ℕ → Type 0
AreBelow n xs = (x : ℕ) → list_any (λ y. eqb y x) xs ≡ true → x < n

-- the state before one step of the loop over the regions of an operation
pub record RegionsLeft (p n : ℕ) (rs : Regions) (goal : Op) (xs : List ℕ) (s u : Stored) : Type 0 where
  pub may : MayRegions p n rs u.module_of.tree
  pub whole : put_regions p n rs u.module_of.tree ≡ goal
  pub held : u.held ≡ map.empty
  pub next : u.module_of.next ≡ s.module_of.next
  pub below : AreBelow s.module_of.next (regions_ids rs)
  pub gone : (x : ℕ) → gone_with (regions_ids rs) u x ≡ gone_with xs s x

-- the state before one step of the loop over the operations of a block
pub record OpsLeft (p r : ℕ) (os : Ops) (goal : Op) (xs : List ℕ) (s u : Stored) : Type 0 where
  pub may : MayOps p r os u.module_of.tree
  pub whole : put_ops p r os u.module_of.tree ≡ goal
  pub held : u.held ≡ map.empty
  pub next : u.module_of.next ≡ s.module_of.next
  pub below : AreBelow s.module_of.next (ops_ids os)
  pub gone : (x : ℕ) → gone_with (ops_ids os) u x ≡ gone_with xs s x
