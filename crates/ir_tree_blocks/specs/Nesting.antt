-- Nested trees from flat trees: each further block of a region becomes a scope.
use Rattle.std.specs.Prelude.{◌≡◌, ℕ, ◌+◌, List, [], ◌∷◌, ◌++◌, eqb, nat_le, Bool, true, false, ◌&&◌, not, if◌then◌else◌}
use Rattle.std.specs.List.{list_any}
use Rattle.ir_tree.specs.types.Terms.{TypeTerm, AttrTerm}
use Rattle.ir_tree.specs.Tree.{op, RegionsOf, no_regions, region, RegionOf, empty, block, OpsOf, no_ops, next}
use Rattle.ir_tree.specs.Meaning.{Operation}
use Rattle.ir_tree_blocks.specs.Flat.{FlatOp, flat_op, FlatRegions, no_flat_regions, flat_region, FlatRegion, flat_empty, flat_blocks, FlatBlocks, no_blocks, next_block, FlatOps, no_flat_ops, next_op, block_labels, flat_head, flat_regions_of, EachOp}
use Rattle.ir_tree_blocks.specs.Scopes.{is_scope, has_successors_key, with_successors, scope_head}

-- the parts of nested trees
abbrev pub Regions : Type 0
Regions = RegionsOf (List ℕ) TypeTerm AttrTerm

abbrev pub Region : Type 0
Region = RegionOf (List ℕ) TypeTerm AttrTerm

abbrev pub Ops : Type 0
Ops = OpsOf (List ℕ) TypeTerm AttrTerm

-- where the scopes of a region go: a tree whose nodes are the region's blocks, and whose root is the entry. Below a
-- block, `scope l u inside after` is the scope of the block with label l, whether it is marked as unreachable, what is
-- below that block, and the other scopes of the same block
pub data Layout : Type 0 where
  no_scopes : Layout
  scope : ℕ → Bool → Layout → Layout → Layout

-- the labels of a layout
abbrev pub layout_labels : Layout → List ℕ
layout_labels no_scopes = []
layout_labels (scope l u inside after) = l ∷ (layout_labels inside ++ layout_labels after)

-- p maps the label of each block to the label of the block that its scope is in
abbrev pub IsParentIn : (ℕ → ℕ) → ℕ → Layout → Type 0
IsParentIn p v no_scopes = Unit {0}
IsParentIn p v (scope l u inside after) = (p l ≡ v) × IsParentIn p l inside × IsParentIn p v after

-- numbers in rising order
abbrev pub insert_number : ℕ → List ℕ → List ℕ
insert_number n [] = n ∷ []
insert_number n (m ∷ ms) = if nat_le n m then n ∷ m ∷ ms else m ∷ insert_number n ms

abbrev pub sorted_numbers : List ℕ → List ℕ
sorted_numbers [] = []
sorted_numbers (n ∷ ns) = insert_number n (sorted_numbers ns)

-- whether no number occurs twice
abbrev pub all_differ : List ℕ → Bool
all_differ [] = true
all_differ (n ∷ ns) = not (list_any (eqb n) ns) && all_differ ns

-- a layout has each further block of a region once, and the blocks of the region are in rising order
pub record IsLayoutOf (bs : FlatBlocks) (f : Layout) : Type 0 where
  pub each_once : sorted_numbers (layout_labels f) ≡ block_labels bs
  pub labels_differ : all_differ (block_labels bs) ≡ true

-- a list of operations, followed by another one
abbrev pub followed_by : Ops → Ops → Ops
followed_by no_ops tail = tail
followed_by (next o os) tail = next o (followed_by os tail)

-- a further block whose operations are nested
pub record NestedBlock : Type 0 where
  pub id : ℕ
  pub label : ℕ
  pub args : List TypeTerm
  pub ops : Ops

-- the block with a label; one without operations if there is none
abbrev pub nested_at : List NestedBlock → ℕ → NestedBlock
nested_at [] l = record { id = 0; label = l; args = []; ops = no_ops }
nested_at (b ∷ bs) l = if eqb b.label l then b else nested_at bs l

-- the scope of a block: its operations, followed by the scopes inside it
abbrev pub scope_of : NestedBlock → Bool → Ops → Operation
scope_of b u inside = op (scope_head b.id b.label u) (region (block b.args (followed_by b.ops inside)) no_regions)

-- the scopes of a layout
abbrev pub scopes_of : List NestedBlock → Layout → Ops
scopes_of bs no_scopes = no_ops
scopes_of bs (scope l u inside after) = next (scope_of (nested_at bs l) u (scopes_of bs inside)) (scopes_of bs after)

-- the nested tree of a flat tree, if the scopes of region r of operation x go where the layout f x r says
abbrev mutual
  pub nest : (ℕ → ℕ → Layout) → FlatOp → Operation
  nest f (flat_op h ss rs) = op (with_successors h ss) (nest_regions f h.id 0 rs)

  pub nest_regions : (ℕ → ℕ → Layout) → ℕ → ℕ → FlatRegions → Regions
  nest_regions f x r no_flat_regions = no_regions
  nest_regions f x r (flat_region g rs) = region (nest_region f x r g) (nest_regions f x (r + 1) rs)

  pub nest_region : (ℕ → ℕ → Layout) → ℕ → ℕ → FlatRegion → Region
  nest_region f x r flat_empty = empty
  nest_region f x r (flat_blocks args os bs) = block args (followed_by (nest_ops f os) (scopes_of (nest_blocks f bs) (f x r)))

  pub nest_blocks : (ℕ → ℕ → Layout) → FlatBlocks → List NestedBlock
  nest_blocks f no_blocks = []
  nest_blocks f (next_block x l args os bs) = record { id = x; label = l; args = args; ops = nest_ops f os } ∷ nest_blocks f bs

  pub nest_ops : (ℕ → ℕ → Layout) → FlatOps → Ops
  nest_ops f no_flat_ops = no_ops
  nest_ops f (next_op o os) = next (nest f o) (nest_ops f os)

-- a layout has the further blocks of a region
abbrev pub IsRegionLayout : Layout → FlatRegion → Type 0
IsRegionLayout f flat_empty = Unit {0}
IsRegionLayout f (flat_blocks args os bs) = IsLayoutOf bs f

-- the layouts of the regions of operation x have their blocks, from region r on
abbrev pub AreLayouts : (ℕ → ℕ → Layout) → ℕ → ℕ → FlatRegions → Type 0
AreLayouts f x r no_flat_regions = Unit {0}
AreLayouts f x r (flat_region g rs) = IsRegionLayout (f x r) g × AreLayouts f x (r + 1) rs

-- an operation can be nested: it is no scope, it has no attribute for successors, and its regions have layouts
pub record CanNestOp (f : ℕ → ℕ → Layout) (o : FlatOp) : Type 0 where
  pub no_scope : is_scope (flat_head o) ≡ false
  pub no_key : has_successors_key (flat_head o) ≡ false
  pub layouts : AreLayouts f (flat_head o).id 0 (flat_regions_of o)

-- each operation of a flat tree can be nested
abbrev pub CanNest : (ℕ → ℕ → Layout) → FlatOp → Type 0
CanNest f t = EachOp (CanNestOp f) t
