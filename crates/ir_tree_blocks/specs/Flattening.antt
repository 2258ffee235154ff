-- Flat trees from nested trees: the scopes of a region become its further blocks, in the order of their labels.
use Rattle.std.specs.Prelude.{List, [], ◌∷◌, ◌++◌, nat_le, if◌then◌else◌}
use Rattle.ir_tree.specs.Tree.{op, no_regions, region, empty, block, no_ops, next, head}
use Rattle.ir_tree.specs.Meaning.{Operation}
use Rattle.ir_tree_blocks.specs.Flat.{Head, FlatOp, flat_op, FlatRegions, no_flat_regions, flat_region, FlatRegion, flat_empty, flat_blocks, FlatOps, no_flat_ops, next_op, FlatBlock, blocks_of}
use Rattle.ir_tree_blocks.specs.Scopes.{is_scope, label_of, successors_of, without_successors}
use Rattle.ir_tree_blocks.specs.Nesting.{Regions, Region, Ops}

-- blocks in rising order of their labels
abbrev pub insert_block : FlatBlock → List FlatBlock → List FlatBlock
insert_block b [] = b ∷ []
insert_block b (c ∷ cs) = if nat_le b.label c.label then b ∷ c ∷ cs else c ∷ insert_block b cs

abbrev pub sorted_blocks : List FlatBlock → List FlatBlock
sorted_blocks [] = []
sorted_blocks (b ∷ bs) = insert_block b (sorted_blocks bs)

abbrev mutual
  -- the flat tree of a nested tree
  pub flatten : Operation → FlatOp
  flatten (op h rs) = flat_op (without_successors h) (successors_of h) (flatten_regions rs)

  pub flatten_regions : Regions → FlatRegions
  flatten_regions no_regions = no_flat_regions
  flatten_regions (region g rs) = flat_region (flatten_region g) (flatten_regions rs)

  -- a region: the entry has the operations that aren't scopes, and the further blocks are those of the scopes
  pub flatten_region : Region → FlatRegion
  flatten_region empty = flat_empty
  flatten_region (block args os) = flat_blocks args (flatten_own os) (blocks_of (sorted_blocks (blocks_under os)))

  -- the operations of a block that aren't scopes
  pub flatten_own : Ops → FlatOps
  flatten_own no_ops = no_flat_ops
  flatten_own (next o os) = if is_scope (head o) then flatten_own os else next_op (flatten o) (flatten_own os)

  -- the blocks of the scopes of a block, and of the scopes inside them
  pub blocks_under : Ops → List FlatBlock
  blocks_under no_ops = []
  blocks_under (next o os) = (if is_scope (head o) then blocks_in o else []) ++ blocks_under os

  -- the block of a scope, and the blocks under it
  pub blocks_in : Operation → List FlatBlock
  blocks_in (op h rs) = blocks_in_regions h rs

  pub blocks_in_regions : Head → Regions → List FlatBlock
  blocks_in_regions h no_regions = []
  blocks_in_regions h (region g rs) = blocks_in_region h g

  pub blocks_in_region : Head → Region → List FlatBlock
  blocks_in_region h empty = []
  blocks_in_region h (block args os) = record { id = h.id; label = label_of h; args = args; ops = flatten_own os } ∷ blocks_under os
