-- Flat trees: trees whose regions are lists of blocks, and whose operations have successors, as in MLIR.
use Rattle.std.specs.Prelude.{ℕ, List, [], ◌∷◌, length, map}
use Rattle.ir_tree.specs.types.Terms.{TypeTerm, AttrTerm}
use Rattle.ir_tree.specs.Tree.{HeadOf}
use Rattle.ir_tree.specs.Sites.{Frame, results}

-- everything of an operation except its successors and its regions
abbrev pub Head : Type 0
Head = HeadOf (List ℕ) TypeTerm AttrTerm

-- an operation is its head, the labels of its successors, and its regions
mutual
  pub data FlatOp : Type 0 where
    flat_op : Head → List ℕ → FlatRegions → FlatOp

  -- the regions of an operation, in order
  pub data FlatRegions : Type 0 where
    no_flat_regions : FlatRegions
    flat_region : FlatRegion → FlatRegions → FlatRegions

  -- a region has no block, or an entry block of arguments and operations, and further blocks; the entry has label 0
  pub data FlatRegion : Type 0 where
    flat_empty : FlatRegion
    flat_blocks : List TypeTerm → FlatOps → FlatBlocks → FlatRegion

  -- further blocks in order, each with its id, its label, its arguments and its operations
  pub data FlatBlocks : Type 0 where
    no_blocks : FlatBlocks
    next_block : ℕ → ℕ → List TypeTerm → FlatOps → FlatBlocks → FlatBlocks

  -- the operations of a block, in order
  pub data FlatOps : Type 0 where
    no_flat_ops : FlatOps
    next_op : FlatOp → FlatOps → FlatOps

-- a further block of a region; `Arg id 0 k` is its argument k
pub record FlatBlock : Type 0 where
  pub id : ℕ
  pub label : ℕ
  pub args : List TypeTerm
  pub ops : FlatOps

-- further blocks from a list, and as a list
abbrev pub blocks_of : List FlatBlock → FlatBlocks
blocks_of [] = no_blocks
blocks_of (b ∷ bs) = next_block b.id b.label b.args b.ops (blocks_of bs)

abbrev pub block_list : FlatBlocks → List FlatBlock
block_list no_blocks = []
block_list (next_block x l args os bs) = record { id = x; label = l; args = args; ops = os } ∷ block_list bs

-- the labels of further blocks
abbrev pub block_labels : FlatBlocks → List ℕ
block_labels bs = map (λ b. b.label) (block_list bs)

-- the head and the regions of an operation
abbrev pub flat_head : FlatOp → Head
flat_head (flat_op h ss rs) = h

abbrev pub flat_regions_of : FlatOp → FlatRegions
flat_regions_of (flat_op h ss rs) = rs

-- the frame of an operation's results
abbrev pub flat_results : FlatOp → Frame
flat_results (flat_op h ss rs) = results h.id (length h.results)

-- a test of each operation of a tree
abbrev mutual
  pub EachOp : (FlatOp → Type 0) → FlatOp → Type 0
  EachOp P (flat_op h ss rs) = P (flat_op h ss rs) × EachInRegions P rs

  pub EachInRegions : (FlatOp → Type 0) → FlatRegions → Type 0
  EachInRegions P no_flat_regions = Unit {0}
  EachInRegions P (flat_region g rs) = EachInRegion P g × EachInRegions P rs

  pub EachInRegion : (FlatOp → Type 0) → FlatRegion → Type 0
  EachInRegion P flat_empty = Unit {0}
  EachInRegion P (flat_blocks args os bs) = EachInOps P os × EachInBlocks P bs

  pub EachInBlocks : (FlatOp → Type 0) → FlatBlocks → Type 0
  EachInBlocks P no_blocks = Unit {0}
  EachInBlocks P (next_block x l args os bs) = EachInOps P os × EachInBlocks P bs

  pub EachInOps : (FlatOp → Type 0) → FlatOps → Type 0
  EachInOps P no_flat_ops = Unit {0}
  EachInOps P (next_op o os) = EachOp P o × EachInOps P os
