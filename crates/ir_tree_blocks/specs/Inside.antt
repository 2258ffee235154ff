-- The blocks of scopes, as code lists them.
use Rattle.std.specs.Prelude.{List, []}
use Rattle.ir_tree.specs.types.Terms.{TypeTerm}
use Rattle.ir_tree.specs.Tree.{no_regions, region, empty, block, no_ops, head, regions}
use Rattle.ir_tree.specs.Meaning.{Operation}
use Rattle.ir_tree_blocks.specs.Flat.{FlatBlock}
use Rattle.ir_tree_blocks.specs.Scopes.{label_of}
use Rattle.ir_tree_blocks.specs.Nesting.{Ops, Region, Regions}
use Rattle.ir_tree_blocks.specs.Flattening.{blocks_under, flatten_own}

-- the arguments and the operations of the block of the first region; none if there is no such block
abbrev pub first_args : Regions → List TypeTerm
first_args no_regions = []
first_args (region empty rs) = []
first_args (region (block args os) rs) = args

abbrev pub first_ops : Regions → Ops
first_ops no_regions = no_ops
first_ops (region empty rs) = no_ops
first_ops (region (block args os) rs) = os

-- the block of a scope
abbrev pub inside_of : Operation → FlatBlock
inside_of o = record { id = (head o).id; label = label_of (head o); args = first_args (regions o); ops = flatten_own (first_ops (regions o)) }

-- the blocks of the scopes in a region, and of those inside them
abbrev pub under_region : Region → List FlatBlock
under_region empty = []
under_region (block args os) = blocks_under os
