-- The tree that a `TreeOp` represents.
use Rattle.std.specs.Prelude.{map}
use Rattle.ir_tree.specs.Tree.{Head, Op, op, Region, empty, block, regions_of, ops_of}
use Rattle.ir_tree.specs.declared.tree.TreeRegion.{TreeRegion}
use Rattle.ir_tree.specs.declared.tree.TreeRegion.TheVariants.{Empty, Block}
use Rattle.ir_tree.specs.declared.tree.TreeOp.TheInside.{Inside}

-- the region that a `TreeRegion` represents
abbrev pub region_view : TreeRegion → Region
region_view Empty = empty
region_view (Block args ops) = block args.items (ops_of ops.items)

-- the head of a `TreeOp`
abbrev pub head_view : Inside → Head
head_view a = record { id = a.id; name = a.name; operands = a.operands.items; results = a.results.items; properties = a.props.items; attributes = a.attrs.items }

-- the operation that a `TreeOp` represents
abbrev pub op_view : Inside → Op
op_view a = op (head_view a) (regions_of (map region_view a.regions.items))
