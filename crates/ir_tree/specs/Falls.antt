-- Each operation inside another is smaller.
use Rattle.std.specs.Prelude.{◌+◌, ◌≤◌, List, [], ◌∷◌, map}
use Rattle.std.proofs.Common.{arith}
use denote.Param.Weighed.{most}
use Rattle.ir_tree.specs.Tree.{Op, op_size, regions_size, ops_size, regions_of, ops_of}
use Rattle.ir_tree.specs.View.{op_view, region_view}
use Rattle.ir_tree.specs.declared.tree.TreeOp.TheInside.{Inside}
use Rattle.ir_tree.specs.declared.tree.TreeRegion.{TreeRegion}
use Rattle.ir_tree.specs.declared.tree.TreeRegion.TheVariants.{Empty, Block}
use Rattle.ir_tree.specs.declared.tree.TreeOp.TheDeep.{deep-TreeOp, deep-TreeRegion}

ops_fall : (os : List Op) → most (λ o. op_size o + 1) os ≤ ops_size (ops_of os) + 1
ops_fall [] = omega arith
ops_fall (o ∷ os) = omega (arith, ops_fall os)

regions_fall : (rs : List TreeRegion) → most deep-TreeRegion rs ≤ regions_size (regions_of (map region_view rs)) + 1
regions_fall [] = omega arith
regions_fall (Empty ∷ rs) = omega (arith, regions_fall rs)
regions_fall (Block args os ∷ rs) = omega (arith, regions_fall rs, ops_fall os.items)

pub op_falls : (a : Inside) → deep-TreeOp a ≤ op_size (op_view a)
op_falls a = omega (arith, regions_fall a.regions.items)
