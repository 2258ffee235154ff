-- The meanings of parts of trees whose names, types and attributes are ids of a context.
use Rattle.std.specs.Prelude.{List, map}
use Rattle.ir_tree.specs.types.Things.{ContextModel}
use Rattle.ir_tree.specs.types.Terms.{name_term, type_term, attr_term}
use Rattle.ir_tree.specs.Tree.{Op, ops_of, regions_of}
use Rattle.ir_tree.specs.Maps.{map_ops, map_region, map_regions}
use Rattle.ir_tree.specs.View.{region_view}
use Rattle.ir_tree.specs.declared.tree.TreeRegion.{TreeRegion}
use Rattle.ir_tree_blocks.specs.Nesting.{Ops, Region, Regions}

abbrev pub ops_meaning : ContextModel → List Op → Ops
ops_meaning c os = map_ops (name_term c) (type_term c) (attr_term c) (ops_of os)

abbrev pub region_meaning : ContextModel → TreeRegion → Region
region_meaning c g = map_region (name_term c) (type_term c) (attr_term c) (region_view g)

abbrev pub regions_meaning : ContextModel → List TreeRegion → Regions
regions_meaning c gs = map_regions (name_term c) (type_term c) (attr_term c) (regions_of (map region_view gs))
