-- The blocks that code lists, as the definitions have them.
use Rattle.std.specs.Prelude.{map}
use Rattle.ir_tree_blocks.specs.declared.placement.Placed.{Placed}
use Rattle.ir_tree_blocks.specs.Form.{PlacedBlock}

abbrev pub placed_view : Placed → PlacedBlock
placed_view b = record { label = b.label; around = b.around.items; unreachable = b.unreachable; names = b.names.items }
