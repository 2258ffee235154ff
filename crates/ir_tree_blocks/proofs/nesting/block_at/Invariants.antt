use Rattle.std.proofs.Common.{◌≡◌, map, drop}
use Rattle.ir_types.specs.Things.{ContextModel}
use Rattle.ir_tree_blocks.specs.Nesting.{nested_at}
use Rattle.ir_tree_blocks.specs.Nested.{nested_view}
use Rattle.ir_tree_blocks.proofs.nesting.block_at.Given as goal

abbrev pub invariant-loop-block : goal.invariant-loop-block
invariant-loop-block l = (c : ContextModel) → nested_at (map (nested_view c) l.block-items) l.label ≡ nested_at (map (nested_view c) (drop l.block-index l.block-items)) l.label
