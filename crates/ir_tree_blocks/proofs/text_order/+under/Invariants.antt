use Rattle.std.proofs.Common.{◌≡◌, ◌++◌, map, drop}
use Rattle.ir_tree.specs.Meaning.{meaning}
use Rattle.ir_tree_blocks.specs.Flattening.{blocks_under}
use Rattle.ir_tree_blocks.specs.Inside.{inside_of}
use Rattle.ir_tree_blocks.specs.Read.{ops_meaning}
use Rattle.ir_tree_blocks.proofs.text_order.+under.Given as goal

abbrev pub invariant-push_region-loop-op : goal.invariant-push_region-loop-op
invariant-push_region-loop-op l =
    map (λ o. inside_of (meaning l.ctx o.now)) l.out.items ++ blocks_under (ops_meaning l.ctx (drop l.op-index l.op-items))
    ≡ map (λ o. inside_of (meaning l.ctx o.now)) l.initial.out.items ++ blocks_under (ops_meaning l.ctx l.op-items)
