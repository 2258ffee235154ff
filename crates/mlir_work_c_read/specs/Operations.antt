-- Reads of the operations of a module.
use Rattle.std.specs.Prelude.{◌≡◌, ℕ, List, length, Option, option_map, option_and_then, Result, Ok, Err}
use Rattle.ir_event.specs.types.declared.refusal.Refusal.{Refusal}
use Rattle.ir_event.specs.types.declared.refusal.Refusal.TheVariants.{Memory}
use Rattle.ir_event.specs.trees.Tree.{Op, head, regions, region_count}
use Rattle.ir_event.specs.trees.Ids.{find, ids}
use Rattle.ir_event.specs.trees.Places.{place_of}
use Rattle.ir_event.specs.tree_laws.Values.{arguments_at}
use Rattle.ir_event.specs.store.Nodes.{Node}
use Rattle.ir_event.specs.declared.world.World.{World}
use Rattle.mlir_work_c_read.specs.declared.numbers.Counts.{Counts}
use Rattle.mlir_work_c_read.specs.Filled.{over}

-- the module of an IR state, by the numbers of its context
abbrev pub tree_in : World → Op
tree_in w = w.store.module_of.tree

-- the name of operation x
abbrev pub name_of : ℕ → Op → Option ℕ
name_of x t = option_map (λ o. (head o).name) (find x t)

-- the counts of an operation
abbrev pub counts : Op → Counts
counts o = record {
  operands = length (head o).operands;
  results = length (head o).results;
  properties = length (head o).properties;
  attributes = length (head o).attributes;
  regions = region_count (regions o);
}

-- the counts of a node, which is an operation without the operations in its blocks
abbrev pub node_counts : Node → Counts
node_counts n = record {
  operands = length n.head.operands;
  results = length n.head.results;
  properties = length n.head.properties;
  attributes = length n.head.attributes;
  regions = length n.arguments;
}

-- the counts of operation x
abbrev pub counts_of : ℕ → Op → Option Counts
counts_of x t = option_map counts (find x t)

-- the number of arguments of the block of region r of operation x
abbrev pub argument_count : ℕ → ℕ → Op → Option ℕ
argument_count x r t = option_map length (option_and_then (arguments_at r) (find x t))

-- the region of its parent in which operation x is
abbrev pub region_of : ℕ → Op → Option ℕ
region_of x t = option_map (λ p. p.region) (place_of x t)

-- the operations are written in pre-order, and their number is returned; or memory ran out and nothing is written
abbrev pub WritesAll : World → List ℕ → List ℕ → Result ℕ Refusal → Type 0
WritesAll w old new (Ok count) = (count ≡ length (ids (tree_in w))) × (new ≡ over (ids (tree_in w)) old)
WritesAll w old new (Err refusal) = (refusal ≡ Memory) × (new ≡ old)
