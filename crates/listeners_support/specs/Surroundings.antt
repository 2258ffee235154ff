-- The context of an operation.
use Rattle.std.specs.Prelude.{ℕ, List, [], ◌∷◌, map, Option, Some, None, option_map, option_and_then}
use Rattle.ir_event.specs.trees.Tree.{OpOf, RegionsOf, no_regions, region, OpsOf, no_ops, next, head, regions}
use Rattle.ir_event.specs.trees.Ids.{first_of}
use Rattle.ir_event.specs.store.Nodes.{NodeOf, node_of}
use Rattle.ir_event.specs.tree_laws.Values.{type_of_value}
use Rattle.ir_event.specs.tree_laws.Stands.{StepOf, OpWithPathOf, op_with_path}
use Rattle.ir_event.specs.tree_laws.Reads.{ops_in}

-- the part of a context about the parent: its name and, if the operation is the last of its block, the parent without
-- the operations in its blocks
pub record OuterOf (N T A : Type 0) : Type 0 where
  pub name : N
  pub ended : Option (NodeOf N T A)

-- the context of an operation: the operation without the operations in its blocks, the name of the last operation in
-- each region's block, the types of its operands, and the part about its parent
pub record SurroundingsOf (N T A : Type 0) : Type 0 where
  pub node : NodeOf N T A
  pub lasts : List (Option N)
  pub types : List (Option T)
  pub outer : Option (OuterOf N T A)

-- the name of the last operation of a list
abbrev pub last_name : {N T A : Type 0} → OpsOf N T A → Option N
last_name no_ops = None
last_name (next o os) = first_of (last_name os) (Some (head o).name)

-- the name of the last operation in each region's block
abbrev pub last_names : {N T A : Type 0} → RegionsOf N T A → List (Option N)
last_names no_regions = []
last_names (region g rs) = option_and_then last_name (ops_in g) ∷ last_names rs

-- the operation whose block ends, if no operations follow in the block
abbrev pub ended_by : {N T A : Type 0} → OpOf N T A → OpsOf N T A → Option (NodeOf N T A)
ended_by p no_ops = Some (node_of p)
ended_by p (next o os) = None

-- the part about the parent, at the end of a path
abbrev pub outer_of : {N T A : Type 0} → List (StepOf N T A) → Option (OuterOf N T A)
outer_of [] = None
outer_of (a ∷ path) = Some (record { name = (head a.parent).name; ended = ended_by a.parent a.rest })

-- the context of an operation at its position in the tree
abbrev pub surround : {N T A : Type 0} → OpOf N T A → OpWithPathOf N T A → SurroundingsOf N T A
surround t s = record {
  node = node_of s.here;
  lasts = last_names (regions s.here);
  types = map (λ v. type_of_value v t) (head s.here).operands;
  outer = outer_of s.path;
}

-- the context of operation x of a tree, if it is there
abbrev pub surroundings : {N T A : Type 0} → ℕ → OpOf N T A → Option (SurroundingsOf N T A)
surroundings x t = option_map (surround t) (op_with_path x t)
