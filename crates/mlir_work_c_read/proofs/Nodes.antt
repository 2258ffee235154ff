-- What the node of an operation says of it.
use Rattle.std.proofs.Common.{◌≡◌, ◌∙◌, refl, ap, ℕ, zero, suc, List, [], length, Option, Some, None, arith}
use Rattle.std.specs.Prelude.{option_map, option_and_then, slice_get}
use Rattle.ir_event.specs.trees.Tree.{Op, op, Regions, no_regions, region, region_count}
use Rattle.ir_event.specs.trees.Ids.{find}
use Rattle.ir_event.specs.tree_laws.Values.{arguments_of, arguments_at, region_at}
use Rattle.ir_event.specs.store.Nodes.{Node, node_of, regions_arguments}
use Rattle.mlir_work_c_read.specs.Bulk.{head_in, operands_in}
use Rattle.mlir_work_c_read.specs.Operations.{argument_count, counts, node_counts}

counted : (rs : Regions) → length (regions_arguments rs) ≡ region_count rs
counted no_regions = refl
counted (region g rs) = let e = counted rs in omega arith

at_place : (r : ℕ) (rs : Regions) → option_and_then (λ a. a) (slice_get (regions_arguments rs) r) ≡ option_and_then arguments_of (region_at r rs)
at_place zero no_regions = refl
at_place (suc r) no_regions = refl
at_place zero (region g rs) = refl
at_place (suc r) (region g rs) = at_place r rs

-- the counts of an operation's node are its counts
node_counts_are : (o : Op) → node_counts (node_of o) ≡ counts o
node_counts_are (op h gs) = λ j. record { operands = length h.operands; results = length h.results; properties = length h.properties; attributes = length h.attributes; regions = counted gs j }

module _ (n : Node) where
  pub counts_are : (f : Option Op) → Some n ≡ option_map node_of f → Some (node_counts n) ≡ option_map counts f
  counts_are None h = absurd cc
  counts_are (Some o) h = let one : n ≡ node_of o = cc in ap Some (ap node_counts one ∙ node_counts_are o)

  pub head_is : (f : Option Op) → Some n ≡ option_map node_of f → record { name = n.head.name; counts = node_counts n } ≡ head_in f
  head_is None h = absurd cc
  head_is (Some (op h gs)) e =
      let one : n ≡ node_of (op h gs) = cc in
      let same = ap node_counts one ∙ node_counts_are (op h gs) in
      λ j. record { name = (one j).head.name; counts = same j }

  pub operands_are : (f : Option Op) → Some n ≡ option_map node_of f → n.head.operands ≡ operands_in f
  operands_are None h = absurd cc
  operands_are (Some (op h gs)) e = let one : n ≡ node_of (op h gs) = cc in ap (λ (m : Node). m.head.operands) one

  pub arguments_are : (x : ℕ) (t : Op) (r : ℕ) (got : Option (List ℕ)) → Some n ≡ option_map node_of (find x t) → got ≡ option_and_then (λ a. a) (slice_get n.arguments r) → option_map length got ≡ argument_count x r t
  arguments_are x t r got e g = go (find x t) e
    where
      go : (f : Option Op) → Some n ≡ option_map node_of f → option_map length got ≡ option_map length (option_and_then (arguments_at r) f)
      go None h = absurd cc
      go (Some (op h gs)) i =
          let one : n ≡ node_of (op h gs) = cc in
          ap (option_map length) (g ∙ ap (λ (m : Node). option_and_then (λ a. a) (slice_get m.arguments r)) one ∙ at_place r gs)

-- no node, no operation
pub head_none : (f : Option Op) → None ≡ option_map node_of f → head_in None ≡ head_in f
head_none None h = refl
head_none (Some o) h = absurd cc

pub operands_none : (f : Option Op) → None ≡ option_map node_of f → operands_in f ≡ []
operands_none None h = refl
operands_none (Some o) h = absurd cc
