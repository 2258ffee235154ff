-- What the node of an operation says of its blocks.
use Rattle.std.proofs.Common.{◌≡◌, ◌∙◌, ap, refl, ℕ, zero, suc, false, Option, Some, None}
use Rattle.std.specs.Prelude.{is_some, option_map, option_and_then, slice_get}
use Rattle.ir_event.specs.trees.Tree.{Op, op, Regions, no_regions, region, empty, block, regions}
use Rattle.ir_event.specs.tree_laws.Values.{region_at}
use Rattle.ir_event.specs.tree_laws.Reads.{ops_in}
use Rattle.ir_event.specs.store.Nodes.{Node, node_of, regions_arguments}

blocks_are : (r : ℕ) (rs : Regions) → is_some (option_and_then (λ a. a) (slice_get (regions_arguments rs) r)) ≡ is_some (option_and_then ops_in (region_at r rs))
blocks_are r no_regions = refl
blocks_are zero (region empty rs) = refl
blocks_are zero (region (block args os) rs) = refl
blocks_are (suc r) (region a rs) = blocks_are r rs

module _ (r : ℕ) where
  pub block_is : (n : Node) (f : Option Op) → Some n ≡ option_map node_of f → is_some (option_and_then (λ a. a) (slice_get n.arguments r)) ≡ is_some (option_and_then (λ (o : Op). option_and_then ops_in (region_at r (regions o))) f)
  block_is n None e = absurd cc
  block_is n (Some (op h rs)) e =
      let same : n ≡ node_of (op h rs) = cc in
      ap (λ (m : Node). is_some (option_and_then (λ a. a) (slice_get m.arguments r))) same ∙ blocks_are r rs

  pub no_block : (f : Option Op) → None ≡ option_map node_of f → false ≡ is_some (option_and_then (λ (o : Op). option_and_then ops_in (region_at r (regions o))) f)
  no_block None e = refl
  no_block (Some o) e = absurd cc
