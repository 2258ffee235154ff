-- The node that the store shows for an operation, with interned numbers and with terms.
use Rattle.std.proofs.Common.{◌≡◌, refl, ap, sym, ◌∙◌, subst, ℕ, ◌≤◌, Bool, true, ◌&&◌, length, Option, Some, None, option_map, arith, leb-true}
use Rattle.std.specs.Prelude.{nat_le}
use Rattle.ir_event.specs.types.Things.{ContextModel}
use Rattle.ir_event.specs.types.Terms.{name_term, type_term, attr_term}
use Rattle.ir_event.specs.trees.Tree.{Op, op, RegionsOf, no_regions, region, region_count}
use Rattle.ir_event.specs.trees.Ids.{find}
use Rattle.ir_event.specs.trees.Limits.{most_items, most_regions, items_fit, head_fits, all_arguments_pass, op_fits}
use Rattle.ir_event.specs.trees.Meaning.{meaning}
use Rattle.ir_event.specs.trees.WellFormed.{IsValidTree}
use Rattle.ir_event.proofs.of_trees.Mapped.{map_find}
use Rattle.ir_event.proofs.of_tree_laws.Wellformed.{from_wellformed}
use Rattle.ir_event.proofs.of_tree_laws.Listed.{both}
use Rattle.ir_event.proofs.of_tree_laws.Members.{found_stands}
use Rattle.ir_event.specs.store.Nodes.{Node, node_of, regions_arguments}
use Rattle.ir_event.specs.Modules.{node_meaning}
use Rattle.ir_event.proofs.Nodes.{node_shown}

-- the meaning of the shown node
pub meant : (c : ContextModel) (x : ℕ) (t : Op) → option_map node_of (find x (meaning c t)) ≡ option_map (node_meaning c) (option_map node_of (find x t))
meant c x t = ap (option_map node_of) (map_find (name_term c) (type_term c) (attr_term c) x t) ∙ go (find x t)
  where
    go : (o : Option Op) → option_map node_of (option_map (meaning c) o) ≡ option_map (node_meaning c) (option_map node_of o)
    go None = refl
    go (Some o) = ap Some (node_shown c o)

-- its counts are within the limits
pub record Found (x : ℕ) (t : Op) (n : Node) : Type 0 where
  pub here : Op
  pub is : find x t ≡ Some here
  pub same : n ≡ node_of here

pub found : (x : ℕ) (t : Op) (n : Node) → Some n ≡ option_map node_of (find x t) → Found x t n
found x t n e = go (find x t) refl e
  where
    go : (o : Option Op) → find x t ≡ o → Some n ≡ option_map node_of o → Found x t n
    go None f e = absurd cc
    go (Some o) f e = record { here = o; is = f; same = (let one : n ≡ node_of o = cc in one) }

regions_counted : (rs : RegionsOf ℕ ℕ ℕ) → length (regions_arguments rs) ≡ region_count rs
regions_counted no_regions = refl
regions_counted (region g rs) = (let e = regions_counted rs in omega (arith, e))

few : (o : Op) → op_fits o ≡ true → (length (node_of o).arguments ≤ 16) × (length (node_of o).head.results ≤ 256)
few (op h rs) e =
    let own = both (head_fits h) (nat_le (region_count rs) most_regions && all_arguments_pass items_fit rs) e in
    let regions = leb-true (region_count rs) most_regions (both (nat_le (region_count rs) most_regions) (all_arguments_pass items_fit rs) own.1).0 in
    let count = regions_counted rs in
    let rest = (both (items_fit h.operands) (items_fit h.results && (items_fit h.properties && items_fit h.attributes)) own.0).1 in
    let results = leb-true (length h.results) most_items (both (items_fit h.results) (items_fit h.properties && items_fit h.attributes) rest).0 in
    (omega (arith, regions, count), results)

pub few_shown : (isolated : ℕ → Bool) (x : ℕ) (t : Op) → IsValidTree isolated t → (n : Node) → Some n ≡ option_map node_of (find x t) → (length n.arguments ≤ 16) × (length n.head.results ≤ 256)
few_shown isolated x t wellformed n e =
    let w = found x t n e in
    let s = found_stands x t w.here w.is in
    subst (λ (m : Node). (length m.arguments ≤ 16) × (length m.head.results ≤ 256)) (sym w.same) (few w.here (ap op_fits (sym s.3) ∙ (from_wellformed isolated t wellformed).fits s.0 s.1))
