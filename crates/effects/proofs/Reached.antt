-- The view that a store gives of an operation of its module, and the number of its regions.
use Rattle.std.proofs.Common.{◌≡◌, refl, ap, sym, ◌∙◌, ℕ, ◌≤◌, true, [], length, Option, Some, None, option_map, arith}
use Rattle.std.specs.FinMap as finmap
use Rattle.std.proofs.lemmas.Bool.{leb-true}
use Rattle.std.specs.Prelude.{nat_le, ◌&&◌}
use Rattle.ir_event.specs.trees.Tree.{Op, op, RegionsOf, no_regions, region, region_count, regions}
use Rattle.ir_event.specs.trees.Ids.{HasDistinctIds, find, first_of, has_id}
use Rattle.ir_event.specs.trees.Limits.{op_fits, head_fits, most_regions, all_arguments_pass, items_fit}
use Rattle.ir_event.specs.trees.Meaning.{isolated_in}
use Rattle.ir_event.proofs.of_tree_laws.Listed.{both}
use Rattle.ir_event.proofs.of_tree_laws.Members.{found_stands, stand_found}
use Rattle.ir_event.proofs.of_tree_laws.Around.{present_stand}
use Rattle.ir_event.proofs.of_tree_laws.Wellformed.{from_wellformed}
use Rattle.ir_event.specs.store.Nodes.{Node, node_of, regions_arguments}
use Rattle.ir_event.specs.store.Stored.{Stored, known}
use Rattle.ir_event.specs.declared.world.World.{World}
use Rattle.effects.specs.Within.{regions_of}

pub found_one : (x : ℕ) (t : Op) → HasDistinctIds t → has_id x t ≡ true → (o : Op) × (find x t ≡ Some o)
found_one x t d e = let w = present_stand [] t x e in (w.0.here, ap (λ y. find y t) (sym w.2) ∙ stand_found t d w.0 w.1)

pub known_there : (x : ℕ) (s : Stored) → HasDistinctIds s.module_of.tree → has_id x s.module_of.tree ≡ true → option_map node_of (known x s) ≡ option_map node_of (find x s.module_of.tree)
known_there x s d e =
    let w = found_one x s.module_of.tree d e in
    ap (λ o. option_map node_of (first_of o (finmap.get s.held x))) w.1 ∙ sym (ap (option_map node_of) w.1)

pub counted : (o : Op) → length (node_of o).arguments ≡ region_count (regions o)
counted (op h rs) = go rs
  where
    go : (rs : RegionsOf ℕ ℕ ℕ) → length (regions_arguments rs) ≡ region_count rs
    go no_regions = refl
    go (region g rs) = let e = go rs in omega arith

pub regions_counted : (x : ℕ) (t : Op) (n : Node) → Some n ≡ option_map node_of (find x t) → length n.arguments ≡ region_count (regions_of (find x t))
regions_counted x t n e = go (find x t) e
  where
    go : (f : Option Op) → Some n ≡ option_map node_of f → length n.arguments ≡ region_count (regions_of f)
    go None k = absurd cc
    go (Some o) k = let one : n ≡ node_of o = cc in ap (λ (m : Node). length m.arguments) one ∙ counted o

few : (o : Op) → op_fits o ≡ true → region_count (regions o) ≤ 16
few (op h rs) e =
    let own = both (head_fits h) (nat_le (region_count rs) most_regions && all_arguments_pass items_fit rs) e in
    leb-true (region_count rs) most_regions (both (nat_le (region_count rs) most_regions) (all_arguments_pass items_fit rs) own.1).0

pub few_regions : (w : World) (x : ℕ) (n : Node) → Some n ≡ option_map node_of (find x w.store.module_of.tree) → length n.arguments ≤ 16
few_regions w x n e = go (find x w.store.module_of.tree) refl e
  where
    go : (f : Option Op) → find x w.store.module_of.tree ≡ f → Some n ≡ option_map node_of f → length n.arguments ≤ 16
    go None i k = absurd cc
    go (Some o) i k =
        let one : n ≡ node_of o = cc in
        let s = found_stands x w.store.module_of.tree o i in
        let small = few s.0.here ((from_wellformed (isolated_in w.ctx) w.store.module_of.tree w.wellformed.wellformed).fits s.0 s.1) in
        let same = ap (λ (z : Op). region_count (regions z)) s.3 in
        let count = ap (λ (m : Node). length m.arguments) one ∙ counted o in
        omega (arith, small, same, count)
