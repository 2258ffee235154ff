-- A walk down a tree: from the first operation of a block all operations follow, and from a next operation the rest.
use Rattle.std.proofs.Common.{◌≡◌, refl, ap, sym, ◌∙◌, subst, ℕ, zero, suc, ◌+◌, ◌<◌, ◌≤◌, List, [], ◌∷◌, ◌++◌, length, length-append, Option, Some, None, option_map, arith}
use Rattle.std.specs.Prelude.{option_and_then}
use Rattle.ir_event.specs.trees.declared.place.Place.{Place}
use Rattle.ir_event.specs.trees.Tree.{OpOf, op, OpsOf, no_ops, next, RegionsOf, no_regions, region, RegionOf, empty, block, head, regions}
use Rattle.ir_event.specs.trees.Ids.{HasDistinctIds, ids, regions_ids, region_ids, ops_ids, op_count, find}
use Rattle.ir_event.specs.trees.Places.{first_id, place_of}
use Rattle.ir_event.specs.tree_laws.Members.{In}
use Rattle.ir_event.specs.tree_laws.Stands.{StepOf, OpWithPathOf, op_with_path_id, op_with_path, stands, ops_stands, place_in}
use Rattle.ir_event.specs.tree_laws.Reads.{first_at, next_of, ops_at, ops_in}
use Rattle.ir_event.specs.tree_laws.Values.{region_at}
use Rattle.ir_event.proofs.of_tree_laws.Readings.{step, stands_find}
use Rattle.ir_event.proofs.of_tree_laws.Members.{stand, within, ops_child, joined_ops, found_stands, stand_of_member, member, same_stand}
use Rattle.ir_event.proofs.of_tree_laws.Around.{around_there, place_of_member, member_of_place}
use Rattle.ir_event.proofs.of_tree_laws.Put.{child}
use Rattle.ir_event.proofs.of_tree_laws.Values.{shaped_as}
use Rattle.effects.specs.Within.{trailing, some_ops, onward, ops_from, list_at, list_size, op_size}
use Rattle.ir_event.proofs.Facts.{joined_more}

module _ {N T A : Type 0} (t : OpOf N T A) (d : HasDistinctIds t) where
  -- the operations from one on are the operation and those after it in its block
  onward_is : (s : OpWithPathOf N T A) → In s (stands [] t) → ops_from (Some (op_with_path_id s)) t ≡ onward s
  onward_is s h = ap (λ o. some_ops (option_map onward o)) (stand_of_member t d s h)

  -- the rest of a block of an operation in the tree
  left_onward : (p : OpOf N T A) (q : List (StepOf N T A)) (r : ℕ) (args : List T) (preceding : List (OpOf N T A)) (os : OpsOf N T A) → In (stand p q) (stands [] t) → region_at r (regions p) ≡ Some (block args (joined_ops preceding os)) → ops_from (first_id os) t ≡ os
  left_onward p q r args preceding no_ops h e = refl
  left_onward p q r args preceding (next z zs) h e =
      let a : StepOf N T A = step p r args preceding zs in
      let m : In (stand z (a ∷ q)) (ops_stands p q r args [] (joined_ops preceding (next z zs))) = ops_child p q r args [] preceding z zs in
      let inside = child p q r args (joined_ops preceding (next z zs)) (stand z (a ∷ q)) e m in
      onward_is (stand z (a ∷ q)) (within p q (stand z (a ∷ q)) inside [] t h)

  pub first_onward : (p r : ℕ) → ops_from (first_at p r t) t ≡ list_at p r t
  first_onward p r = go (find p t) refl
    where
      in_region : (o : OpOf N T A) → find p t ≡ Some o → (g : Option (RegionOf N T A)) → region_at r (regions o) ≡ g → ops_from (option_and_then first_id (option_and_then ops_in g)) t ≡ some_ops (option_and_then ops_in g)
      in_region o e None f = refl
      in_region o e (Some empty) f = refl
      in_region o e (Some (block args os)) f =
          let w = found_stands p t o e in
          let up : In (stand o w.0.path) (stands [] t) = subst (λ (z : OpOf N T A). In (stand z w.0.path) (stands [] t)) w.3 w.1 in
          left_onward o w.0.path r args [] os up f

      go : (f : Option (OpOf N T A)) → find p t ≡ f → ops_from (option_and_then first_id (option_and_then (λ o. option_and_then ops_in (region_at r (regions o))) f)) t ≡ some_ops (option_and_then (λ o. option_and_then ops_in (region_at r (regions o))) f)
      go None e = refl
      go (Some o) e = in_region o e (region_at r (regions o)) refl

  -- the operations after an operation
  after_onward : (o : OpOf N T A) (q : List (StepOf N T A)) → In (stand o q) (stands [] t) → ops_from (next_of (head o).id t) t ≡ trailing q
  after_onward o [] h = go (place_of (head o).id t) refl
    where
      go : (place : Option Place) → place_of (head o).id t ≡ place → ops_from (option_and_then (λ p. p.before) place) t ≡ no_ops
      go None e = refl
      go (Some place) e =
          let w = member_of_place (head o).id place t e in
          let same : w.0 ≡ stand o [] = same_stand t d w.0 (stand o []) w.1 h w.2 in
          let root : List (StepOf N T A) = [] in
          let bad : place_in root ≡ Some place = ap (λ (z : OpWithPathOf N T A). place_in z.path) (sym same) ∙ w.3 in
          absurd cc
  after_onward o (a ∷ q) h =
      ap (λ (p : Option Place). ops_from (option_and_then (λ p. p.before) p) t) (place_of_member t d o a q h)
      ∙ left_onward a.parent q a.region a.args (a.preceding ++ o ∷ []) a.rest (around_there t o a q h).1 (shaped_as t o a q h ∙ ap (λ z. Some (block a.args z)) (joined_more a.preceding o a.rest))

  pub next_onward : (x : ℕ) (o : OpOf N T A) (os : OpsOf N T A) → ops_from (Some x) t ≡ next o os → ops_from (next_of x t) t ≡ os
  next_onward x o os e = go (op_with_path x t) refl e
    where
      go : (f : Option (OpWithPathOf N T A)) → op_with_path x t ≡ f → some_ops (option_map onward f) ≡ next o os → ops_from (next_of x t) t ≡ os
      go None k h = absurd cc
      go (Some s) k h =
          let m = member x (stands [] t) s k in
          let rest : trailing s.path ≡ os = cc in
          ap (λ y. ops_from (next_of y t) t) (sym m.1) ∙ after_onward s.here s.path m.0 ∙ rest

  pub onward_there : (x : ℕ) (o : OpOf N T A) (os : OpsOf N T A) → ops_from (Some x) t ≡ next o os → find x t ≡ Some o
  onward_there x o os e = go (op_with_path x t) refl e
    where
      go : (f : Option (OpWithPathOf N T A)) → op_with_path x t ≡ f → some_ops (option_map onward f) ≡ next o os → find x t ≡ Some o
      go None k h = absurd cc
      go (Some s) k h = let one : s.here ≡ o = cc in sym (stands_find x [] t) ∙ ap (option_map (λ (z : OpWithPathOf N T A). z.here)) k ∙ ap Some one

  -- the list of a block begins with its first operation
  pub first_starts : (p r : ℕ) → first_id (list_at p r t) ≡ first_at p r t
  first_starts p r = go (ops_at p r t)
    where
      go : (o : Option (OpsOf N T A)) → first_id (some_ops o) ≡ option_and_then first_id o
      go None = refl
      go (Some os) = refl

  pub next_starts : (x : ℕ) (o : OpOf N T A) (os : OpsOf N T A) → ops_from (Some x) t ≡ next o os → first_id os ≡ next_of x t
  next_starts x o os e = go (op_with_path x t) refl e
    where
      place : (u : OpOf N T A) (q : List (StepOf N T A)) → In (stand u q) (stands [] t) → first_id (trailing q) ≡ next_of (head u).id t
      place u [] h = root (place_of (head u).id t) refl
        where
          root : (place : Option Place) → place_of (head u).id t ≡ place → None ≡ option_and_then (λ p. p.before) place
          root None e = refl
          root (Some place) e =
              let w = member_of_place (head u).id place t e in
              let same : w.0 ≡ stand u [] = same_stand t d w.0 (stand u []) w.1 h w.2 in
              let none : List (StepOf N T A) = [] in
              let bad : place_in none ≡ Some place = ap (λ (z : OpWithPathOf N T A). place_in z.path) (sym same) ∙ w.3 in
              absurd cc
      place u (a ∷ q) h = sym (ap (option_and_then (λ (p : Place). p.before)) (place_of_member t d u a q h))

      go : (f : Option (OpWithPathOf N T A)) → op_with_path x t ≡ f → some_ops (option_map onward f) ≡ next o os → first_id os ≡ next_of x t
      go None k h = absurd cc
      go (Some s) k h =
          let m = member x (stands [] t) s k in
          let rest : trailing s.path ≡ os = cc in
          ap first_id (sym rest) ∙ place s.here s.path m.0 ∙ ap (λ y. next_of y t) m.1

  pub starts_with : (x : ℕ) (os : OpsOf N T A) → first_id os ≡ Some x → (o : OpOf N T A) × (rest : OpsOf N T A) × (os ≡ next o rest)
  starts_with x no_ops e = absurd cc
  starts_with x (next o rest) e = (o, rest, refl)

  -- sizes of lists
  pub size_next : (o : OpOf N T A) (os : OpsOf N T A) → list_size (next o os) ≡ op_count o + list_size os
  size_next o os = length-append (ids o) (ops_ids os)

  pub some_size : (o : OpOf N T A) → 1 ≤ op_count o
  some_size (op h rs) = omega arith

  region_size : (rs : RegionsOf N T A) (r : ℕ) → list_size (some_ops (option_and_then ops_in (region_at r rs))) ≤ length (regions_ids rs)
  region_size no_regions r = omega arith
  region_size (region empty rs) zero = omega arith
  region_size (region (block args os) rs) zero = let n = length-append (ops_ids os) (regions_ids rs) in omega (arith, n)
  region_size (region g rs) (suc r) = let n = length-append (region_ids g) (regions_ids rs) in let k = region_size rs r in omega (arith, n, k)

  pub list_smaller : (x r : ℕ) (o : OpOf N T A) → find x t ≡ Some o → list_size (list_at x r t) < op_size (find x t)
  list_smaller x r (op h rs) e = subst (λ (f : Option (OpOf N T A)). list_size (some_ops (option_and_then (λ o. option_and_then ops_in (region_at r (regions o))) f)) < op_size f) (sym e) (let k = region_size rs r in omega (arith, k))
