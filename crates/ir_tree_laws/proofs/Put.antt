-- The path of an operation that is inserted at a place.
use Rattle.std.proofs.Common.{◌≡◌, refl, ap, sym, ◌∙◌, subst, ℕ, zero, suc, ◌+◌, Bool, true, false, true≢false, cond, ◌&&◌, ◌||◌, eqb, eq-eqb, eqb-true, List, [], ◌∷◌, Option, Some, None, option_map, inr, arith}
use Rattle.std.specs.Prelude.{option_and_then}
use Rattle.ir_tree.specs.declared.place.Place.{Place}
use Rattle.ir_tree.specs.Tree.{OpOf, op, RegionsOf, no_regions, region, RegionOf, empty, block, OpsOf, no_ops, next, head, regions}
use Rattle.ir_tree.specs.Ids.{has_id, first_of, find, regions_find, region_find, ops_find}
use Rattle.ir_tree.specs.Places.{first_id, each_list, regions_each_list, region_each_list, ops_each_list, put_last, put_before, put_in, is_in_block, put_here, put}
use Rattle.ir_tree_laws.specs.Values.{region_at}
use Rattle.ir_tree_laws.specs.Reads.{ops_in, is_among}
use Rattle.ir_tree_laws.specs.Reasons.{is_in_list, has_place}
use Rattle.ir_tree_laws.specs.Stands.{StepOf, OpWithPathOf, stands, regions_stands, region_stands, ops_stands}
use Rattle.ir_tree_laws.specs.Members.{In}
use Rattle.ir_tree_laws.proofs.Listed.{in_left, in_right}
use Rattle.ir_tree_laws.proofs.Readings.{step, option_first}
use Rattle.ir_tree_laws.proofs.Members.{stand, joined_ops, ops_child, found_stands, within}
use Rattle.ir_tree_laws.proofs.Around.{absent_find}

module _ {N T A : Type 0} where
  -- an edit of lists that removes no operation
  module _ (f : ℕ → ℕ → OpsOf N T A → OpsOf N T A) (y : ℕ) (keeps : (p r : ℕ) (os : OpsOf N T A) → ops_find y (f p r os) ≡ ops_find y os) where
    mutual
      pub find_each : (t : OpOf N T A) → find y (each_list f t) ≡ option_map (each_list f) (find y t)
      find_each (op h rs) =
          elim (eqb h.id y) as (λ b. cond b (Some (each_list f (op h rs))) (regions_find y (regions_each_list f h.id 0 rs)) ≡ option_map (each_list f) (cond b (Some (op h rs)) (regions_find y rs)))
          [ true ↦ refl | false ↦ regions_find_each h.id 0 rs ]

      regions_find_each : (p r : ℕ) (rs : RegionsOf N T A) → regions_find y (regions_each_list f p r rs) ≡ option_map (each_list f) (regions_find y rs)
      regions_find_each p r no_regions = refl
      regions_find_each p r (region g rs) = (λ i. first_of (region_find_each p r g i) (regions_find_each p (r + 1) rs i)) ∙ sym (option_first (each_list f) (region_find y g) (regions_find y rs))

      region_find_each : (p r : ℕ) (g : RegionOf N T A) → region_find y (region_each_list f p r g) ≡ option_map (each_list f) (region_find y g)
      region_find_each p r empty = refl
      region_find_each p r (block args os) = keeps p r (ops_each_list f os) ∙ ops_find_each os

      ops_find_each : (os : OpsOf N T A) → ops_find y (ops_each_list f os) ≡ option_map (each_list f) (ops_find y os)
      ops_find_each no_ops = refl
      ops_find_each (next o os) = (λ i. first_of (find_each o i) (ops_find_each os i)) ∙ sym (option_first (each_list f) (find y o) (ops_find y os))

  -- a list keeps its operations after an insertion
  module _ (place : Place) (o : OpOf N T A) (y : ℕ) (none : find y o ≡ None) where
    keeps_last : (os : OpsOf N T A) → ops_find y (put_last o os) ≡ ops_find y os
    keeps_last no_ops = ap (λ a. first_of a None) none
    keeps_last (next p os) = ap (first_of (find y p)) (keeps_last os)

    keeps_before : (b : ℕ) (os : OpsOf N T A) → ops_find y (put_before b o os) ≡ ops_find y os
    keeps_before b no_ops = refl
    keeps_before b (next p os) =
        elim (eqb (head p).id b) as (λ c. ops_find y (cond c (next o (next p os)) (next p (put_before b o os))) ≡ ops_find y (next p os))
        [ true ↦ ap (λ a. first_of a (first_of (find y p) (ops_find y os))) none | false ↦ ap (first_of (find y p)) (keeps_before b os) ]

    keeps_in : (b : Option ℕ) (os : OpsOf N T A) → ops_find y (put_in b o os) ≡ ops_find y os
    keeps_in None os = keeps_last os
    keeps_in (Some b) os = keeps_before b os

    keeps_here : (p r : ℕ) (os : OpsOf N T A) → ops_find y (put_here place o p r os) ≡ ops_find y os
    keeps_here p r os = elim (is_in_block place p r) as (λ b. ops_find y (cond b (put_in place.before o os) os) ≡ ops_find y os) [ true ↦ keeps_in place.before os | false ↦ refl ]

    pub put_find : (t : OpOf N T A) → find y (put place o t) ≡ option_map (put place o) (find y t)
    put_find t = find_each (put_here place o) y keeps_here t

  -- a list with an operation inserted at a place
  pub record Split (before : Option ℕ) (o : OpOf N T A) (os : OpsOf N T A) : Type 0 where
    pub preceding : List (OpOf N T A)
    pub rest : OpsOf N T A
    pub is : os ≡ joined_ops preceding (next o rest)
    pub first : first_id rest ≡ before

  split_last : (o : OpOf N T A) (os : OpsOf N T A) → Split None o (put_last o os)
  split_last o no_ops = record { preceding = []; rest = no_ops; is = refl; first = refl }
  split_last o (next p os) = let s = split_last o os in record { preceding = p ∷ s.preceding; rest = s.rest; is = ap (next p) s.is; first = s.first }

  split_step : (b : ℕ) (o p : OpOf N T A) (os : OpsOf N T A) → (is_among b os ≡ true → Split (Some b) o (put_before b o os)) → (c : Bool) → eqb (head p).id b ≡ c → (c || is_among b os) ≡ true → Split (Some b) o (cond c (next o (next p os)) (next p (put_before b o os)))
  split_step b o p os f true e h = record { preceding = []; rest = next p os; is = refl; first = ap Some (eqb-true (head p).id b e) }
  split_step b o p os f false e h = let s = f h in record { preceding = p ∷ s.preceding; rest = s.rest; is = ap (next p) s.is; first = s.first }

  split_before : (b : ℕ) (o : OpOf N T A) (os : OpsOf N T A) → is_among b os ≡ true → Split (Some b) o (put_before b o os)
  split_before b o no_ops h = absurd (true≢false (sym h))
  split_before b o (next p os) h = split_step b o p os (split_before b o os) (eqb (head p).id b) refl h

  pub split_in : (b : Option ℕ) (o : OpOf N T A) (os : OpsOf N T A) → is_in_list b (Some os) ≡ true → Split b o (put_in b o os)
  split_in None o os h = split_last o os
  split_in (Some b) o os h = split_before b o os h

  -- a place of a tree
  pub record Point (place : Place) (t : OpOf N T A) : Type 0 where
    pub parent : OpOf N T A
    pub found : find place.parent t ≡ Some parent
    pub args : List T
    pub list : OpsOf N T A
    pub is : region_at place.region (regions parent) ≡ Some (block args list)
    pub among : is_in_list place.before (Some list) ≡ true

  pub point_of : (place : Place) (t : OpOf N T A) → has_place place t ≡ true → Point place t
  point_of place t h = at_op (find place.parent t) refl h
    where
      at_region : (q : OpOf N T A) → find place.parent t ≡ Some q → (g : Option (RegionOf N T A)) → region_at place.region (regions q) ≡ g → is_in_list place.before (option_and_then ops_in g) ≡ true → Point place t
      at_region q e None k h = absurd (true≢false (sym h))
      at_region q e (Some empty) k h = absurd (true≢false (sym h))
      at_region q e (Some (block args os)) k h = record { parent = q; found = e; args = args; list = os; is = k; among = h }

      at_op : (q : Option (OpOf N T A)) → find place.parent t ≡ q → is_in_list place.before (option_and_then (λ o. option_and_then ops_in (region_at place.region (regions o))) q) ≡ true → Point place t
      at_op None e h = absurd (true≢false (sym h))
      at_op (Some q) e h = at_region q e (region_at place.region (regions q)) refl h

  pub of_point : (place : Place) (t : OpOf N T A) → Point place t → has_place place t ≡ true
  of_point place t s =
      ap (λ q. is_in_list place.before (option_and_then (λ o. option_and_then ops_in (region_at place.region (regions o))) q)) s.found
      ∙ ap (λ g. is_in_list place.before (option_and_then ops_in g)) s.is
      ∙ s.among

  -- regions of an operation whose lists are edited
  pub region_each : (f : ℕ → ℕ → OpsOf N T A → OpsOf N T A) (p r k : ℕ) (rs : RegionsOf N T A) → region_at k (regions_each_list f p r rs) ≡ option_map (region_each_list f p (r + k)) (region_at k rs)
  region_each f p r zero no_regions = refl
  region_each f p r (suc k) no_regions = refl
  region_each f p r zero (region g rs) = let e : r ≡ r + 0 = omega arith in ap (λ n. Some (region_each_list f p n g)) e
  region_each f p r (suc k) (region g rs) = let e : r + 1 + k ≡ r + suc k = omega arith in region_each f p (r + 1) k rs ∙ ap (λ n. option_map (region_each_list f p n) (region_at k rs)) e

  pub same_among : (f : ℕ → ℕ → OpsOf N T A → OpsOf N T A) (b : Option ℕ) (os : OpsOf N T A) → is_in_list b (Some (ops_each_list f os)) ≡ is_in_list b (Some os)
  same_among f None os = refl
  same_among f (Some b) no_ops = refl
  same_among f (Some b) (next (op h rs) os) = ap (λ c. eqb h.id b || c) (same_among f (Some b) os)

  -- an operation in a region's block is in the operation
  regions_child : (p : OpOf N T A) (path : List (StepOf N T A)) (r k : ℕ) (rs : RegionsOf N T A) (args : List T) (os : OpsOf N T A) (s : OpWithPathOf N T A)
      → region_at k rs ≡ Some (block args os) → In s (ops_stands p path (r + k) args [] os) → In s (regions_stands p path r rs)
  regions_child p path r zero no_regions args os s e h = absurd cc
  regions_child p path r (suc k) no_regions args os s e h = absurd cc
  regions_child p path r zero (region g rs) args os s e h =
      let n : r + 0 ≡ r = omega arith in
      let same : g ≡ block args os = cc in
      in_left s (region_stands p path r g) (regions_stands p path (r + 1) rs) (subst (λ (q : RegionOf N T A). In s (region_stands p path r q)) (sym same) (subst (λ m. In s (ops_stands p path m args [] os)) n h))
  regions_child p path r (suc k) (region g rs) args os s e h =
      let n : r + suc k ≡ r + 1 + k = omega arith in
      in_right s (region_stands p path r g) (regions_stands p path (r + 1) rs) (regions_child p path (r + 1) k rs args os s e (subst (λ m. In s (ops_stands p path m args [] os)) n h))

  pub child : (p : OpOf N T A) (path : List (StepOf N T A)) (k : ℕ) (args : List T) (os : OpsOf N T A) (s : OpWithPathOf N T A) → region_at k (regions p) ≡ Some (block args os) → In s (ops_stands p path k args [] os) → In s (stands path p)
  child (op h rs) path k args os s e m = let n : k ≡ 0 + k = omega arith in inr (regions_child (op h rs) path 0 k rs args os s e (subst (λ j. In s (ops_stands (op h rs) path j args [] os)) n m))

  -- the path of the inserted operation
  pub record Landed (place : Place) (o t : OpOf N T A) : Type 0 where
    pub step_in : StepOf N T A
    pub path : List (StepOf N T A)
    pub there : In (stand o (step_in ∷ path)) (stands [] t)
    pub around : In (stand step_in.parent path) (stands [] t)
    pub parent : (head step_in.parent).id ≡ place.parent
    pub region : step_in.region ≡ place.region
    pub before : first_id step_in.rest ≡ place.before

  block_put : (place : Place) (o q : OpOf N T A) (args : List T) (os : OpsOf N T A) → (head q).id ≡ place.parent → region_at place.region (regions q) ≡ Some (block args os)
      → region_at place.region (regions (put place o q)) ≡ Some (block args (put_in place.before o (ops_each_list (put_here place o) os)))
  block_put place o (op h rs) args os i e =
      let f = put_here place o in
      let n : 0 + place.region ≡ place.region = omega arith in
      region_each f h.id 0 place.region rs
      ∙ ap (option_map (region_each_list f h.id (0 + place.region))) e
      ∙ ap (λ b. Some (block args (cond b (put_in place.before o (ops_each_list f os)) (ops_each_list f os)))) (λ j. eq-eqb h.id place.parent i j && eq-eqb (0 + place.region) place.region n j)

  pub lands : (place : Place) (o t : OpOf N T A) → has_place place t ≡ true → has_id place.parent o ≡ false → Landed place o (put place o t)
  lands place o t h a =
      let s = point_of place t h in
      let t' = put place o t in
      let p : find place.parent t' ≡ Some (put place o s.parent) = put_find place o place.parent (absent_find place.parent o a) t ∙ ap (option_map (put place o)) s.found in
      let u = found_stands place.parent t' (put place o s.parent) p in
      let w = found_stands place.parent t s.parent s.found in
      let id : (head s.parent).id ≡ place.parent = ap (λ (z : OpOf N T A). (head z).id) (sym w.3) ∙ w.2 in
      let os = ops_each_list (put_here place o) s.list in
      let split = split_in place.before o os (same_among (put_here place o) place.before s.list ∙ s.among) in
      let at = block_put place o s.parent s.args s.list id s.is in
      let q = put place o s.parent in
      let a = step q place.region s.args split.preceding split.rest in
      let m : In (stand o (a ∷ u.0.path)) (ops_stands q u.0.path place.region s.args [] (put_in place.before o os)) = subst (λ (l : OpsOf N T A). In (stand o (a ∷ u.0.path)) (ops_stands q u.0.path place.region s.args [] l)) (sym split.is) (ops_child q u.0.path place.region s.args [] split.preceding o split.rest) in
      let inside = child q u.0.path place.region s.args (put_in place.before o os) (stand o (a ∷ u.0.path)) at m in
      let up : In (stand q u.0.path) (stands [] t') = subst (λ (z : OpOf N T A). In (stand z u.0.path) (stands [] t')) u.3 u.1 in
      record {
        step_in = a;
        path = u.0.path;
        there = within q u.0.path (stand o (a ∷ u.0.path)) inside [] t' up;
        around = up;
        parent = ap (λ (z : OpOf N T A). (head z).id) (sym u.3) ∙ u.2;
        region = refl;
        before = split.first;
      }
