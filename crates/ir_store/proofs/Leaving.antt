-- The operations that remain after an operation is taken out.
use Rattle.std.proofs.Common.{◌≡◌, ℕ, ◌<◌, ◌≤◌, List, [], ◌∷◌, refl, sym, ap, ◌∙◌, subst, length, length-append, Bool, true, false, true≢false, eqb, eqb-true, Option, Some, None, arith, inl, inr}
use Rattle.ir_store_reads.specs.trees.Tree.{OpOf, op, RegionsOf, no_regions, region, RegionOf, empty, block, OpsOf, no_ops, next, head}
use Rattle.ir_store_reads.specs.trees.Ids.{HasDistinctIds, ids, regions_ids, region_ids, ops_ids, find, has_id, op_count}
use Rattle.ir_store_reads.specs.trees.Limits.{depth, regions_depth, region_depth, ops_depth}
use Rattle.ir_store_reads.specs.trees.Places.{without}
use Rattle.ir_store_reads.specs.tree_laws.Members.{In}
use Rattle.ir_store_reads.specs.tree_laws.Reads.{is_within}
use Rattle.ir_store_reads.specs.tree_laws.Reasons.{leaves_within, unused_outside}
use Rattle.ir_store_reads.specs.tree_laws.Stands.{StepOf, OpWithPathOf, op_with_path_id, stands, dropping, is_gone, left_stand}
use Rattle.ir_store_reads.proofs.of_tree_laws.Listed.{all_each, each_all, bool_cases}
use Rattle.ir_store_reads.proofs.of_tree_laws.Readings.{stands_every}
use Rattle.ir_store_reads.proofs.of_tree_laws.Members.{stand, itself, same_stand, stand_found}
use Rattle.ir_store_reads.proofs.of_tree_laws.Around.{stand_present, present_stand, gone_within}
use Rattle.ir_store_reads.proofs.of_tree_laws.Edited.{taken_op_count}
use Rattle.ir_store_reads.proofs.of_tree_laws.Reverted.{inside_goes}
use Rattle.ir_store_reads.proofs.of_tree_laws.Shift.{inner_of}
use Rattle.ir_store_reads.proofs.of_tree_laws.Without.{same_head, left_member, member_left}
use Rattle.ir_store_reads.proofs.of_trees.of_types.Truths.{same_bool}

-- the depth of an operation is less than the number of operations
mutual
  pub depth_below : {N T A : Type 0} (o : OpOf N T A) → depth o < op_count o
  depth_below (op h rs) = omega (arith, regions_below rs)

  regions_below : {N T A : Type 0} (rs : RegionsOf N T A) → regions_depth rs ≤ length (regions_ids rs)
  regions_below no_regions = omega arith
  regions_below (region g rs) = omega (arith, region_below g, regions_below rs, length-append (region_ids g) (regions_ids rs))

  region_below : {N T A : Type 0} (g : RegionOf N T A) → region_depth g ≤ length (region_ids g)
  region_below empty = omega arith
  region_below (block args os) = ops_below os

  ops_below : {N T A : Type 0} (os : OpsOf N T A) → ops_depth os ≤ length (ops_ids os)
  ops_below no_ops = omega arith
  ops_below (next o os) = omega (arith, depth_below o, ops_below os, length-append (ids o) (ops_ids os))

root_found : {N T A : Type 0} (x : ℕ) (t : OpOf N T A) → eqb (head t).id x ≡ true → find x t ≡ Some t
root_found x (op h rs) e = rw e refl

module _ {N T A : Type 0} (t : OpOf N T A) (d : HasDistinctIds t) (x : ℕ) where
  pub depth_within : (o : OpOf N T A) → find x t ≡ Some o → depth o < op_count t
  depth_within o f = elim (bool_cases (eqb (head t).id x)) [
    | inl e ↦ (let same : Some t ≡ Some o = sym (root_found x t e) ∙ f in let one : t ≡ o = cc in subst (λ z. depth z < op_count t) one (depth_below t))
    | inr e ↦ (let l = depth_below o in let c = taken_op_count x t o d f e in omega (arith, l, c))
  ]

  same_id : (s : OpWithPathOf N T A) → op_with_path_id (left_stand x s) ≡ op_with_path_id s
  same_id s = ap (λ h. h.id) (same_head x (dropping x) s.here)

  -- an operation that isn't removed remains
  pub kept_stays : (s : OpWithPathOf N T A) → In s (stands [] t) → is_gone x s ≡ false → has_id (op_with_path_id s) (without x t) ≡ true
  kept_stays s h g = subst (λ y. has_id y (without x t) ≡ true) (same_id s) (stand_present [] (without x t) (left_stand x s) (left_member x t s h g))

  -- an operation that remains was in the tree, and isn't removed
  abbrev pub Stays : ℕ → Type 0
  Stays y = (s : OpWithPathOf N T A) × In s (stands [] t) × (is_gone x s ≡ false) × (op_with_path_id s ≡ y)

  pub stays_kept : (y : ℕ) → has_id y (without x t) ≡ true → Stays y
  stays_kept y e =
      let u = present_stand [] (without x t) y e in
      let m = member_left x t u.0 u.1 in
      (m.0, m.1, m.2, sym (same_id m.0) ∙ ap (λ (z : OpWithPathOf N T A). op_with_path_id z) (sym m.3) ∙ u.2)

  was_there : (y : ℕ) → has_id y (without x t) ≡ true → has_id y t ≡ true
  was_there y e = let w = stays_kept y e in subst (λ z. has_id z t ≡ true) w.3 (stand_present [] t w.0 w.1)

  no_path : (s : OpWithPathOf N T A) → In s (stands [] t) → (a : StepOf N T A) (q : List (StepOf N T A)) → s.path ≡ a ∷ q → eqb (head t).id x ≡ true → op_with_path_id s ≡ x → ⊥
  no_path s h a q p e i =
      let one : stand t [] ≡ s = same_stand t d (stand t []) s (itself [] t) h (eqb_is (head t).id x e ∙ sym i) in
      let bad : ◌≡◌ {A = List (StepOf N T A)} [] (a ∷ q) = ap (λ (z : OpWithPathOf N T A). z.path) one ∙ p in
      absurd cc
    where
      eqb_is : (a b : ℕ) → eqb a b ≡ true → a ≡ b
      eqb_is a b e = eqb-true a b e

  stays_where : (y : ℕ) → ((s : OpWithPathOf N T A) → In s (stands [] t) → op_with_path_id s ≡ y → is_gone x s ≡ false) → has_id y (without x t) ≡ has_id y t
  stays_where y f = same_bool (has_id y (without x t)) (has_id y t) (was_there y)
      (λ e. let w = present_stand [] t y e in subst (λ z. has_id z (without x t) ≡ true) w.2 (kept_stays w.0 w.1 (f w.0 w.1 w.2)))

  -- if the root is taken out, all operations remain
  pub root_stays : eqb (head t).id x ≡ true → (y : ℕ) → has_id y (without x t) ≡ has_id y t
  root_stays e y = stays_where y (λ s h i. elim (bool_cases (is_gone x s)) [
    | inr g ↦ g
    | inl g ↦ (let w = gone_within x t s.path s.here h g in absurd (no_path (stand w.here (w.step_in ∷ w.path)) w.there w.step_in w.path refl e w.id))
  ])

  -- an operation outside of the removed one remains
  pub outside_stays : (y : ℕ) → is_within y (find x t) ≡ false → has_id y (without x t) ≡ has_id y t
  outside_stays y n = stays_where y (λ s h i. elim (bool_cases (is_gone x s)) [
    | inr g ↦ g
    | inl g ↦ (let w = gone_within x t s.path s.here h g in
        let f : find x t ≡ Some w.here = ap (λ z. find z t) (sym w.id) ∙ stand_found t d (stand w.here (w.step_in ∷ w.path)) w.there in
        let present : is_within (op_with_path_id s) (Some w.here) ≡ true = stand_present (w.step_in ∷ w.path) w.here s w.inner in
        absurd (true≢false (sym present ∙ ap (λ z. is_within z (Some w.here)) i ∙ sym (ap (is_within y) f) ∙ n)))
  ])

  -- an operation within the removed one is removed
  pub inside_leaves : eqb (head t).id x ≡ false → (y : ℕ) → is_within y (find x t) ≡ true → has_id y (without x t) ≡ false
  inside_leaves r y e = go (find x t) refl e
    where
      go : (f : Option (OpOf N T A)) → find x t ≡ f → is_within y f ≡ true → has_id y (without x t) ≡ false
      go None k i = absurd (true≢false (sym i))
      go (Some o) k i =
          let w = inner_of x t o k r in
          elim (bool_cases (has_id y (without x t))) [
            | inr n ↦ n
            | inl j ↦ absurd (true≢false (sym i ∙ inside_goes t d o w.step_in w.path w.there y (subst (λ z. has_id y (without z t) ≡ true) (sym w.id) j)))
          ]

  -- whether a remaining operation uses the values
  pub none_outside : ((s : OpWithPathOf N T A) → In s (stands [] t) → is_gone x s ≡ false → leaves_within (find x t) (head s.here) ≡ true) → unused_outside x t ≡ true
  none_outside f =
      sym (stands_every (λ o. leaves_within (find x t) (head o)) [] (without x t))
      ∙ each_all (λ (s : OpWithPathOf N T A). leaves_within (find x t) (head s.here)) (stands [] (without x t)) (λ u h.
      let m = member_left x t u h in
      ap (λ (z : OpWithPathOf N T A). leaves_within (find x t) (head z.here)) m.3 ∙ ap (leaves_within (find x t)) (same_head x (dropping x) m.0.here) ∙ f m.0 m.1 m.2)

  pub each_outside : unused_outside x t ≡ true → (s : OpWithPathOf N T A) → In s (stands [] t) → is_gone x s ≡ false → leaves_within (find x t) (head s.here) ≡ true
  each_outside e s h g =
      ap (leaves_within (find x t)) (sym (same_head x (dropping x) s.here))
      ∙ all_each (λ (s : OpWithPathOf N T A). leaves_within (find x t) (head s.here)) (stands [] (without x t)) (stands_every (λ o. leaves_within (find x t) (head o)) [] (without x t) ∙ e) (left_stand x s) (left_member x t s h g)

  -- the values of a missing operation aren't used
  pub absent_unused : find x t ≡ None → unused_outside x t ≡ true
  absent_unused n = none_outside (λ s h g. ap (λ f. leaves_within f (head s.here)) n ∙ each_all (λ v. true) (head s.here).operands (λ v i. refl))
