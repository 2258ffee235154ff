-- Nearest tables, from an operation up, and after an operation is shifted.
use Rattle.std.proofs.Common.{◌≡◌, refl, ap, sym, ◌∙◌, ℕ, Bool, true, false, eqb, cond, List, [], ◌∷◌, Option, Some, None, option_map, subst}
use Rattle.std.specs.Prelude.{option_and_then}
use Rattle.std.specs.Option.{option_eq}
use Rattle.ir_store_reads.specs.trees.declared.place.Place.{Place}
use Rattle.ir_store_reads.specs.trees.Tree.{Op, OpOf, head}
use Rattle.ir_store_reads.specs.trees.Ids.{HasDistinctIds, find, has_id}
use Rattle.ir_store_reads.specs.trees.Places.{place_of, put, without, shifted}
use Rattle.ir_store_reads.specs.tree_laws.Tables.{table_of}
use Rattle.ir_store_reads.specs.tree_laws.Reasons.{has_place, leads_inside, same_table}
use Rattle.ir_store_reads.specs.tree_laws.Stands.{StepOf, OpWithPathOf, op_with_path_id, stands, table_in, place_in}
use Rattle.ir_store_reads.specs.tree_laws.Members.{In}
use Rattle.ir_store_reads.proofs.of_tree_laws.Readings.{stands_table}
use Rattle.ir_store_reads.proofs.of_tree_laws.Members.{stand, stand_found, stand_of_member, found_stands}
use Rattle.ir_store_reads.proofs.of_tree_laws.Around.{stand_present, place_of_member}
use Rattle.ir_store_reads.proofs.of_tree_laws.Put.{point_of}
use Rattle.ir_store_reads.proofs.of_tree_laws.Edited.{head_stays, table_stays}
use Rattle.ir_store_reads.proofs.of_tree_laws.Shift.{may_shift, is_put, shift_distinct, shift_place, shift_rest, inner_of, inner_place}
use Rattle.ir_store.specs.Shifting.{CanRelink, table_at, near_table}
use Rattle.ir_store.proofs.Climbing.{placed}
use Rattle.ir_store.proofs.Rising.{the_op}

-- a found operation is in the tree
pub found_there : {N T A : Type 0} (x : ℕ) (t o : OpOf N T A) → find x t ≡ Some o → has_id x t ≡ true
found_there x t o f = let w = found_stands x t o f in subst (λ z. has_id z t ≡ true) w.2 (stand_present [] t w.0 w.1)

module _ {N T A : Type 0} (is_table : N → Bool) where
  module _ (t : OpOf N T A) (d : HasDistinctIds t) where
    table_there : (s : OpWithPathOf N T A) → In s (stands [] t) → table_of is_table (op_with_path_id s) t ≡ Some (table_in is_table s.path)
    table_there s h = sym (stands_table is_table (op_with_path_id s) [] t) ∙ ap (option_map (λ (z : OpWithPathOf N T A). table_in is_table z.path)) (stand_of_member t d s h)

    at_there : (s : OpWithPathOf N T A) → In s (stands [] t) → table_at is_table (op_with_path_id s) t ≡ cond (is_table (head s.here).name) (Some (head s.here).id) (table_in is_table s.path)
    at_there s h = λ i. near_table is_table (table_there s h i) (option_map head (stand_found t d s h i))

    -- the nearest table around an operation is the nearest one from its parent up
    pub table_up : (x : ℕ) (place : Place) → place_of x t ≡ Some place → table_of is_table x t ≡ Some (table_at is_table place.parent t)
    table_up x place e =
        let p = placed t d x place e in
        ap (λ z. table_of is_table z t) (sym p.id) ∙ table_there (stand p.here (p.step ∷ p.path)) p.there
        ∙ ap Some (sym (ap (λ z. table_at is_table z t) (sym p.parent) ∙ at_there (stand p.step.parent p.path) p.up))

    module _ (x : ℕ) (o : OpOf N T A) (f : find x t ≡ Some o) where
      pub table_own : is_table (head o).name ≡ true → table_at is_table x t ≡ Some x
      table_own e =
          let w = found_stands x t o f in
          ap (λ q. near_table is_table (table_of is_table x t) (option_map head q)) f ∙ ap (λ b. cond b (Some (head o).id) (option_and_then (λ z. z) (table_of is_table x t))) e ∙ ap Some (ap (λ (u : OpOf N T A). (head u).id) (sym w.3) ∙ w.2)

      table_past : is_table (head o).name ≡ false → table_at is_table x t ≡ option_and_then (λ z. z) (table_of is_table x t)
      table_past e = ap (λ q. near_table is_table (table_of is_table x t) (option_map head q)) f ∙ ap (λ b. cond b (Some (head o).id) (option_and_then (λ z. z) (table_of is_table x t))) e

      pub table_next : is_table (head o).name ≡ false → (place : Place) → place_of x t ≡ Some place → table_at is_table x t ≡ table_at is_table place.parent t
      table_next e place p = table_past e ∙ ap (option_and_then (λ z. z)) (table_up x place p)

      pub table_none : is_table (head o).name ≡ false → place_of x t ≡ None → table_at is_table x t ≡ None
      table_none e n =
          let w = found_stands x t o f in
          table_past e ∙ ap (option_and_then (λ z. z)) (ap (λ z. table_of is_table z t) (sym w.2) ∙ table_there w.0 w.1) ∙ go w.0 w.1 w.2 w.0.path refl
        where
          go : (s : OpWithPathOf N T A) → In s (stands [] t) → op_with_path_id s ≡ x → (path : List (StepOf N T A)) → s.path ≡ path → table_in is_table s.path ≡ None
          go s h id [] r = ap (table_in is_table) r
          go s h id (a ∷ q) r =
              let bad : ◌≡◌ {A = Option Place} None (place_in (a ∷ q)) = sym n ∙ ap (λ y. place_of y t) (sym id) ∙ place_of_member t d s.here a q (subst (λ l. In (stand s.here l) (stands [] t)) r h) in
              absurd cc

    -- an operation that remains after another is taken out keeps its nearest table
    table_left : (x y : ℕ) → has_id y (without x t) ≡ true → table_at is_table y (without x t) ≡ table_at is_table y t
    table_left x y there = λ i. near_table is_table (table_stays x t d y there is_table i) (head_stays x t d y there i)

  -- the nearest table around a shifted operation is the nearest one from the place's parent up
  pub table_shifted : (x : ℕ) (place : Place) (t o : OpOf N T A) → HasDistinctIds t → find x t ≡ Some o → eqb (head t).id x ≡ false → has_place place t ≡ true → leads_inside place (Some o) ≡ false
      → table_of is_table x (shifted x place t) ≡ Some (table_at is_table place.parent t)
  table_shifted x place t o d f root point out =
      let u = put place o (without x t) in
      let du = shift_distinct x place t o d f root point out in
      let rest : without x u ≡ without x t = shift_rest x place t o d f root point out in
      let s = point_of place (without x t) (may_shift x place t o d f root point out).point in
      let there : has_id place.parent (without x t) ≡ true = found_there place.parent (without x t) s.parent s.found in
      ap (table_of is_table x) (is_put x place t o d f root point out) ∙ table_up u du x place (shift_place x place t o d f root point out)
      ∙ ap Some (sym (table_left u du x place.parent (ap (has_id place.parent) rest ∙ there)) ∙ ap (table_at is_table place.parent) rest ∙ table_left t d x place.parent there)

-- an operation that may be moved
module _ (t : Op) (d : HasDistinctIds t) (x : ℕ) (place : Place) (can : CanRelink x place t) where
  it : (o : Op) × (find x t ≡ Some o)
  it = the_op t d x can.there

  outside : leads_inside place (Some it.0) ≡ false
  outside = ap (leads_inside place) (sym it.1) ∙ can.outside

  pub relink_place : place_of x t ≡ None → ⊥
  relink_place n =
      let i = inner_of x t it.0 it.1 can.inner in
      let bad : ◌≡◌ {A = Option Place} None (place_in (i.step_in ∷ i.path)) = sym n ∙ inner_place x t it.0 d i in
      absurd cc

  pub relink_parent : has_id place.parent t ≡ true
  relink_parent = let s = point_of place t can.point in found_there place.parent t s.parent s.found

  pub relink_tables : (is_table : ℕ → Bool) (old : Place) → place_of x t ≡ Some old
      → same_table (table_of is_table x t) (table_of is_table x (shifted x place t)) ≡ option_eq eqb (table_at is_table old.parent t) (table_at is_table place.parent t)
  relink_tables is_table old e = λ i. same_table (table_up is_table t d x old e i) (table_shifted is_table x place t it.0 d it.1 can.inner can.point outside i)
