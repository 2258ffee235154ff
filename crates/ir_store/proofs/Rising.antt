-- Reads of a tree that go from an operation up, by its place.
use Rattle.std.proofs.Common.{◌≡◌, refl, ap, sym, ◌∙◌, subst, suc, length, ◌-◌, arith, ℕ, Bool, true, false, true≢false, eqb, eq-eqb, eqb-true, not, List, [], ◌∷◌, Option, Some, None, option_map, inl, inr}
use Rattle.std.specs.Prelude.{is_some, nat_lt}
use Rattle.std.specs.List.{list_any}
use Rattle.std.proofs.lemmas.Bool.Decides.{nat_tests}
use Rattle.ir_store_reads.specs.trees.Limits.{most_around}
use Rattle.ir_store_reads.specs.tree_laws.Reasons.{fits_around}
use Rattle.ir_store_reads.specs.trees.declared.place.Place.{Place}
use Rattle.ir_store_reads.specs.trees.Tree.{OpOf, head}
use Rattle.ir_store_reads.specs.trees.Ids.{HasDistinctIds, find, has_id, ids}
use Rattle.ir_store_reads.specs.trees.Places.{place_of}
use Rattle.ir_store_reads.specs.tree_laws.Members.{In}
use Rattle.ir_store_reads.specs.tree_laws.Reads.{is_within, around}
use Rattle.ir_store_reads.specs.tree_laws.Stands.{StepOf, OpWithPathOf, op_with_path_id, find_op_with_path, op_with_path, stands, place_in}
use Rattle.ir_store_reads.proofs.of_tree_laws.Listed.{bool_cases}
use Rattle.ir_store_reads.proofs.of_tree_laws.Members.{stand, itself, within, has_around, same_stand, found_stands, stand_found, member, stand_of_member}
use Rattle.ir_store_reads.proofs.of_tree_laws.Around.{stands_around, stand_present, present_stand, around_there, place_of_member}
use Rattle.ir_store.specs.Shifting.{level}
use Rattle.ir_store.specs.Lifted.{level as old_level}
use Rattle.ir_store.proofs.Climbing.{placed, level_up}
use Rattle.ir_store_reads.proofs.of_trees.of_types.Truths.{same_bool}

pub differs : (a b : ℕ) → true ≡ not (eqb a b) → a ≡ b → ⊥
differs a b e f = true≢false (e ∙ ap not (eq-eqb a b f))

pub agrees : (a b : ℕ) → false ≡ not (eqb a b) → a ≡ b
agrees a b e = eqb-true a b (go (eqb a b) e)
  where
    go : (c : Bool) → false ≡ not c → c ≡ true
    go true f = refl
    go false f = absurd (true≢false (sym f))

module _ {N T A : Type 0} (t : OpOf N T A) (d : HasDistinctIds t) (x : ℕ) where
  -- an operation is within itself
  pub within_own : (o : OpOf N T A) → find x t ≡ Some o → is_within x (find x t) ≡ true
  within_own o f =
      let w = found_stands x t o f in
      ap (is_within x) f ∙ subst (λ y. list_any (λ z. eqb z y) (ids o) ≡ true) (ap (λ (u : OpOf N T A). (head u).id) (sym w.3) ∙ w.2) (stand_present [] o (stand o []) (itself [] o))

  -- an operation within x, but not x, has a place whose parent is within x
  module _ (o : OpOf N T A) (f : find x t ≡ Some o) (y : ℕ) (ne : y ≡ x → ⊥) where
    abbrev Up : Type 0
    Up = (place : Place) × (place_of y t ≡ Some place) × (is_within place.parent (Some o) ≡ true)

    up : is_within y (Some o) ≡ true → Up
    up e =
        let w = found_stands x t o f in
        let there : In (stand o w.0.path) (stands [] t) = subst (λ (u : OpOf N T A). In (stand u w.0.path) (stands [] t)) w.3 w.1 in
        let u = present_stand w.0.path o y e in
        elim (has_around w.0.path o u.0 u.1) [
          | inl k ↦ absurd (ne (sym u.2 ∙ ap (λ (z : OpWithPathOf N T A). op_with_path_id z) k ∙ ap (λ (z : OpOf N T A). (head z).id) (sym w.3) ∙ w.2))
          | inr v ↦ (let here : In (stand u.0.here (v.0 ∷ v.1)) (stands [] t) = within o w.0.path (stand u.0.here (v.0 ∷ v.1)) (subst (λ (l : List (StepOf N T A)). In (stand u.0.here l) (stands w.0.path o)) v.2 u.1) [] t there in (
            record { parent = (head v.0.parent).id; region = v.0.region; before = _ },
            ap (λ z. place_of z t) (sym u.2) ∙ place_of_member t d u.0.here v.0 v.1 here,
            stand_present w.0.path o (stand v.0.parent v.1) v.4,
          ))
        ]

    pub within_none : place_of y t ≡ None → is_within y (Some o) ≡ false
    within_none n = elim (bool_cases (is_within y (Some o))) [
      | inr e ↦ e
      | inl e ↦ (let w = up e in let bad : ◌≡◌ {A = Option Place} None (Some w.0) = sym n ∙ w.1 in absurd cc)
    ]

    pub within_up : (place : Place) → place_of y t ≡ Some place → is_within y (Some o) ≡ is_within place.parent (Some o)
    within_up place e = same_bool (is_within y (Some o)) (is_within place.parent (Some o))
        (λ i. let w = up i in let same : Some w.0 ≡ Some place = sym w.1 ∙ e in let one : w.0 ≡ place = cc in subst (λ (z : Place). is_within z.parent (Some o) ≡ true) one w.2)
        (λ i.
        let p = placed t d y place e in
        let w = found_stands x t o f in
        let there : In (stand o w.0.path) (stands [] t) = subst (λ (u : OpOf N T A). In (stand u w.0.path) (stands [] t)) w.3 w.1 in
        let u = present_stand w.0.path o place.parent i in
        let same = same_stand t d u.0 (stand p.step.parent p.path) (within o w.0.path u.0 u.1 [] t there) p.up (u.2 ∙ sym p.parent) in
        let inside : In (stand p.step.parent p.path) (stands w.0.path o) = subst (λ (z : OpWithPathOf N T A). In z (stands w.0.path o)) same u.1 in
        subst (λ z. list_any (λ q. eqb q z) (ids o) ≡ true) p.id
        (stand_present w.0.path o (stand p.here (p.step ∷ p.path))
        (within p.step.parent p.path (stand p.here (p.step ∷ p.path)) (around_there t p.here p.step p.path p.there).0 w.0.path o inside)))

  -- the same, if the operation is known to be in the tree
  module _ (there : has_id x t ≡ true) where
    pub the_op : (o : OpOf N T A) × (find x t ≡ Some o)
    the_op = let w = present_stand [] t x there in (w.0.here, ap (λ z. find z t) (sym w.2) ∙ stand_found t d w.0 w.1)

    pub within_at_own : is_within x (find x t) ≡ true
    within_at_own = within_own the_op.0 the_op.1

    pub within_at_none : (y : ℕ) → (y ≡ x → ⊥) → place_of y t ≡ None → is_within y (find x t) ≡ false
    within_at_none y ne n = ap (is_within y) the_op.1 ∙ within_none the_op.0 the_op.1 y ne n

    pub within_at_up : (y : ℕ) → (y ≡ x → ⊥) → (place : Place) → place_of y t ≡ Some place → is_within y (find x t) ≡ is_within place.parent (find x t)
    within_at_up y ne place e = ap (is_within y) the_op.1 ∙ within_up the_op.0 the_op.1 y ne place e ∙ sym (ap (is_within place.parent) the_op.1)

-- the nesting depth of an operation, computed from its place
module _ {N T A : Type 0} (t : OpOf N T A) (d : HasDistinctIds t) where
  same_level : (o : Option ℕ) → old_level o ≡ level o
  same_level None = refl
  same_level (Some n) = refl

  pub around_up : (x : ℕ) (place : Place) → place_of x t ≡ Some place → level (around x t) ≡ suc (level (around place.parent t))
  around_up x place e = sym (same_level (around x t)) ∙ level_up t d x place e ∙ ap suc (same_level (around place.parent t))

  pub around_none : (x : ℕ) → place_of x t ≡ None → level (around x t) ≡ 0
  around_none x n = ap level (sym (stands_around x [] t)) ∙ go (find_op_with_path x (stands [] t)) refl
    where
      top : (s : OpWithPathOf N T A) → In s (stands [] t) → op_with_path_id s ≡ x → (path : List (StepOf N T A)) → s.path ≡ path → length s.path ≡ 0
      top s h id [] r = ap length r
      top s h id (a ∷ q) r =
          let bad : ◌≡◌ {A = Option Place} None (place_in (a ∷ q)) = sym n ∙ ap (λ y. place_of y t) (sym id) ∙ place_of_member t d s.here a q (subst (λ l. In (stand s.here l) (stands [] t)) r h) in
          absurd cc

      go : (f : Option (OpWithPathOf N T A)) → find_op_with_path x (stands [] t) ≡ f → level (option_map (λ (s : OpWithPathOf N T A). length s.path) f) ≡ 0
      go None e = refl
      go (Some s) e = let m = member x (stands [] t) s e in top s m.0 m.1 s.path refl

  pub around_some : (x : ℕ) → has_id x t ≡ true → is_some (around x t) ≡ true
  around_some x there =
      let w = present_stand [] t x there in
      ap is_some (sym (stands_around x [] t) ∙ ap (option_map (λ (s : OpWithPathOf N T A). length s.path)) (ap (λ z. op_with_path z t) (sym w.2) ∙ stand_of_member t d w.0 w.1))

pub headroom_is : (n : ℕ) (o : Option ℕ) → is_some o ≡ true → nat_lt n (most_around - level o) ≡ fits_around n o
headroom_is n None e = absurd (true≢false (sym e))
headroom_is n (Some m) e = grind (arith, nat_tests)
