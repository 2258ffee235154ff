-- The heads of a tree's operations after an operation is taken out, or shifted.
use Rattle.std.proofs.Common.{◌≡◌, refl, ap, sym, ◌∙◌, subst, ℕ, Bool, true, false, true≢false, cond, eqb, ⊎_elim, List, [], ◌++◌, Option, Some, None}
use Rattle.std.proofs.lemmas.Bool.{cases_Bool, ne_eqb}
use Rattle.std.specs.Prelude.{option_map}
use Rattle.std.specs.List.{list_any}
use Rattle.ir_event.specs.trees.Tree.{OpOf, op, RegionsOf, no_regions, region, empty, block, no_ops, next, head, regions}
use Rattle.ir_event.specs.trees.Ids.{HasDistinctIds, ids, has_id, find, regions_find, first_of}
use Rattle.ir_event.specs.trees.Places.{without}
use Rattle.ir_event.proofs.of_trees.Moves.{absent_parts}
use Rattle.ir_event.proofs.of_trees.Returns.{absent_join}
use Rattle.ir_event.specs.tree_laws.Members.{In}
use Rattle.ir_event.specs.tree_laws.Reasons.{hold_none}
use Rattle.ir_event.specs.tree_laws.Stands.{StepOf, OpWithPathOf, op_with_path_id, find_op_with_path, stands}
use Rattle.ir_event.proofs.of_tree_laws.Around.{absent_find, present_stand, stand_present}
use Rattle.ir_event.proofs.of_tree_laws.Edited.{head_stays, taken_order}
use Rattle.ir_event.proofs.of_tree_laws.Members.{stand, within, member, found_stands, stand_found}
use Rattle.ir_event.proofs.of_tree_laws.Readings.{stands_find}
use Rattle.ir_event.proofs.Shown.{none_found}
use Rattle.ir_event.proofs.of_trees.Facts.{first_none}

module _ {N T A : Type 0} where
  -- an operation whose id is in a tree is found there
  pub found_op : (y : ℕ) (t : OpOf N T A) → has_id y t ≡ true → (o : OpOf N T A) × (find y t ≡ Some o)
  found_op y t k = go (find y t) refl
    where
      go : (q : Option (OpOf N T A)) → find y t ≡ q → (o : OpOf N T A) × (find y t ≡ Some o)
      go None f = absurd (true≢false (sym k ∙ none_found y t f))
      go (Some o) f = (o, f)

  pub found_id : (y : ℕ) (t o : OpOf N T A) → find y t ≡ Some o → (head o).id ≡ y
  found_id y t o f = let w = found_stands y t o f in ap (λ (z : OpOf N T A). (head z).id) (sym w.3) ∙ w.2

  pub found_present : (y : ℕ) (t o : OpOf N T A) → find y t ≡ Some o → has_id y t ≡ true
  found_present y t o f = ⊎_elim (λ k. k) (λ n. (let bad : None ≡ Some o = sym (absent_find y t n) ∙ f in absurd cc)) (cases_Bool (has_id y t))

  -- an operation inside an operation of the tree is in the tree
  pub present_inside : (x : ℕ) (t o : OpOf N T A) → find x t ≡ Some o → (y : ℕ) → has_id y o ≡ true → has_id y t ≡ true
  present_inside x t o f y k =
      let w = found_stands x t o f in
      let z = present_stand w.0.path o y k in
      subst (λ i. has_id i t ≡ true) z.2 (stand_present [] t z.0 (within o w.0.path z.0 z.1 [] t (subst (λ (q : OpOf N T A). In (stand q w.0.path) (stands [] t)) w.3 w.1)))

  -- a tree lacks an id if a tree with the same heads lacks it
  pub absent_too : (y : ℕ) (t u : OpOf N T A) → option_map head (find y t) ≡ option_map head (find y u) → has_id y t ≡ false → has_id y u ≡ false
  absent_too y t u e n = go (find y u) refl
    where
      go : (q : Option (OpOf N T A)) → find y u ≡ q → has_id y u ≡ false
      go None f = none_found y u f
      go (Some o) f = (let bad : None ≡ Some (head o) = sym (ap (option_map head) (absent_find y t n)) ∙ e ∙ ap (option_map head) f in absurd cc)

  -- an operation found in an operation of a tree is found in the tree
  inside : (x : ℕ) (t o : OpOf N T A) → HasDistinctIds t → find x t ≡ Some o → (y : ℕ) (z : OpOf N T A) → find y o ≡ Some z → find y t ≡ Some z
  inside x t o d f y z e = go w.0.path (subst (λ (q : OpOf N T A). In (stand q w.0.path) (stands [] t)) w.3 w.1)
    where
      w : (s : OpWithPathOf N T A) × In s (stands [] t) × (op_with_path_id s ≡ x) × (s.here ≡ o)
      w = found_stands x t o f

      go : (path : List (StepOf N T A)) → In (stand o path) (stands [] t) → find y t ≡ Some z
      go path there = at (find_op_with_path y (stands path o)) refl (stands_find y path o ∙ e)
        where
          at : (q : Option (OpWithPathOf N T A)) → find_op_with_path y (stands path o) ≡ q → option_map (λ (s : OpWithPathOf N T A). s.here) q ≡ Some z → find y t ≡ Some z
          at None k h = absurd cc
          at (Some s) k h = (let m = member y (stands path o) s k in ap (λ i. find i t) (sym m.1) ∙ stand_found t d s (within o path s m.0 [] t there) ∙ h)

  module _ (x : ℕ) (t o : OpOf N T A) (d : HasDistinctIds t) (f : find x t ≡ Some o) (root : eqb (head t).id x ≡ false) (y : ℕ) where
    outside : has_id y (without x t) ≡ false → find y o ≡ None → has_id y t ≡ false
    outside n e =
        let p = taken_order x t o d f root in
        let b = absent_parts y p.0 p.1 (ap (list_any (λ z. eqb z y)) (sym p.3) ∙ n) in
        ap (list_any (λ z. eqb z y)) p.2 ∙ absent_join y p.0 (ids o ++ p.1) b.0 (absent_join y (ids o) p.1 (none_found y o e) b.1)

    -- each head of a tree is a head of the remaining tree, or of the operation that is taken out
    pub split : option_map head (find y t) ≡ first_of (option_map head (find y (without x t))) (option_map head (find y o))
    split = at (has_id y (without x t)) refl
      where
        left : (q : OpOf N T A) → find y (without x t) ≡ Some q → has_id y (without x t) ≡ true → option_map head (find y t) ≡ first_of (option_map head (find y (without x t))) (option_map head (find y o))
        left q e k = sym (head_stays x t d y k) ∙ ap (option_map head) e ∙ sym (ap (λ a. first_of (option_map head a) (option_map head (find y o))) e)

        gone : has_id y (without x t) ≡ false → (q : Option (OpOf N T A)) → find y o ≡ q → option_map head (find y t) ≡ first_of (option_map head (find y (without x t))) (option_map head (find y o))
        gone n (Some z) e =
            ap (option_map head) (inside x t o d f y z e) ∙ sym (λ i. first_of (option_map head (absent_find y (without x t) n i)) (option_map head (e i)))
        gone n None e =
            ap (option_map head) (absent_find y t (outside n e)) ∙ sym (λ i. first_of (option_map head (absent_find y (without x t) n i)) (option_map head (e i)))

        at : (b : Bool) → has_id y (without x t) ≡ b → option_map head (find y t) ≡ first_of (option_map head (find y (without x t))) (option_map head (find y o))
        at true k = (let q = found_op y (without x t) k in left q.0 q.1 k)
        at false k = gone k (find y o) refl

  -- an operation with empty blocks contains only itself
  bare_regions : (y : ℕ) (rs : RegionsOf N T A) → hold_none rs ≡ true → regions_find y rs ≡ None
  bare_regions y no_regions h = refl
  bare_regions y (region empty rs) h = bare_regions y rs h
  bare_regions y (region (block args no_ops) rs) h = bare_regions y rs h
  bare_regions y (region (block args (next o os)) rs) h = absurd (true≢false (sym h))

  pub bare : (y : ℕ) (o : OpOf N T A) → hold_none (regions o) ≡ true → eqb (head o).id y ≡ false → find y o ≡ None
  bare y (op h rs) k n = ap (λ b. cond b (Some (op h rs)) (regions_find y rs)) n ∙ bare_regions y rs k

  pub taken_head : (x : ℕ) (t o : OpOf N T A) → HasDistinctIds t → find x t ≡ Some o → eqb (head t).id x ≡ false → hold_none (regions o) ≡ true → (y : ℕ) → (y ≡ x → ⊥) → option_map head (find y t) ≡ option_map head (find y (without x t))
  taken_head x t o d f root k y other =
      split x t o d f root y
      ∙ ap (λ a. first_of (option_map head (find y (without x t))) (option_map head a)) (bare y o k (ne_eqb (head o).id y (λ e. other (sym e ∙ found_id x t o f))))
      ∙ first_none (option_map head (find y (without x t)))

  -- two trees with the same operation x that are equal without it have the same heads
  pub moved_head : (x : ℕ) (t u o : OpOf N T A) → HasDistinctIds t → HasDistinctIds u → find x t ≡ Some o → find x u ≡ Some o → eqb (head t).id x ≡ false → eqb (head u).id x ≡ false → without x u ≡ without x t
      → (y : ℕ) → option_map head (find y t) ≡ option_map head (find y u)
  moved_head x t u o d du f fu root root_u rest y =
      split x t o d f root y ∙ ap (λ a. first_of (option_map head (find y a)) (option_map head (find y o))) (sym rest) ∙ sym (split x u o du fu root_u y)
