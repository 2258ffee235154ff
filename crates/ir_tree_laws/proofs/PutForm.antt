-- A tree with an operation, and everything inside it, inserted at a place.
use Rattle.std.proofs.Common.{◌≡◌, ap, sym, ◌∙◌, subst, ℕ, ◌+◌, ◌<◌, ◌≤◌, Bool, true, false, true≢false, not, eqb, List, [], ◌∷◌, ◌++◌, length, map, length-append, Some, option_map, inl, inr, ◌⊎◌, arith}
use Rattle.std.specs.List.{filter}
use Rattle.std.specs.List.{list_any, list_all}
use Rattle.std.proofs.lemmas.Bool.{leb-true}
use Rattle.std.proofs.lemmas.List.{length-map}
use Rattle.std.proofs.lemmas.List.Folds.{list_any-append}
use Rattle.ir_tree.specs.declared.place.Place.{Place}
use Rattle.ir_tree.specs.Tree.{HeadOf, OpOf, head}
use Rattle.ir_tree.specs.Ids.{ids, HasDistinctIds, has_id, find, op_count}
use Rattle.ir_tree.specs.Limits.{depth, every, op_fits, most_ops, most_around}
use Rattle.ir_tree.specs.Sites.{visible}
use Rattle.ir_tree.specs.Places.{put, without, place_of}
use Rattle.ir_tree.specs.WellFormed.{IsValidTree}
use Rattle.ir_tree.proofs.Gained.{gained_ids, gained_distinct}
use Rattle.ir_tree.proofs.Moves.{take_put}
use Rattle.ir_tree_laws.specs.Reads.{around}
use Rattle.ir_tree_laws.specs.Reasons.{fits_around}
use Rattle.ir_tree_laws.specs.Restores.{MayPut}
use Rattle.ir_tree_laws.specs.Stands.{OpWithPathOf, op_with_path_id, stands, find_op_with_path, dominated_by, is_gone, left_stand, left_step, dropping}
use Rattle.ir_tree_laws.specs.Members.{In}
use Rattle.ir_tree_laws.proofs.Listed.{all_each, each_all, bool_cases, or_left, or_right}
use Rattle.ir_tree_laws.proofs.Readings.{stands_every}
use Rattle.ir_tree_laws.proofs.Members.{stand, itself, found_stands, stand_of_member, same_stand, stand_found}
use Rattle.ir_tree_laws.proofs.Around.{stands_around, stand_present, gone_within, place_of_member}
use Rattle.ir_tree_laws.proofs.Without.{left_member, same_head, left_dominated_by, without_stands}
use Rattle.ir_tree_laws.proofs.DominatedBy.{visible_there, all_same}
use Rattle.ir_tree_laws.proofs.Put.{point_of, Landed, lands}
use Rattle.ir_tree_laws.proofs.Wellformed.{WellformedEach, from_wellformed, to_wellformed, within_depth, list_fits, no_more}

module _ {N T A : Type 0} (place : Place) (o t : OpOf N T A) (may : MayPut place o t) where
  abbrev after : OpOf N T A
  after = put place o t

  abbrev x : ℕ
  x = (head o).id

  own_id : (o : OpOf N T A) → has_id (head o).id o ≡ true
  own_id o = stand_present [] o (stand o []) (itself [] o)

  pub parent_there : has_id place.parent t ≡ true
  parent_there =
      let s = point_of place t may.point in
      let w = found_stands place.parent t s.parent s.found in
      subst (λ z. has_id z t ≡ true) w.2 (stand_present [] t w.0 w.1)

  pub parent_absent : has_id place.parent o ≡ false
  parent_absent = elim (bool_cases (has_id place.parent o)) [ inl k ↦ absurd (true≢false (sym parent_there ∙ may.apart place.parent k)) | inr k ↦ k ]

  pub put_distinct : HasDistinctIds (put place o t)
  put_distinct = gained_distinct place o may.own t may.distinct may.apart

  pub put_back : without (head o).id (put place o t) ≡ t
  put_back = take_put place o t (may.apart x (own_id o))

  pub landed : Landed place o (put place o t)
  landed = lands place o t may.point parent_absent

  -- the operation is at the place
  pub put_place : place_of (head o).id (put place o t) ≡ Some place
  put_place = place_of_member after put_distinct o landed.step_in landed.path landed.there ∙ ap Some (λ i. record { parent = landed.parent i; region = landed.region i; before = landed.before i })

  pub put_found : find (head o).id (put place o t) ≡ Some o
  put_found = stand_found after put_distinct (stand o (landed.step_in ∷ landed.path)) landed.there

  -- each operation was in the tree, or is the inserted operation or within it
  pub put_cases : (s : OpWithPathOf N T A) → In s (stands [] after) → (In (left_stand x s) (stands [] t) × (is_gone x s ≡ false)) ⊎ In s (stands (landed.step_in ∷ landed.path) o)
  put_cases s h = elim (bool_cases (is_gone x s)) [
    | inr k ↦ inl (subst (λ (u : OpOf N T A). In (left_stand x s) (stands [] u)) put_back (left_member x after s h k), k)
    | inl k ↦ (let w = gone_within x after s.path s.here h k in
        let same = same_stand after put_distinct (stand w.here (w.step_in ∷ w.path)) (stand o (landed.step_in ∷ landed.path)) w.there landed.there w.id in
        inr (subst (λ (z : OpWithPathOf N T A). In s (stands z.path z.here)) same w.inner))
  ]

  -- the depth of the place
  pub put_around : around place.parent t ≡ Some (length landed.path)
  put_around = elim (put_cases (stand landed.step_in.parent landed.path) landed.around) [
    | inr k ↦ absurd (true≢false (sym (subst (λ z. has_id z o ≡ true) landed.parent (stand_present (landed.step_in ∷ landed.path) o (stand landed.step_in.parent landed.path) k)) ∙ parent_absent))
    | inl k ↦
        (let u = left_stand x (stand landed.step_in.parent landed.path) in
        let id : op_with_path_id u ≡ place.parent = ap (λ (h : HeadOf N T A). h.id) (same_head x (dropping x) landed.step_in.parent) ∙ landed.parent in
        sym (stands_around place.parent [] t)
        ∙ ap (option_map (λ (s : OpWithPathOf N T A). length s.path)) (ap (λ z. find_op_with_path z (stands [] t)) (sym id) ∙ stand_of_member t may.distinct u k.0)
        ∙ ap Some (length-map landed.path (left_step x)))
  ]

  -- the inserted operations are within the limits, and their operands are visible
  pub record Fitting (isolated : N → Bool) : Type 0 where
    pub dominated_by_own : every (λ q. list_all (visible isolated (put place o t) (head q).id) (head q).operands) o ≡ true
    pub levels : fits_around (depth o) (around place.parent t) ≡ true
    pub count : op_count t + op_count o ≤ most_ops
    pub fits : every op_fits o ≡ true

  join_present : (y : ℕ) (xs ys : List ℕ) → list_any (λ z. eqb z y) xs ≡ true ⊎ list_any (λ z. eqb z y) ys ≡ true → list_any (λ z. eqb z y) (xs ++ ys) ≡ true
  join_present y xs ys (inl h) = list_any-append (λ z. eqb z y) xs ys ∙ or_left _ _ h
  join_present y xs ys (inr h) = list_any-append (λ z. eqb z y) xs ys ∙ or_right (list_any (λ z. eqb z y) xs) _ h

  pub put_count : op_count (put place o t) ≤ op_count t + op_count o
  put_count =
      let n = no_more (ids after) (ids t ++ ids o) put_distinct (λ y h. join_present y (ids t) (ids o) (known y h)) in
      let e = length-append (ids t) (ids o) in
      omega (arith, n, e)
    where
      known : (y : ℕ) → list_any (λ z. eqb z y) (ids after) ≡ true → list_any (λ z. eqb z y) (ids t) ≡ true ⊎ list_any (λ z. eqb z y) (ids o) ≡ true
      known y h = elim (bool_cases (has_id y o)) [
        | inl k ↦ inr k
        | inr k ↦ elim (bool_cases (has_id y t)) [ inl l ↦ inl l | inr l ↦ absurd (true≢false (sym h ∙ gained_ids place o y t k l)) ]
      ]

  module _ (isolated : N → Bool) where
    pub put_each : WellformedEach isolated t → Fitting isolated → WellformedEach isolated after
    put_each f fits_in = record {
      dominated_by_own = λ s h. elim (put_cases s h) [
        | inl k ↦ each_all (dominated_by isolated s.path) (head s.here).operands (λ v m. left_dominated_by x isolated s.path v
            (all_each (dominated_by isolated (map (left_step x) s.path)) (head s.here).operands (sym (ap (λ (h : HeadOf N T A). list_all (dominated_by isolated (map (left_step x) s.path)) h.operands) (same_head x (dropping x) s.here)) ∙ f.dominated_by_own (left_stand x s) k.0) v m))
        | inr k ↦ sym (all_same _ _ (head s.here).operands (λ v m. visible_there isolated after put_distinct s h v))
            ∙ all_each (λ (u : OpWithPathOf N T A). list_all (visible isolated after (head u.here).id) (head u.here).operands) (stands (landed.step_in ∷ landed.path) o)
            (stands_every (λ q. list_all (visible isolated after (head q).id) (head q).operands) (landed.step_in ∷ landed.path) o ∙ fits_in.dominated_by_own) s k
      ];
      shallow = λ s h. elim (put_cases s h) [
        | inl k ↦ (let a = f.shallow (left_stand x s) k.0 in let b = length-map s.path (left_step x) in omega (arith, a, b))
        | inr k ↦ (let a = within_depth isolated (landed.step_in ∷ landed.path) o s k in
            let b = leb-true (length landed.path + 1 + depth o) most_around (sym (ap (fits_around (depth o)) put_around) ∙ fits_in.levels) in
            omega (arith, a, b))
      ];
      count = (let a = put_count in let b = fits_in.count in omega (arith, a, b));
      fits = λ s h. elim (put_cases s h) [
        | inl k ↦ sym (list_fits (dropping x) s.here) ∙ f.fits (left_stand x s) k.0
        | inr k ↦ all_each (λ (u : OpWithPathOf N T A). op_fits u.here) (stands (landed.step_in ∷ landed.path) o) (stands_every op_fits (landed.step_in ∷ landed.path) o ∙ fits_in.fits) s k
      ];
    }

    pub put_wellformed : IsValidTree isolated t → Fitting isolated → IsValidTree isolated (put place o t)
    put_wellformed f fits_in = to_wellformed isolated after (put_each (from_wellformed isolated t f) fits_in)

  -- ids below a number
  pub put_below : (n : ℕ) → ((s : OpWithPathOf N T A) → In s (stands [] t) → op_with_path_id s < n) → ((y : ℕ) → has_id y o ≡ true → y < n) → (s : OpWithPathOf N T A) → In s (stands [] after) → op_with_path_id s < n
  put_below n f g s h = elim (put_cases s h) [
    | inl k ↦ (let a = f (left_stand x s) k.0 in let e = ap (λ (h : HeadOf N T A). h.id) (same_head x (dropping x) s.here) in omega (arith, a, e))
    | inr k ↦ g (op_with_path_id s) (stand_present (landed.step_in ∷ landed.path) o s k)
  ]

  -- the list of the old tree is the list of the new tree without the inserted operations
  pub put_list : stands [] t ≡ map (left_stand (head o).id) (filter (λ s. not (is_gone (head o).id s)) (stands [] (put place o t)))
  put_list = ap (stands []) (sym put_back) ∙ without_stands x after
