-- Visible values after an operation is shifted.
use Rattle.std.proofs.Common.{◌≡◌, refl, ap, sym, ◌∙◌, subst, ℕ, ◌+◌, ◌<◌, Bool, true, false, true≢false, not, cond, eqb, eq-eqb, eqb-true, List, [], ◌∷◌, length, Option, Some, None, option_map, inl, inr}
use Rattle.std.specs.Prelude.{slice_get, is_some, option_and_then}
use Rattle.std.specs.List.{list_any, list_all}
use Rattle.ir_tree.specs.declared.value.Value.{Value}
use Rattle.ir_tree.specs.declared.value.Value.TheVariants.{Result, Arg}
use Rattle.ir_tree.specs.declared.place.Place.{Place}
use Rattle.ir_tree.specs.Tree.{HeadOf, OpOf, head}
use Rattle.ir_tree.specs.Ids.{HasDistinctIds, find, has_id}
use Rattle.ir_tree.specs.Limits.{every}
use Rattle.ir_tree.specs.Uses.{same_value, operand_uses, uses_of}
use Rattle.ir_tree.specs.Frames.{owner_of}
use Rattle.ir_tree.specs.Sites.{visible, operands_visible, shows, results_of, arguments}
use Rattle.ir_tree.specs.Places.{without, shifted}
use Rattle.ir_tree.proofs.Replaced.{same_value_refl, same_value_true}
use Rattle.ir_tree_laws.specs.Members.{In}
use Rattle.ir_tree_laws.specs.Reasons.{has_place, leads_inside}
use Rattle.ir_tree_laws.specs.Stands.{StepOf, OpWithPathOf, op_with_path_id, stands, gather, dominated_by, gone_in, is_gone, left_stand, dropping}
use Rattle.ir_tree_laws.proofs.Listed.{bool_cases, all_each, each_all, in_parts, either, both, or_left, or_right}
use Rattle.ir_tree_laws.proofs.Readings.{stands_every, stands_uses}
use Rattle.ir_tree_laws.proofs.Members.{stand, within, has_around, found_stands, stand_found, same_stand}
use Rattle.ir_tree_laws.proofs.Around.{around_there, gone_within, stand_present, present_stand}
use Rattle.ir_tree_laws.proofs.Without.{left_member, member_left, same_head}
use Rattle.ir_tree_laws.proofs.DominatedBy.{visible_there, operands_visible_each}
use Rattle.ir_tree_laws.proofs.Edited.{head_stays, dominance_stays}
use Rattle.ir_tree_laws.proofs.HeadForm.{used_here, in_gather}
use Rattle.ir_tree_laws.proofs.Values.{seen_by}
use Rattle.ir_tree_laws.proofs.Shift as shift
use Rattle.std.proofs.lemmas.Option.{slice_get_within}

of_gather : {X Y : Type 0} (f : X → List Y) (y : Y) (xs : List X) → In y (gather f xs) → (x : X) × In x xs × In y (f x)
of_gather f y [] h = absurd h
of_gather f y (x ∷ xs) h = elim (in_parts y (f x) (gather f xs) h) [
  | inl k ↦ (x, inl refl, k)
  | inr k ↦ let w = of_gather f y xs k in (w.0, inr w.1, w.2)
]

pub of_uses : (v : Value) (x k : ℕ) (ws : List Value) (u : ℕ × ℕ) → In u (operand_uses v x k ws) → (u.0 ≡ x) × In v ws
of_uses v x k [] u h = absurd h
of_uses v x k (w ∷ ws) u h = go (same_value v w) refl h (of_uses v x (k + 1) ws u)
  where
    go : (b : Bool) → same_value v w ≡ b → In u (cond b ((x, k) ∷ operand_uses v x (k + 1) ws) (operand_uses v x (k + 1) ws)) → (In u (operand_uses v x (k + 1) ws) → (u.0 ≡ x) × In v ws) → (u.0 ≡ x) × In v (w ∷ ws)
    go true e (inl m) f = (ap (λ z. z.0) m, inl (same_value_true v w e))
    go true e (inr m) f = let r = f m in (r.0, inr r.1)
    go false e m f = let r = f m in (r.0, inr r.1)

module _ {N T A : Type 0} (isolated : N → Bool) where
  -- whether an operation sees its operands in a tree
  abbrev dominated_by_own : OpOf N T A → OpOf N T A → Bool
  dominated_by_own t q = list_all (visible isolated t (head q).id) (head q).operands

  each_dominated_by : (t : OpOf N T A) → HasDistinctIds t → operands_visible isolated t ≡ true → (s : OpWithPathOf N T A) → In s (stands [] t) → list_all (visible isolated t (op_with_path_id s)) (head s.here).operands ≡ true
  each_dominated_by t d e s h = all_each (λ (z : OpWithPathOf N T A). dominated_by_own t z.here) (stands [] t) (stands_every (dominated_by_own t) [] t ∙ sym (operands_visible_each isolated t d) ∙ e) s h

  all_see : (t : OpOf N T A) → HasDistinctIds t → ((s : OpWithPathOf N T A) → In s (stands [] t) → list_all (visible isolated t (op_with_path_id s)) (head s.here).operands ≡ true) → operands_visible isolated t ≡ true
  all_see t d f = operands_visible_each isolated t d ∙ sym (stands_every (dominated_by_own t) [] t) ∙ each_all (λ (z : OpWithPathOf N T A). dominated_by_own t z.here) (stands [] t) f

  -- an argument is visible within its operation only
  argument_within : (x r k : ℕ) (t : OpOf N T A) → eqb (head t).id x ≡ false → (path : List (StepOf N T A)) (o : OpOf N T A) → In (stand o path) (stands [] t) → dominated_by isolated path (Arg x r k) ≡ true → gone_in x o path ≡ true
  argument_within x r k t root [] o h e = absurd (true≢false (sym e))
  argument_within x r k t root (a ∷ q) o h e =
      elim (either (list_any (λ f. shows (Arg x r k) (results_of f)) a.preceding) _ e) [
        | inl m ↦ absurd (true≢false (sym m ∙ none a.preceding))
        | inr m ↦ or_right (eqb (head o).id x) (gone_in x a.parent q) (elim (either (shows (Arg x r k) (arguments (head a.parent).id a.region (length a.args))) _ m) [
          | inl l ↦ own q (around_there t o a q h).1 (eqb-true x (head a.parent).id (both (eqb x (head a.parent).id) _ l).0)
          | inr l ↦ argument_within x r k t root q a.parent (around_there t o a q h).1 (both (not (isolated (head a.parent).name)) (dominated_by isolated q (Arg x r k)) l).1
        ])
      ]
    where
      none : (fs : List (OpOf N T A)) → list_any (λ f. shows (Arg x r k) (results_of f)) fs ≡ false
      none [] = refl
      none (f ∷ fs) = none fs

      own : (q : List (StepOf N T A)) → In (stand a.parent q) (stands [] t) → x ≡ (head a.parent).id → gone_in x a.parent q ≡ true
      own [] h s = absurd (true≢false (sym (eq-eqb (head t).id x (outermost t a.parent h ∙ sym s)) ∙ root))
        where
          outermost : (t p : OpOf N T A) → In (stand p []) (stands [] t) → (head t).id ≡ (head p).id
          outermost t p h = elim (has_around [] t (stand p []) h) [
            | inl k ↦ ap (λ (z : OpWithPathOf N T A). op_with_path_id z) (sym k)
            | inr w ↦ (let bad : [] ≡ w.0 ∷ w.1 = w.2 in absurd cc)
          ]
      own (b ∷ q) h s = or_left (eqb (head a.parent).id x) (gone_in x b.parent q) (eq-eqb (head a.parent).id x (sym s))

  -- an operation of a well-formed tree is shifted
  module _ (x : ℕ) (place : Place) (t o : OpOf N T A) (d : HasDistinctIds t) (found : find x t ≡ Some o) (root : eqb (head t).id x ≡ false) (point : has_place place t ≡ true) (out : leads_inside place (Some o) ≡ false) (wellformed : operands_visible isolated t ≡ true) where
    abbrev after : OpOf N T A
    after = shifted x place t

    after_distinct : HasDistinctIds (shifted x place t)
    after_distinct = subst HasDistinctIds (sym (shift.is_put x place t o d found root point out)) (shift.shift_distinct x place t o d found root point out)

    after_found : find x (shifted x place t) ≡ Some o
    after_found = ap (find x) (shift.is_put x place t o d found root point out) ∙ shift.shift_found x place t o d found root point out ∙ found

    after_rest : without x (shifted x place t) ≡ without x t
    after_rest = ap (without x) (shift.is_put x place t o d found root point out) ∙ shift.shift_rest x place t o d found root point out

    -- the shifted operations are inside it
    inside : (u : OpOf N T A) → HasDistinctIds u → find x u ≡ Some o → (s : OpWithPathOf N T A) → In s (stands [] u) → is_gone x s ≡ true → (path : List (StepOf N T A)) × In s (stands path o)
    inside u e f s h g =
        let w = gone_within x u s.path s.here h g in
        let same : Some w.here ≡ Some o = sym (stand_found u e (stand w.here (w.step_in ∷ w.path)) w.there) ∙ ap (λ z. find z u) w.id ∙ f in
        let one : w.here ≡ o = cc in
        (w.step_in ∷ w.path, subst (λ (z : OpOf N T A). In s (stands (w.step_in ∷ w.path) z)) one w.inner)

    -- the other operations have the same head before and after
    left_there : (u : OpOf N T A) → (s : OpWithPathOf N T A) → In s (stands [] u) → is_gone x s ≡ false → has_id (op_with_path_id s) (without x u) ≡ true
    left_there u s h g = ap (λ (z : HeadOf N T A). has_id z.id (without x u)) (sym (same_head x (dropping x) s.here)) ∙ stand_present [] (without x u) (left_stand x s) (left_member x u s h g)

    abbrev Duplicate : OpWithPathOf N T A → OpOf N T A → Type 0
    Duplicate s u = (z : OpWithPathOf N T A) × In z (stands [] u) × (head z.here ≡ head s.here)

    duplicate : (u : OpOf N T A) (s : OpWithPathOf N T A) → option_map head (find (op_with_path_id s) u) ≡ Some (head s.here) → Duplicate s u
    duplicate u s e = go (find (op_with_path_id s) u) refl e
      where
        go : (f : Option (OpOf N T A)) → find (op_with_path_id s) u ≡ f → option_map head f ≡ Some (head s.here) → Duplicate s u
        go None g e = absurd cc
        go (Some q) g e =
            let w = found_stands (op_with_path_id s) u q g in
            let same : head q ≡ head s.here = cc in
            (w.0, w.1, ap head w.3 ∙ same)

    -- an operation outside has a counterpart in the shifted tree
    forth : (s : OpWithPathOf N T A) → In s (stands [] t) → is_gone x s ≡ false → Duplicate s (shifted x place t)
    forth s h g =
        let k = left_there t s h g in
        duplicate after s (sym (head_stays x after after_distinct (op_with_path_id s) (ap (has_id (op_with_path_id s)) after_rest ∙ k)) ∙ ap (λ z. option_map head (find (op_with_path_id s) z)) after_rest ∙ head_stays x t d (op_with_path_id s) k ∙ ap (option_map head) (stand_found t d s h))

    -- and the other way round
    back : (s : OpWithPathOf N T A) → In s (stands [] (shifted x place t)) → is_gone x s ≡ false → Duplicate s t
    back s h g =
        let k = left_there after s h g in
        duplicate t s (sym (head_stays x t d (op_with_path_id s) (ap (has_id (op_with_path_id s)) (sym after_rest) ∙ k)) ∙ ap (λ z. option_map head (find (op_with_path_id s) z)) (sym after_rest) ∙ head_stays x after after_distinct (op_with_path_id s) k ∙ ap (option_map head) (stand_found after after_distinct s h))

    abbrev DominatedByInside : Type 0
    DominatedByInside = every (λ q. list_all (visible isolated (shifted x place t) (head q).id) (head q).operands) o ≡ true

    abbrev UsersSee : Type 0
    UsersSee = (k : ℕ) → k < length (head o).results → list_all (λ u. visible isolated (shifted x place t) u.0 (Result x k)) (uses_of (Result x k) t) ≡ true

    -- the operands inside it are visible
    seen_inside : operands_visible isolated (shifted x place t) ≡ true → every (λ q. list_all (visible isolated (shifted x place t) (head q).id) (head q).operands) o ≡ true
    seen_inside e =
        let w = found_stands x after o after_found in
        let there : In (stand o w.0.path) (stands [] after) = subst (λ (z : OpOf N T A). In (stand z w.0.path) (stands [] after)) w.3 w.1 in
        sym (stands_every (dominated_by_own after) w.0.path o) ∙ each_all (λ (z : OpWithPathOf N T A). dominated_by_own after z.here) (stands w.0.path o) (λ s h. each_dominated_by after after_distinct e s (within o w.0.path s h [] after there))

    -- its results are visible at their users
    is_visible_to_users : operands_visible isolated (shifted x place t) ≡ true → (k : ℕ) → k < length (head o).results → list_all (λ u. visible isolated (shifted x place t) u.0 (Result x k)) (uses_of (Result x k) t) ≡ true
    is_visible_to_users e k n = each_all (λ u. visible isolated after u.0 (Result x k)) (uses_of (Result x k) t) (λ u h.
        let w = of_gather (λ (s : OpWithPathOf N T A). operand_uses (Result x k) (op_with_path_id s) 0 (head s.here).operands) u (stands [] t) (subst (In u) (sym (stands_uses (Result x k) [] t)) h) in
        let r = of_uses (Result x k) (op_with_path_id w.0) 0 (head w.0.here).operands u w.2 in
        ap (λ z. visible isolated after z (Result x k)) r.0 ∙ seen w.0 w.1 (Result x k) r.1)
      where
        seen : (s : OpWithPathOf N T A) → In s (stands [] t) → (v : Value) → In v (head s.here).operands → visible isolated after (op_with_path_id s) v ≡ true
        seen s h v m = elim (bool_cases (is_gone x s)) [
          | inl g ↦ (let w = inside t d found s h g in
              all_each (visible isolated after (op_with_path_id s)) (head s.here).operands (all_each (λ (z : OpWithPathOf N T A). dominated_by_own after z.here) (stands w.0 o) (stands_every (dominated_by_own after) w.0 o ∙ seen_inside e) s w.1) v m)
          | inr g ↦ (let z = forth s h g in
              ap (λ (y : HeadOf N T A). visible isolated after y.id v) (sym z.2)
              ∙ all_each (visible isolated after (op_with_path_id z.0)) (head z.0.here).operands (each_dominated_by after after_distinct e z.0 z.1) v (subst (λ (y : HeadOf N T A). In v y.operands) (sym z.2) m))
        ]

    -- with both, all operands are visible
    module _ (inner : every (λ q. list_all (visible isolated (shifted x place t) (head q).id) (head q).operands) o ≡ true) (users : UsersSee) where
      was_seen : (s : OpWithPathOf N T A) → In s (stands [] t) → (v : Value) → In v (head s.here).operands → visible isolated t (op_with_path_id s) v ≡ true
      was_seen s h v m = all_each (visible isolated t (op_with_path_id s)) (head s.here).operands (each_dominated_by t d wellformed s h) v m

      -- a use of one of its results outside
      result_seen : (s : OpWithPathOf N T A) → In s (stands [] t) → (k : ℕ) → In (Result x k) (head s.here).operands → visible isolated after (op_with_path_id s) (Result x k) ≡ true
      result_seen s h k m =
          let n = used_here (Result x k) (op_with_path_id s) 0 (head s.here).operands (Result x k) m (same_value_refl (Result x k)) in
          let j : In (op_with_path_id s, n.0) (uses_of (Result x k) t) = subst (In (op_with_path_id s, n.0)) (stands_uses (Result x k) [] t) (in_gather (λ (z : OpWithPathOf N T A). operand_uses (Result x k) (op_with_path_id z) 0 (head z.here).operands) (op_with_path_id s, n.0) s (stands [] t) h n.1) in
          all_each (λ u. visible isolated after u.0 (Result x k)) (uses_of (Result x k) t) (users k few) (op_with_path_id s, n.0) j
        where
          few : k < length (head o).results
          few = go (slice_get (head o).results k) refl (sym (ap (λ f. is_some (option_and_then (λ z. slice_get (head z).results k) f)) found) ∙ (seen_by isolated t d s h (Result x k) (sym (visible_there isolated t d s h (Result x k)) ∙ was_seen s h (Result x k) m)).is)
            where
              go : (f : Option T) → slice_get (head o).results k ≡ f → is_some f ≡ true → k < length (head o).results
              go None e h = absurd (true≢false (sym h))
              go (Some y) e h = slice_get_within (head o).results k y e

      -- no use of an argument of it outside
      argument_unseen : (s : OpWithPathOf N T A) → In s (stands [] t) → is_gone x s ≡ false → (r k : ℕ) → In (Arg x r k) (head s.here).operands → ⊥
      argument_unseen s h g r k m = true≢false (sym (argument_within x r k t root s.path s.here h (sym (visible_there isolated t d s h (Arg x r k)) ∙ was_seen s h (Arg x r k) m)) ∙ g)

      -- a value of another operation is visible as before
      other_seen : (s : OpWithPathOf N T A) → In s (stands [] t) → is_gone x s ≡ false → (v : Value) → eqb (owner_of v).0 x ≡ false → In v (head s.here).operands → visible isolated after (op_with_path_id s) v ≡ true
      other_seen s h g v n m =
          let k = left_there t s h g in
          sym (dominance_stays x after after_distinct (op_with_path_id s) (ap (has_id (op_with_path_id s)) after_rest ∙ k) isolated v n)
          ∙ ap (λ z. visible isolated z (op_with_path_id s) v) after_rest
          ∙ dominance_stays x t d (op_with_path_id s) k isolated v n ∙ was_seen s h v m

      outside_seen : (s : OpWithPathOf N T A) → In s (stands [] t) → is_gone x s ≡ false → (v : Value) → In v (head s.here).operands → visible isolated after (op_with_path_id s) v ≡ true
      outside_seen s h g (Result y k) m = elim (bool_cases (eqb y x)) [
        | inr n ↦ other_seen s h g (Result y k) n m
        | inl n ↦ subst (λ z. In (Result z k) (head s.here).operands → visible isolated after (op_with_path_id s) (Result z k) ≡ true) (sym (eqb-true y x n)) (result_seen s h k) m
      ]
      outside_seen s h g (Arg y r k) m = elim (bool_cases (eqb y x)) [
        | inr n ↦ other_seen s h g (Arg y r k) n m
        | inl n ↦ absurd (argument_unseen s h g r k (subst (λ z. In (Arg z r k) (head s.here).operands) (eqb-true y x n) m))
      ]

      still_left : (s : OpWithPathOf N T A) → In s (stands [] after) → is_gone x s ≡ false → (z : OpWithPathOf N T A) → In z (stands [] t) → op_with_path_id z ≡ op_with_path_id s → is_gone x z ≡ false
      still_left s h g z i same = elim (bool_cases (is_gone x z)) [
        | inr k ↦ k
        | inl k ↦ (let left = sym (ap (has_id (op_with_path_id s)) after_rest) ∙ left_there after s h g in
            let p = present_stand [] (without x t) (op_with_path_id s) left in
            let m = member_left x t p.0 p.1 in
            let id : op_with_path_id m.0 ≡ op_with_path_id z = ap (λ (y : HeadOf N T A). y.id) (sym (same_head x (dropping x) m.0.here)) ∙ ap (λ (y : OpWithPathOf N T A). op_with_path_id y) (sym m.3) ∙ p.2 ∙ sym same in
            absurd (true≢false (sym k ∙ ap (is_gone x) (sym (same_stand t d m.0 z m.1 i id)) ∙ m.2)))
      ]

      pub shift_dominated_by : operands_visible isolated (shifted x place t) ≡ true
      shift_dominated_by = all_see after after_distinct (λ s h. elim (bool_cases (is_gone x s)) [
        | inl g ↦ (let w = inside after after_distinct after_found s h g in all_each (λ (z : OpWithPathOf N T A). dominated_by_own after z.here) (stands w.0 o) (stands_every (dominated_by_own after) w.0 o ∙ inner) s w.1)
        | inr g ↦ (let z = back s h g in
            each_all (visible isolated after (op_with_path_id s)) (head s.here).operands (λ v m.
            ap (λ (y : HeadOf N T A). visible isolated after y.id v) (sym z.2)
            ∙ outside_seen z.0 z.1 (still_left s h g z.0 z.1 (ap (λ (y : HeadOf N T A). y.id) z.2)) v (subst (λ (y : HeadOf N T A). In v y.operands) (sym z.2) m)))
      ])

    pub shift_seen : operands_visible isolated (shifted x place t) ≡ true → (every (λ q. list_all (visible isolated (shifted x place t) (head q).id) (head q).operands) o ≡ true) × ((k : ℕ) → k < length (head o).results → list_all (λ u. visible isolated (shifted x place t) u.0 (Result x k)) (uses_of (Result x k) t) ≡ true)
    shift_seen e = (seen_inside e, is_visible_to_users e)
