-- An operation that was inserted at a place is taken out again, operation by operation, the last in pre-order first.
use Rattle.std.proofs.Common.{◌≡◌, refl, ap, sym, ◌∙◌, subst, ℕ, Bool, true, false, true≢false, not, eqb, eqb-true, List, [], ◌∷◌, ◌++◌, reverse, append_assoc, append-nil, Some, None, inl, inr}
use Rattle.std.specs.List.{list_any, IsDistinct}
use Rattle.std.proofs.lemmas.List.{append_cancel_left, reverse-reverse, reverse-append}
use Rattle.ir_event.specs.types.declared.refusal.Refusal.TheVariants.{NoSuchOp, HasUses, IsRoot, NotEmpty}
use Rattle.ir_event.specs.trees.declared.value.Value.{Value}
use Rattle.ir_event.specs.trees.declared.place.Place.{Place}
use Rattle.ir_event.specs.trees.Tree.{HeadOf, OpOf, op, RegionsOf, no_regions, region, empty, block, no_ops, next, head, regions}
use Rattle.ir_event.specs.trees.Ids.{ids, regions_ids, HasDistinctIds, has_id, find}
use Rattle.ir_event.specs.trees.Frames.{owner_of}
use Rattle.ir_event.specs.trees.Places.{put, put_here, without}
use Rattle.ir_event.specs.trees.WellFormed.{IsWellFormed}
use Rattle.ir_event.proofs.of_trees.Moves.{take_put}
use Rattle.ir_event.proofs.of_trees.Left.{left_ids, left_distinct}
use Rattle.ir_event.proofs.of_trees.Returns.{Present, halves, absent_first}
use Rattle.ir_event.specs.tree_laws.Members.{In}
use Rattle.ir_event.specs.tree_laws.Reasons.{hold_none, holds_none, leaves, unused, take_reason}
use Rattle.ir_event.specs.tree_laws.Restores.{MayPut}
use Rattle.ir_event.specs.tree_laws.Stands.{OpWithPathOf, op_with_path_id, stands, dominated_by, left_stand, dropping}
use Rattle.ir_event.proofs.of_tree_laws.Listed.{bool_cases, either, all_each, each_all}
use Rattle.ir_event.proofs.of_tree_laws.Readings.{stands_every}
use Rattle.ir_event.proofs.of_tree_laws.Members.{found_stands, stand_found}
use Rattle.ir_event.proofs.of_tree_laws.Around.{stand_present, present_stand}
use Rattle.ir_event.proofs.of_tree_laws.Without.{same_head}
use Rattle.ir_event.proofs.of_tree_laws.Wellformed.{from_wellformed}
use Rattle.ir_event.proofs.of_tree_laws.PutForm.{landed, put_distinct, put_cases}
use Rattle.ir_event.proofs.of_tree_laws.Cuts.{one_cut, absent_before}
use Rattle.ir_event.proofs.of_tree_laws.Edited.{put_order, taken_order}
use Rattle.ir_event.proofs.of_tree_laws.Nested.{without_along, found_along}
use Rattle.ir_event.proofs.of_tree_laws.WellKept.{take_keeps}
use Rattle.rewriter_machine.specs.Erasing.{all_taken}
use Rattle.rewriter_machine.proofs.Earlier.{present_left, present_right, present_cases, first_there, crossed, op_cut, seen_earlier}
use Rattle.std.proofs.lemmas.Bool.{ne_eqb}
use Rattle.ir_event.proofs.of_trees.Facts.{ids_head}
use Rattle.ir_event.proofs.Facts.{own_id}
use Rattle.ir_event.proofs.of_tree_laws.Reverted.{passed}

no_parts : (xs ys : List ℕ) → xs ++ ys ≡ [] → (xs ≡ []) × (ys ≡ [])
no_parts [] ys e = (refl, e)
no_parts (x ∷ xs) ys e = absurd cc

-- a list that ends where another is split
ends : (y : ℕ) (xs us ys vs : List ℕ) → IsDistinct eqb (xs ++ y ∷ []) → xs ++ y ∷ [] ≡ us ++ (y ∷ ys ++ vs) → (xs ≡ us) × (ys ≡ []) × (vs ≡ [])
ends y xs us ys vs d e =
    let a = absent_before y xs [] d in
    let b = absent_before y us (ys ++ vs) (subst (IsDistinct eqb) e d) in
    let same = one_cut y xs us [] (ys ++ vs) a b e in
    let rest : y ∷ [] ≡ y ∷ ys ++ vs = append_cancel_left us (y ∷ []) (y ∷ ys ++ vs) (ap (λ l. l ++ y ∷ []) (sym same) ∙ e) in
    let none : ys ++ vs ≡ [] = cc in
    let n = no_parts ys vs none in
    (same, n.0, n.1)

module _ {N T A : Type 0} where
  none_held : (rs : RegionsOf N T A) → regions_ids rs ≡ [] → hold_none rs ≡ true
  none_held no_regions e = refl
  none_held (region empty rs) e = none_held rs e
  none_held (region (block args no_ops) rs) e = none_held rs e
  none_held (region (block args (next (op h is) os)) rs) e = absurd cc

  pub taken_more : (xs ys : List ℕ) (t : OpOf N T A) → all_taken (xs ++ ys) t ≡ all_taken ys (all_taken xs t)
  taken_more [] ys t = refl
  taken_more (x ∷ xs) ys t = taken_more xs ys (without x t)

  -- the last operation of a tree has no operations inside it
  module _ (q : OpOf N T A) (d : HasDistinctIds q) (ys : List ℕ) (y : ℕ) (is : ids q ≡ ys ++ y ∷ []) where
    last_there : has_id y q ≡ true
    last_there = ap (list_any (λ z. eqb z y)) is ∙ present_right y ys (y ∷ []) (first_there y y [] refl)

    record Last : Type 0 where
      here : OpOf N T A
      found : find y q ≡ Some here
      id : (head here).id ≡ y
      bare : regions_ids (regions here) ≡ []

    last_found : (isolated : N → Bool) → (z : OpOf N T A) → find y q ≡ Some z → Last
    last_found isolated z e =
        let s = found_stands y q z e in
        let c = op_cut isolated [] q s.0 s.1 in
        let n = ends y ys c.preceding (regions_ids (regions s.0.here)) c.back (subst (IsDistinct eqb) is d)
        (sym is ∙ c.is ∙ ap (λ l. c.preceding ++ (l ++ c.back)) (ids_head s.0.here ∙ ap (λ w. w ∷ regions_ids (regions s.0.here)) s.2)) in
        record { here = s.0.here; found = e ∙ ap Some (sym s.3); id = s.2; bare = n.1 }

    left_last : (z : OpOf N T A) → find y q ≡ Some z → (head z).id ≡ y → eqb (head q).id y ≡ false → ids (without y q) ≡ ys
    left_last z e id r =
        let o = taken_order y q z d e r in
        let n = ends y ys o.0 (regions_ids (regions z)) o.1 (subst (IsDistinct eqb) is d) (sym is ∙ o.2 ∙ ap (λ l. o.0 ++ (l ++ o.1)) (ids_head z ∙ ap (λ w. w ∷ regions_ids (regions z)) id)) in
        o.3 ∙ ap (λ l. o.0 ++ l) n.2 ∙ append-nil o.0 ∙ sym n.0

  -- the first operation of a tree isn't its last, if there are others
  not_first : (q : OpOf N T A) → HasDistinctIds q → (x : ℕ) (ys : List ℕ) (y : ℕ) → ids q ≡ (x ∷ ys) ++ y ∷ [] → eqb (head q).id y ≡ false
  not_first q d x ys y e =
      let all : (head q).id ∷ regions_ids (regions q) ≡ x ∷ (ys ++ y ∷ []) = sym (ids_head q) ∙ e in
      let first : (head q).id ≡ x = cc in
      ap (λ z. eqb z y) first
      ∙ ne_eqb x y (λ same. true≢false (sym (present_right x ys (y ∷ []) (first_there y x [] same)) ∙ absent_first x (ys ++ y ∷ []) (subst (IsDistinct eqb) e d)))

  -- operation q is at a place of a tree that is otherwise `rest`, and no other operation uses a value from within it
  module _ (isolated : N → Bool) (place : Place) (rest : OpOf N T A) (free : ℕ) where
    pub record Erasing (q : OpOf N T A) : Type 0 where
      pub may : MayPut place q rest
      pub wellformed : IsWellFormed isolated (record { tree = put place q rest; next = free })
      pub spared : (y : ℕ) → has_id y q ≡ true → (s : OpWithPathOf N T A) → In s (stands [] rest) → leaves y (head s.here) ≡ true

    module _ (q : OpOf N T A) (i : Erasing q) (ys : List ℕ) (y : ℕ) (is : ids q ≡ ys ++ y ∷ []) where
      abbrev now : OpOf N T A
      now = put place q rest

      last : Last q i.may.own ys y is
      last = (let s = present_stand [] q y (last_there q i.may.own ys y is) in
          last_found q i.may.own ys y is isolated s.0.here (ap (λ z. find z q) (sym s.2) ∙ stand_found q i.may.own s.0 s.1))

      -- the ids of the whole tree
      there : has_id y (put place q rest) ≡ true
      there =
          let o = put_order place q rest i.may in
          ap (list_any (λ z. eqb z y)) o.3 ∙ present_right y o.0 (ids q ++ o.1) (present_left y (ids q) o.1 (last_there q i.may.own ys y is))

      inner : eqb (head (put place q rest)).id y ≡ false
      inner =
          ap (λ (h : HeadOf N T A). eqb h.id y) (same_head y (put_here place q) rest)
          ∙ ne_eqb (head rest).id y (λ e. true≢false (sym (subst (λ z. has_id z rest ≡ true) e (own_id rest)) ∙ i.may.apart y (last_there q i.may.own ys y is)))

      -- the operations inside it come no later, so none of its values is visible at them
      unseen : (s : OpWithPathOf N T A) → In s (stands [] (put place q rest)) → has_id (op_with_path_id s) q ≡ true → (v : Value) → dominated_by isolated s.path v ≡ true → (owner_of v).0 ≡ y → ⊥
      unseen s h k v e own =
          let c = op_cut isolated [] (put place q rest) s h in
          let o = put_order place q rest i.may in
          let d = put_distinct place q rest i.may in
          let early : Present y c.preceding = subst (λ z. Present z c.preceding) own (seen_earlier isolated (put place q rest) s h v e) in
          let late : Present (op_with_path_id s) (ids s.here ++ c.back) = present_left (op_with_path_id s) (ids s.here) c.back (own_id s.here) in
          elim (present_cases (op_with_path_id s) ys (y ∷ []) (sym (ap (list_any (λ z. eqb z (op_with_path_id s))) is) ∙ k)) [
            | inr a ↦ (let same : op_with_path_id s ≡ y = one a in
                true≢false (sym (subst (λ z. Present z (ids s.here ++ c.back)) same late) ∙ (halves c.preceding (ids s.here ++ c.back) (subst (IsDistinct eqb) c.is d)).disjoint y early))
            | inl a ↦ crossed y (op_with_path_id s) c.preceding (ids s.here ++ c.back) (o.0 ++ ys) (y ∷ o.1) (subst (IsDistinct eqb) c.is d)
                (sym c.is ∙ o.3 ∙ ap (λ l. o.0 ++ (l ++ o.1)) is ∙ ap (λ l. o.0 ++ l) (append_assoc ys (y ∷ []) o.1) ∙ sym (append_assoc o.0 ys (y ∷ o.1)))
                early late (present_right (op_with_path_id s) o.0 ys a) (first_there y y o.1 refl)
          ]
        where
          one : Present (op_with_path_id s) (y ∷ []) → op_with_path_id s ≡ y
          one a = elim (either (eqb y (op_with_path_id s)) false a) [ inl b ↦ sym (eqb-true y (op_with_path_id s) b) | inr b ↦ absurd (true≢false (sym b)) ]

      left_alone : unused y (put place q rest) ≡ true
      left_alone = sym (stands_every (λ o. leaves y (head o)) [] (put place q rest)) ∙ each_all (λ (s : OpWithPathOf N T A). leaves y (head s.here)) (stands [] (put place q rest)) one
        where
          one : (s : OpWithPathOf N T A) → In s (stands [] (put place q rest)) → leaves y (head s.here) ≡ true
          one s h = elim (put_cases place q rest i.may s h) [
            | inl k ↦ sym (ap (leaves y) (same_head (head q).id (dropping (head q).id) s.here)) ∙ i.spared y (last_there q i.may.own ys y is) (left_stand (head q).id s) k.0
            | inr k ↦ each_all (λ v. not (eqb (owner_of v).0 y)) (head s.here).operands (λ v m. ap not (ne_eqb (owner_of v).0 y (λ e.
                unseen s h (stand_present ((landed place q rest i.may).step_in ∷ (landed place q rest i.may).path) q s k) v
                (all_each (dominated_by isolated s.path) (head s.here).operands ((from_wellformed isolated (put place q rest) i.wellformed.wellformed).dominated_by_own s h) v m) e)))
          ]

      pub may_take : take_reason y (put place q rest) ≡ None
      may_take =
          passed _ NoSuchOp _ there
          (passed _ IsRoot _ (ap not inner)
          (passed _ NotEmpty _ (ap holds_none (found_along place q rest i.may y last.here last.found) ∙ none_held (regions last.here) last.bare)
          (passed _ HasUses None left_alone refl)))

      -- if it isn't the root of q, it is taken out of q
      module _ (under : eqb (head q).id y ≡ false) where
        pub taken_along : without y (put place q rest) ≡ put place (without y q) rest
        taken_along = without_along y place q under rest (i.may.apart y (last_there q i.may.own ys y is))

        pub taken_ids : ids (without y q) ≡ ys
        taken_ids = left_last q i.may.own ys y is last.here last.found last.id under

        still_there : (z : ℕ) → has_id z (without y q) ≡ true → has_id z q ≡ true
        still_there z h = elim (bool_cases (has_id z q)) [ inl k ↦ k | inr k ↦ absurd (true≢false (sym h ∙ left_ids y z q k)) ]

        pub taken_goes_on : Erasing (without y q)
        taken_goes_on = record {
          may = record { distinct = i.may.distinct; own = left_distinct y q i.may.own; apart = λ z h. i.may.apart z (still_there z h); point = i.may.point };
          wellformed = subst (λ (t : OpOf N T A). IsWellFormed isolated (record { tree = t; next = free })) taken_along (take_keeps isolated y (record { tree = put place q rest; next = free }) i.wellformed may_take);
          spared = λ z h. i.spared z (still_there z h);
        }

    -- the sequence of steps
    pub record Reached (ys zs : List ℕ) (q : OpOf N T A) : Type 0 where
      pub here : OpOf N T A
      pub goes_on : Erasing here
      pub is : all_taken ys (put place q rest) ≡ put place here rest
      pub order : reverse (ids here) ≡ zs
      pub same : (head here).id ≡ (head q).id

    turned : (xs ys : List ℕ) → xs ≡ reverse ys → ys ≡ reverse xs
    turned xs ys e = sym (reverse-reverse ys) ∙ ap reverse (sym e)

    last_of : (y : ℕ) (xs ys : List ℕ) → y ∷ xs ≡ reverse ys → ys ≡ reverse xs ++ y ∷ []
    last_of y xs ys e = turned (y ∷ xs) ys e ∙ reverse-append (y ∷ []) xs

    pub id_stays : (y : ℕ) (q : OpOf N T A) → (head (without y q)).id ≡ (head q).id
    id_stays y q = ap (λ (h : HeadOf N T A). h.id) (same_head y (dropping y) q)

    under_root : (q : OpOf N T A) → HasDistinctIds q → (xs : List ℕ) (y : ℕ) → ids q ≡ xs ++ y ∷ [] → (xs ≡ [] → ⊥) → eqb (head q).id y ≡ false
    under_root q d [] y e f = absurd (f refl)
    under_root q d (x ∷ xs) y e f = not_first q d x xs y e

    some_left : (ys : List ℕ) (z : ℕ) (zs : List ℕ) → reverse (ys ++ z ∷ zs) ≡ [] → ⊥
    some_left ys z zs e = some (ys ++ z ∷ zs) (sym (reverse-reverse (ys ++ z ∷ zs)) ∙ ap reverse e) ys refl
      where
        some : (xs : List ℕ) → xs ≡ [] → (ys : List ℕ) → xs ≡ ys ++ z ∷ zs → ⊥
        some xs e [] k = (let bad : [] ≡ z ∷ zs = sym e ∙ k in cc)
        some xs e (y ∷ ys) k = (let bad : [] ≡ y ∷ (ys ++ z ∷ zs) = sym e ∙ k in cc)

    pub reach : (ys : List ℕ) (z : ℕ) (zs : List ℕ) (q : OpOf N T A) → Erasing q → ys ++ z ∷ zs ≡ reverse (ids q) → Reached ys (z ∷ zs) q
    reach [] z zs q i e = record { here = q; goes_on = i; is = refl; order = sym e; same = refl }
    reach (y ∷ ys) z zs q i e =
        let is = last_of y (ys ++ z ∷ zs) (ids q) e in
        let under = under_root q i.may.own (reverse (ys ++ z ∷ zs)) y is (some_left ys z zs) in
        let r = reach ys z zs (without y q) (taken_goes_on q i (reverse (ys ++ z ∷ zs)) y is under)
        (sym (reverse-reverse (ys ++ z ∷ zs)) ∙ ap reverse (sym (taken_ids q i (reverse (ys ++ z ∷ zs)) y is under))) in
        record {
          here = r.here;
          goes_on = r.goes_on;
          is = ap (all_taken ys) (taken_along q i (reverse (ys ++ z ∷ zs)) y is under) ∙ r.is;
          order = r.order;
          same = r.same ∙ id_stays y q;
        }

    -- each may be taken out
    pub each_may : (ys : List ℕ) (y : ℕ) (zs : List ℕ) (q : OpOf N T A) → Erasing q → ys ++ y ∷ zs ≡ reverse (ids q) → take_reason y (all_taken ys (put place q rest)) ≡ None
    each_may ys y zs q i e =
        let r = reach ys y zs q i e in
        ap (take_reason y) r.is ∙ may_take r.here r.goes_on (reverse zs) y (last_of y zs (ids r.here) (sym r.order))

    -- the last one is the root of q
    order_ends : (q : OpOf N T A) → reverse (ids q) ≡ reverse (regions_ids (regions q)) ++ (head q).id ∷ []
    order_ends q = ap reverse (ids_head q) ∙ reverse-append ((head q).id ∷ []) (regions_ids (regions q))

    pub all_gone : (q : OpOf N T A) → Erasing q → all_taken (reverse (ids q)) (put place q rest) ≡ rest
    all_gone q i =
        let xs = reverse (regions_ids (regions q)) in
        let r = reach xs (head q).id [] q i (sym (order_ends q)) in
        ap (λ l. all_taken l (put place q rest)) (order_ends q)
        ∙ taken_more xs ((head q).id ∷ []) (put place q rest)
        ∙ ap (without (head q).id) r.is
        ∙ ap (λ z. without z (put place r.here rest)) (sym r.same)
        ∙ take_put place r.here rest (r.goes_on.may.apart (head r.here).id (own_id r.here))

    pub rest_wellformed : (q : OpOf N T A) → Erasing q → IsWellFormed isolated (record { tree = rest; next = free })
    rest_wellformed q i =
        let xs = reverse (regions_ids (regions q)) in
        let r = reach xs (head q).id [] q i (sym (order_ends q)) in
        let e = sym (ap (λ l. all_taken l (put place q rest)) (order_ends q) ∙ taken_more xs ((head q).id ∷ []) (put place q rest) ∙ ap (without (head q).id) r.is) ∙ all_gone q i in
        subst (λ (t : OpOf N T A). IsWellFormed isolated (record { tree = t; next = free })) e
        (take_keeps isolated (head q).id (record { tree = put place r.here rest; next = free }) r.goes_on.wellformed
        (may_take r.here r.goes_on [] (head q).id (last_of (head q).id [] (ids r.here) (sym r.order))))

    pub each_wellformed : (ys zs : List ℕ) (q : OpOf N T A) → Erasing q → ys ++ zs ≡ reverse (ids q) → IsWellFormed isolated (record { tree = all_taken ys (put place q rest); next = free })
    each_wellformed ys [] q i e =
        subst (λ (t : OpOf N T A). IsWellFormed isolated (record { tree = t; next = free })) (sym (ap (λ l. all_taken l (put place q rest)) (sym (append-nil ys) ∙ e) ∙ all_gone q i)) (rest_wellformed q i)
    each_wellformed ys (z ∷ zs) q i e =
        let r = reach ys z zs q i e in
        subst (λ (t : OpOf N T A). IsWellFormed isolated (record { tree = t; next = free })) (sym r.is) r.goes_on.wellformed
