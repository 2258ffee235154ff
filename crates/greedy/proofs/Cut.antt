-- The ids of a tree after one operation is taken out, and after one is inserted before another.
use Rattle.std.proofs.Common.{◌≡◌, refl, ap, sym, ◌∙◌, subst, ℕ, ◌+◌, ◌≤◌, true, false, true≢false, cond, ◌||◌, eqb, eq-eqb, eqb-true, List, [], ◌∷◌, ◌++◌, length, map, append_assoc, length-append, Some, inl, inr, ◌⊎◌, arith}
use Rattle.std.specs.List.{list_any, IsDistinct}
use Rattle.std.proofs.lemmas.List.{append_cancel_left}
use Rattle.std.proofs.lemmas.Map.Keys.{IsDistinct-tail}
use Rattle.ir_event.specs.trees.declared.place.Place.{Place}
use Rattle.ir_event.specs.trees.Tree.{OpOf, op, RegionsOf, no_regions, region, RegionOf, empty, block, OpsOf, no_ops, next, head, regions}
use Rattle.ir_event.specs.trees.Ids.{ids, regions_ids, region_ids, ops_ids, HasDistinctIds, find, regions_find}
use Rattle.ir_event.specs.trees.Places.{each_list, regions_each_list, region_each_list, ops_each_list, put_before, put_in, is_in_block, put_here, put, without}
use Rattle.ir_event.proofs.of_trees.Moves.{Absent, absent_parts, ops_unput, list_id}
use Rattle.ir_event.proofs.of_trees.Returns.{Present, absent_first, halves, elsewhere}
use Rattle.ir_event.proofs.of_trees.Left.{left_distinct}
use Rattle.ir_event.specs.tree_laws.Stands.{OpWithPathOf, op_with_path_id, stands, is_gone, left_stand, dropping}
use Rattle.ir_event.specs.tree_laws.Members.{In}
use Rattle.ir_event.proofs.of_tree_laws.Listed.{both}
use Rattle.ir_event.proofs.of_tree_laws.Members.{stand, within, found_stands, stand_found, found_in}
use Rattle.ir_event.proofs.of_tree_laws.Around.{stand_present, present_stand, gone_within}
use Rattle.ir_event.proofs.of_tree_laws.Without.{left_member}
use Rattle.ir_event.proofs.of_tree_laws.Stretches.{Parted, part, parted_ids, left_ids}
use Rattle.ir_event.proofs.of_tree_laws.Shift.{Inner, inner_of, own_distinct}
use Rattle.ir_event.proofs.of_tree_laws.Cuts.{one_cut, absent_before}
use Rattle.std.proofs.lemmas.Bool.{cases_Bool}
use Rattle.ir_event.proofs.of_trees.Facts.{ids_head}

-- a list after other entries are inserted before one entry
pub record Came (b : ℕ) (others xs ys : List ℕ) : Type 0 where
  pub preceding : List ℕ
  pub back : List ℕ
  pub was : xs ≡ preceding ++ (b ∷ back)
  pub is : ys ≡ preceding ++ (others ++ (b ∷ back))

-- a list with such an insertion, or unchanged
abbrev pub MayCome : ℕ → List ℕ → List ℕ → List ℕ → Type 0
MayCome b others xs ys = (ys ≡ xs) ⊎ Came b others xs ys

there : (b : ℕ) (xs ys : List ℕ) → Present b (xs ++ (b ∷ ys))
there b [] ys = ap (λ c. c || list_any (λ y. eqb y b) ys) (eq-eqb b b refl)
there b (x ∷ xs) ys = elim (eqb x b) as (λ c. (c || list_any (λ y. eqb y b) (xs ++ (b ∷ ys))) ≡ true) [ true ↦ refl | false ↦ there b xs ys ]

come_there : (b : ℕ) (others xs ys : List ℕ) → Came b others xs ys → Present b xs
come_there b others xs ys c = ap (list_any (λ y. eqb y b)) c.was ∙ there b c.preceding c.back

come_left : (b : ℕ) (others xs ys us vs : List ℕ) → Came b others xs ys → vs ≡ us → Came b others (xs ++ us) (ys ++ vs)
come_left b others xs ys us vs c e = record {
  preceding = c.preceding;
  back = c.back ++ us;
  was = ap (λ l. l ++ us) c.was ∙ append_assoc c.preceding (b ∷ c.back) us;
  is = (λ i. c.is i ++ e i) ∙ append_assoc c.preceding (others ++ (b ∷ c.back)) us ∙ ap (λ l. c.preceding ++ l) (append_assoc others (b ∷ c.back) us);
}

come_right : (b : ℕ) (others xs ys us vs : List ℕ) → ys ≡ xs → Came b others us vs → Came b others (xs ++ us) (ys ++ vs)
come_right b others xs ys us vs e c = record {
  preceding = xs ++ c.preceding;
  back = c.back;
  was = ap (λ l. xs ++ l) c.was ∙ sym (append_assoc xs c.preceding (b ∷ c.back));
  is = (λ i. e i ++ c.is i) ∙ sym (append_assoc xs c.preceding (others ++ (b ∷ c.back)));
}

joined : (b : ℕ) (others xs ys us vs : List ℕ) → IsDistinct eqb (xs ++ us) → MayCome b others xs ys → MayCome b others us vs → MayCome b others (xs ++ us) (ys ++ vs)
joined b others xs ys us vs d (inl e) (inl f) = inl (λ i. e i ++ f i)
joined b others xs ys us vs d (inl e) (inr c) = inr (come_right b others xs ys us vs e c)
joined b others xs ys us vs d (inr c) (inl f) = inr (come_left b others xs ys us vs c f)
joined b others xs ys us vs d (inr c) (inr k) = absurd (true≢false (sym (come_there b others us vs k) ∙ (halves xs us d).disjoint b (come_there b others xs ys c)))

trailing : (b x : ℕ) (others xs ys : List ℕ) → MayCome b others xs ys → MayCome b others (x ∷ xs) (x ∷ ys)
trailing b x others xs ys (inl e) = inl (ap (λ l. x ∷ l) e)
trailing b x others xs ys (inr c) = inr (come_right b others (x ∷ []) (x ∷ []) xs ys refl c)

module _ {N T A : Type 0} (place : Place) (o : OpOf N T A) (b : ℕ) (before : place.before ≡ Some b) where
  put_before_ids : (os : OpsOf N T A) → MayCome b (ids o) (ops_ids os) (ops_ids (put_before b o os))
  put_before_ids no_ops = inl refl
  put_before_ids (next (op h rs) os) = elim (cases_Bool (eqb h.id b)) [
    | inl e ↦ inr (record {
      preceding = [];
      back = regions_ids rs ++ ops_ids os;
      was = ap (λ y. y ∷ (regions_ids rs ++ ops_ids os)) (eqb-true h.id b e);
      is = ap (λ c. ops_ids (cond c (next o (next (op h rs) os)) (next (op h rs) (put_before b o os)))) e ∙ ap (λ y. ids o ++ (y ∷ (regions_ids rs ++ ops_ids os))) (eqb-true h.id b e);
    })
    | inr e ↦ subst (λ l. MayCome b (ids o) (ids (op h rs) ++ ops_ids os) l) (sym (ap (λ c. ops_ids (cond c (next o (next (op h rs) os)) (next (op h rs) (put_before b o os)))) e)) (later (put_before_ids os))
  ]
    where
      later : MayCome b (ids o) (ops_ids os) (ops_ids (put_before b o os)) → MayCome b (ids o) (ids (op h rs) ++ ops_ids os) (ids (op h rs) ++ ops_ids (put_before b o os))
      later (inl e) = inl (ap (λ l. ids (op h rs) ++ l) e)
      later (inr c) = inr (come_right b (ids o) (ids (op h rs)) (ids (op h rs)) (ops_ids os) (ops_ids (put_before b o os)) refl c)

  put_block : (p r : ℕ) (os : OpsOf N T A) → Absent p (ops_ids os) → MayCome b (ids o) (ops_ids os) (ops_ids (ops_each_list (put_here place o) os)) → MayCome b (ids o) (ops_ids os) (ops_ids (put_here place o p r (ops_each_list (put_here place o) os)))
  put_block p r os a inner = elim (cases_Bool (is_in_block place p r)) [
    | inr e ↦ subst (λ (l : OpsOf N T A). MayCome b (ids o) (ops_ids os) (ops_ids l)) (sym (elsewhere place o p r (ops_each_list (put_here place o) os) e)) inner
    | inl e ↦ (let here : p ≡ place.parent = eqb-true p place.parent (both (eqb p place.parent) (eqb r place.region) e).0 in
        let kept : ops_each_list (put_here place o) os ≡ os = ops_unput place o os (subst (λ (z : ℕ). Absent z (ops_ids os)) here a) in
        let is : put_here place o p r (ops_each_list (put_here place o) os) ≡ put_before b o os =
        ap (put_here place o p r) kept ∙ ap (λ c. cond c (put_in place.before o os) os) e ∙ ap (λ z. put_in z o os) before in
        subst (λ (l : OpsOf N T A). MayCome b (ids o) (ops_ids os) (ops_ids l)) (sym is) (put_before_ids os))
  ]

  mutual
    put_op : (t : OpOf N T A) → IsDistinct eqb (ids t) → MayCome b (ids o) (ids t) (ids (each_list (put_here place o) t))
    put_op (op h rs) d = trailing b h.id (ids o) (regions_ids rs) (regions_ids (regions_each_list (put_here place o) h.id 0 rs)) (put_regions h.id 0 rs (absent_first h.id (regions_ids rs) d) (IsDistinct-tail eqb h.id (regions_ids rs) d))

    put_regions : (p r : ℕ) (rs : RegionsOf N T A) → Absent p (regions_ids rs) → IsDistinct eqb (regions_ids rs) → MayCome b (ids o) (regions_ids rs) (regions_ids (regions_each_list (put_here place o) p r rs))
    put_regions p r no_regions a d = inl refl
    put_regions p r (region g rs) a d =
        let two = absent_parts p (region_ids g) (regions_ids rs) a in
        let hv = halves (region_ids g) (regions_ids rs) d in
        joined b (ids o) (region_ids g) (region_ids (region_each_list (put_here place o) p r g)) (regions_ids rs) (regions_ids (regions_each_list (put_here place o) p (r + 1) rs)) d (put_region p r g two.0 hv.left) (put_regions p (r + 1) rs two.1 hv.right)

    put_region : (p r : ℕ) (g : RegionOf N T A) → Absent p (region_ids g) → IsDistinct eqb (region_ids g) → MayCome b (ids o) (region_ids g) (region_ids (region_each_list (put_here place o) p r g))
    put_region p r empty a d = inl refl
    put_region p r (block args os) a d = put_block p r os a (put_ops os d)

    put_ops : (os : OpsOf N T A) → IsDistinct eqb (ops_ids os) → MayCome b (ids o) (ops_ids os) (ops_ids (ops_each_list (put_here place o) os))
    put_ops no_ops d = inl refl
    put_ops (next q os) d =
        let hv = halves (ids q) (ops_ids os) d in
        joined b (ids o) (ids q) (ids (each_list (put_here place o) q)) (ops_ids os) (ops_ids (ops_each_list (put_here place o) os)) d (put_op q hv.left) (put_ops os hv.right)

  -- the ids are inserted before b, or nothing is inserted
  pub put_may : (t : OpOf N T A) → HasDistinctIds t → MayCome b (ids o) (ids t) (ids (put place o t))
  put_may t d = put_op t d

  -- nothing is inserted if b isn't inside
  pub put_outside : (t : OpOf N T A) → HasDistinctIds t → Absent b (regions_ids (regions t)) → ids (put place o t) ≡ ids t
  put_outside (op h rs) d a = go (put_regions h.id 0 rs (absent_first h.id (regions_ids rs) d) (IsDistinct-tail eqb h.id (regions_ids rs) d))
    where
      go : MayCome b (ids o) (regions_ids rs) (regions_ids (regions_each_list (put_here place o) h.id 0 rs)) → h.id ∷ regions_ids (regions_each_list (put_here place o) h.id 0 rs) ≡ h.id ∷ regions_ids rs
      go (inl e) = ap (λ l. h.id ∷ l) e
      go (inr c) = absurd (true≢false (sym (come_there b (ids o) (regions_ids rs) (regions_ids (regions_each_list (put_here place o) h.id 0 rs)) c) ∙ a))

module _ {N T A : Type 0} where
  pub found_present : (x : ℕ) (t o : OpOf N T A) → find x t ≡ Some o → Present x (ids t)
  found_present x t o e = let s = found_stands x t o e in subst (λ z. Present z (ids t)) s.2 (stand_present [] t s.0 s.1)

  -- an operation with another operation before it isn't the root
  pub not_root : (y : ℕ) (t o : OpOf N T A) (xs ys : List ℕ) → find y t ≡ Some o → ids t ≡ xs ++ (ids o ++ ys) → 1 ≤ length xs → eqb (head t).id y ≡ false
  not_root y t o xs ys e is l = elim (cases_Bool (eqb (head t).id y)) [
    | inr k ↦ k
    | inl k ↦ absurd (
        let all : Some t ≡ Some o = sym (root_found t k) ∙ e in
        let same : t ≡ o = cc in
        let n = ap length (ap ids (sym same) ∙ is) in
        let a = length-append xs (ids o ++ ys) in
        let b = length-append (ids o) ys in
        omega (arith, n, a, b, l))
  ]
    where
      root_found : (t : OpOf N T A) → eqb (head t).id y ≡ true → find y t ≡ Some t
      root_found (op h rs) k = ap (λ b. cond b (Some (op h rs)) (regions_find y rs)) k

  -- taking an operation out takes its ids out
  pub without_ids : (y : ℕ) (t o : OpOf N T A) (xs ys : List ℕ) → HasDistinctIds t → find y t ≡ Some o → eqb (head t).id y ≡ false → ids t ≡ xs ++ (ids o ++ ys) → ids (without y t) ≡ xs ++ ys
  without_ids y t o xs ys d e root is =
      ap (λ z. ids (without z t)) (sym i.id) ∙ left_ids (head o).id (i.step_in ∷ i.path) o t w ∙ (λ j. precedings j ++ backs j)
    where
      i : Inner y t o
      i = inner_of y t o e root

      w : Parted (head o).id (i.step_in ∷ i.path) o t
      w = part t d o i.step_in i.path i.there

      us : List ℕ
      us = map (λ (z : OpWithPathOf N T A). op_with_path_id z) w.preceding

      vs : List ℕ
      vs = map (λ (z : OpWithPathOf N T A). op_with_path_id z) w.back

      cut : ids t ≡ us ++ (ids o ++ vs)
      cut = parted_ids (head o).id (i.step_in ∷ i.path) o t w

      heads : (l : List ℕ) → ids o ++ l ≡ (head o).id ∷ (regions_ids (regions o) ++ l)
      heads l = ap (λ z. z ++ l) (ids_head o)

      once : (xs ys : List ℕ) → ids t ≡ xs ++ (ids o ++ ys) → Absent (head o).id xs
      once xs ys k = absent_before (head o).id xs (regions_ids (regions o) ++ ys) (subst (IsDistinct eqb) (k ∙ ap (λ l. xs ++ l) (heads ys)) d)

      precedings : us ≡ xs
      precedings = one_cut (head o).id us xs (regions_ids (regions o) ++ vs) (regions_ids (regions o) ++ ys) (once us vs cut) (once xs ys is)
          (ap (λ l. us ++ l) (sym (heads vs)) ∙ sym cut ∙ is ∙ ap (λ l. xs ++ l) (heads ys))

      backs : vs ≡ ys
      backs = append_cancel_left (ids o) vs ys (append_cancel_left us (ids o ++ vs) (ids o ++ ys) (sym cut ∙ is ∙ ap (λ l. l ++ (ids o ++ ys)) (sym precedings)))

  -- an operation outside the removed one is found as before
  pub without_found : (y z : ℕ) (t o v : OpOf N T A) → HasDistinctIds t → find y t ≡ Some o → find z t ≡ Some v → Absent z (ids o) → find z (without y t) ≡ Some (without y v)
  without_found y z t o v d e f a = elim (cases_Bool (is_gone y s.0)) [
    | inl k ↦ absurd (
        let w = gone_within y t s.0.path s.0.here s.1 k in
        let two : Some w.here ≡ Some o = sym (stand_found t d (stand w.here (w.step_in ∷ w.path)) w.there) ∙ ap (λ j. find j t) w.id ∙ e in
        let same : w.here ≡ o = cc in
        true≢false (sym (subst (λ j. Present j (ids o)) s.2 (subst (λ (q : OpOf N T A). Present (op_with_path_id s.0) (ids q)) same (stand_present (w.step_in ∷ w.path) w.here s.0 w.inner))) ∙ a))
    | inr k ↦
        ap (λ j. find j (without y t)) (sym (list_id (dropping y) s.0.here ∙ s.2))
        ∙ stand_found (without y t) (left_distinct y t d) (left_stand y s.0) (left_member y t s.0 s.1 k)
        ∙ ap (λ (q : OpOf N T A). Some (without y q)) s.3
  ]
    where
      s : (s : OpWithPathOf N T A) × In s (stands [] t) × (op_with_path_id s ≡ z) × (s.here ≡ v)
      s = found_stands z t v f

  -- an operation that is found inside an operation of a tree is found in the tree
  pub found_within : (x y : ℕ) (t u o : OpOf N T A) → HasDistinctIds t → find x t ≡ Some u → find y u ≡ Some o → find y t ≡ Some o
  found_within x y t u o d e f =
      let s = found_stands x t u e in
      let w = present_stand s.0.path u y (found_present y u o f) in
      let inner : Some w.0.here ≡ Some o = sym (found_in s.0.path u (own_distinct x t u d e) w.0 w.1) ∙ ap (λ j. find j u) w.2 ∙ f in
      let at : In (stand u s.0.path) (stands [] t) = subst (λ (q : OpOf N T A). In (stand q s.0.path) (stands [] t)) s.3 s.1 in
      ap (λ j. find j t) (sym w.2) ∙ stand_found t d w.0 (within u s.0.path w.0 w.1 [] t at) ∙ inner
