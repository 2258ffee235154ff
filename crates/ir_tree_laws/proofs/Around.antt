-- The depth of operations, and their places.
use Rattle.std.proofs.Common.{◌≡◌, refl, ap, sym, ◌∙◌, subst, ℕ, ◌+◌, Bool, true, false, true≢false, cond, not, ◌||◌, eqb, eq-eqb, eqb-true, List, [], ◌∷◌, ◌++◌, length, map, Option, Some, None, option_map, inl, inr, arith}
use Rattle.std.specs.List.{list_any}
use Rattle.ir_tree.specs.declared.place.Place.{Place}
use Rattle.ir_tree.specs.Tree.{OpOf, op, RegionsOf, no_regions, region, RegionOf, empty, block, OpsOf, no_ops, next, head}
use Rattle.ir_tree.specs.Ids.{ids, HasDistinctIds, first_of, find}
use Rattle.ir_tree.specs.Places.{place_of}
use Rattle.ir_tree_laws.specs.Reads.{around_in, regions_around, region_around, ops_around}
use Rattle.ir_tree_laws.specs.Stands.{StepOf, OpWithPathOf, op_with_path_id, stands, regions_stands, region_stands, ops_stands, find_op_with_path, first_some, place_in, place_at, gone_in, is_gone}
use Rattle.ir_tree_laws.specs.Members.{In}
use Rattle.ir_tree_laws.proofs.Listed.{bool_cases, any_one, one_any, either, neither, in_filter}
use Rattle.ir_tree_laws.proofs.Readings.{step, joined_first, stands_ids, stands_find, stands_place}
use Rattle.ir_tree_laws.proofs.Members.{stand, itself, within, has_around, same_stand}
use Rattle.ir_tree_laws.proofs.Without.{op_goes, keep}

pub any_ids : {X : Type 0} (f : X → ℕ) (x : ℕ) (xs : List X) → list_any (λ y. eqb y x) (map f xs) ≡ list_any (λ s. eqb (f s) x) xs
any_ids f x [] = refl
any_ids f x (y ∷ xs) = ap (λ b. eqb (f y) x || b) (any_ids f x xs)

module _ {N T A : Type 0} where
  abbrev many : OpWithPathOf N T A → ℕ
  many s = length s.path

  mutual
    pub stands_around : (x : ℕ) (path : List (StepOf N T A)) (t : OpOf N T A) → option_map many (find_op_with_path x (stands path t)) ≡ around_in x (length path) t
    stands_around x path (op h rs) =
        elim (eqb h.id x) as (λ b. option_map many (cond b (Some (stand (op h rs) path)) (find_op_with_path x (regions_stands (op h rs) path 0 rs))) ≡ cond b (Some (length path)) (regions_around x (length path + 1) rs))
        [ true ↦ refl | false ↦ regions_stands_around x (op h rs) path 0 rs ]

    regions_stands_around : (x : ℕ) (p : OpOf N T A) (path : List (StepOf N T A)) (r : ℕ) (rs : RegionsOf N T A) → option_map many (find_op_with_path x (regions_stands p path r rs)) ≡ regions_around x (length path + 1) rs
    regions_stands_around x p path r no_regions = refl
    regions_stands_around x p path r (region g rs) =
        joined_first many x (region_stands p path r g) (regions_stands p path (r + 1) rs) ∙ λ i. first_of (region_stands_around x p path r g i) (regions_stands_around x p path (r + 1) rs i)

    region_stands_around : (x : ℕ) (p : OpOf N T A) (path : List (StepOf N T A)) (r : ℕ) (g : RegionOf N T A) → option_map many (find_op_with_path x (region_stands p path r g)) ≡ region_around x (length path + 1) g
    region_stands_around x p path r empty = refl
    region_stands_around x p path r (block args os) = ops_stands_around x p path r args [] os

    ops_stands_around : (x : ℕ) (p : OpOf N T A) (path : List (StepOf N T A)) (r : ℕ) (args : List T) (preceding : List (OpOf N T A)) (os : OpsOf N T A) → option_map many (find_op_with_path x (ops_stands p path r args preceding os)) ≡ ops_around x (length path + 1) os
    ops_stands_around x p path r args preceding no_ops = refl
    ops_stands_around x p path r args preceding (next o os) =
        let one : length (step p r args preceding os ∷ path) ≡ length path + 1 = omega arith in
        joined_first many x (stands (step p r args preceding os ∷ path) o) (ops_stands p path r args (preceding ++ o ∷ []) os)
        ∙ λ i. first_of ((stands_around x (step p r args preceding os ∷ path) o ∙ ap (λ n. around_in x n o) one) i) (ops_stands_around x p path r args (preceding ++ o ∷ []) os i)

  -- ids
  pub stand_present : (path : List (StepOf N T A)) (t : OpOf N T A) (s : OpWithPathOf N T A) → In s (stands path t) → list_any (λ y. eqb y (op_with_path_id s)) (ids t) ≡ true
  stand_present path t s h =
      ap (list_any (λ y. eqb y (op_with_path_id s))) (sym (stands_ids path t))
      ∙ any_ids (λ (u : OpWithPathOf N T A). op_with_path_id u) (op_with_path_id s) (stands path t)
      ∙ any_one (λ (u : OpWithPathOf N T A). eqb (op_with_path_id u) (op_with_path_id s)) (stands path t) s h (eq-eqb (op_with_path_id s) (op_with_path_id s) refl)

  pub present_stand : (path : List (StepOf N T A)) (t : OpOf N T A) (x : ℕ) → list_any (λ y. eqb y x) (ids t) ≡ true → (s : OpWithPathOf N T A) × In s (stands path t) × (op_with_path_id s ≡ x)
  present_stand path t x e =
      let w = one_any (λ (u : OpWithPathOf N T A). eqb (op_with_path_id u) x) (stands path t) (sym (any_ids (λ (u : OpWithPathOf N T A). op_with_path_id u) x (stands path t)) ∙ ap (list_any (λ y. eqb y x)) (stands_ids path t) ∙ e) in
      (w.0, w.1, eqb-true (op_with_path_id w.0) x w.2)

  pub absent_stand : (path : List (StepOf N T A)) (t : OpOf N T A) (x : ℕ) → list_any (λ y. eqb y x) (ids t) ≡ false → (s : OpWithPathOf N T A) → In s (stands path t) → op_with_path_id s ≡ x → ⊥
  absent_stand path t x a s h e = true≢false (sym (stand_present path t s h) ∙ ap (λ z. list_any (λ y. eqb y z) (ids t)) e ∙ a)

  none_in : (x : ℕ) (ss : List (OpWithPathOf N T A)) → ((s : OpWithPathOf N T A) → In s ss → op_with_path_id s ≡ x → ⊥) → find_op_with_path x ss ≡ None
  none_in x [] f = refl
  none_in x (s ∷ ss) f =
      elim (bool_cases (eqb (op_with_path_id s) x)) [
        | inl k ↦ absurd (f s (inl refl) (eqb-true (op_with_path_id s) x k))
        | inr k ↦ ap (λ b. cond b (Some s) (find_op_with_path x ss)) k ∙ none_in x ss (λ u h. f u (inr h))
      ]

  pub absent_find : (x : ℕ) (t : OpOf N T A) → list_any (λ y. eqb y x) (ids t) ≡ false → find x t ≡ None
  absent_find x t a = sym (stands_find x [] t) ∙ ap (option_map (λ (s : OpWithPathOf N T A). s.here)) (none_in x (stands [] t) (absent_stand [] t x a))

  -- the parent of an operation
  pub around_there : (t o : OpOf N T A) (a : StepOf N T A) (q : List (StepOf N T A)) → In (stand o (a ∷ q)) (stands [] t) → In (stand o (a ∷ q)) (stands q a.parent) × In (stand a.parent q) (stands [] t)
  around_there t o a q h = elim (has_around [] t (stand o (a ∷ q)) h) [
    | inl k ↦ (let bad : a ∷ q ≡ [] = ap (λ (z : OpWithPathOf N T A). z.path) k in absurd cc)
    | inr w ↦ (let same : a ∷ q ≡ w.0 ∷ w.1 = w.2 in
        let first : w.0 ≡ a = cc in
        let later : w.1 ≡ q = cc in
        (subst (λ (z : OpWithPathOf N T A). In (stand o (a ∷ q)) (stands z.path z.here)) (λ i. stand ((first i).parent) (later i)) w.3, subst (λ (z : OpWithPathOf N T A). In z (stands [] t)) (λ i. stand ((first i).parent) (later i)) w.4))
  ]

  -- an operation that is x or within it
  pub record Within (x : ℕ) (t : OpOf N T A) (s : OpWithPathOf N T A) : Type 0 where
    pub here : OpOf N T A
    pub step_in : StepOf N T A
    pub path : List (StepOf N T A)
    pub there : In (stand here (step_in ∷ path)) (stands [] t)
    pub id : (head here).id ≡ x
    pub inner : In s (stands (step_in ∷ path) here)

  pub gone_within : (x : ℕ) (t : OpOf N T A) (path : List (StepOf N T A)) (o : OpOf N T A) → In (stand o path) (stands [] t) → gone_in x o path ≡ true → Within x t (stand o path)
  gone_within x t [] o h e = absurd (true≢false (sym e))
  gone_within x t (a ∷ path) o h e = elim (either (eqb (head o).id x) (gone_in x a.parent path) e) [
    | inl k ↦ record { here = o; step_in = a; path = path; there = h; id = eqb-true (head o).id x k; inner = itself (a ∷ path) o }
    | inr k ↦ (let w = around_there t o a path h in
        let r = gone_within x t path a.parent w.1 k in
        record { here = r.here; step_in = r.step_in; path = r.path; there = r.there; id = r.id; inner = within a.parent path (stand o (a ∷ path)) w.0 (r.step_in ∷ r.path) r.here r.inner })
  ]

  -- each of these operations is removed with x
  pub within_gone : (x : ℕ) (o : OpOf N T A) (path : List (StepOf N T A)) → gone_in x o path ≡ true → (s : OpWithPathOf N T A) → In s (stands path o) → is_gone x s ≡ true
  within_gone x o path e s h = elim (bool_cases (is_gone x s)) [
    | inl k ↦ k
    | inr k ↦ absurd (subst (λ (l : List (OpWithPathOf N T A)). In s l) (op_goes x path o e) (in_filter (keep x) s (stands path o) (ap not k) h))
  ]

  -- places
  place_one : (s : OpWithPathOf N T A) (a : StepOf N T A) (q : List (StepOf N T A)) → s.path ≡ a ∷ q → (ss : List (OpWithPathOf N T A)) → In s ss → ((u : OpWithPathOf N T A) → In u ss → op_with_path_id u ≡ op_with_path_id s → u ≡ s) → first_some (place_at (op_with_path_id s)) ss ≡ place_in (a ∷ q)
  place_one s a q p [] h same = absurd h
  place_one s a q p (u ∷ ss) h same = go (eqb (op_with_path_id u) (op_with_path_id s)) refl (λ k. place_one s a q p ss k (λ v m. same v (inr m))) h
    where
      placed : op_with_path_id u ≡ op_with_path_id s → first_of (place_in u.path) (first_some (place_at (op_with_path_id s)) ss) ≡ place_in (a ∷ q)
      placed i = ap (λ (z : List (StepOf N T A)). first_of (place_in z) (first_some (place_at (op_with_path_id s)) ss)) (ap (λ (z : OpWithPathOf N T A). z.path) (same u (inl refl) i) ∙ p)

      go : (b : Bool) → eqb (op_with_path_id u) (op_with_path_id s) ≡ b → (In s ss → first_some (place_at (op_with_path_id s)) ss ≡ place_in (a ∷ q)) → In s (u ∷ ss) → first_some (place_at (op_with_path_id s)) (u ∷ ss) ≡ place_in (a ∷ q)
      go true e later m = ap (λ b. first_of (cond b (place_in u.path) None) (first_some (place_at (op_with_path_id s)) ss)) e ∙ placed (eqb-true (op_with_path_id u) (op_with_path_id s) e)
      go false e later (inr m) = ap (λ b. first_of (cond b (place_in u.path) None) (first_some (place_at (op_with_path_id s)) ss)) e ∙ later m
      go false e later (inl m) = absurd (true≢false (sym (eq-eqb (op_with_path_id u) (op_with_path_id s) (ap (λ (z : OpWithPathOf N T A). op_with_path_id z) (sym m))) ∙ e))

  pub place_of_member : (t : OpOf N T A) → HasDistinctIds t → (o : OpOf N T A) (a : StepOf N T A) (q : List (StepOf N T A)) → In (stand o (a ∷ q)) (stands [] t) → place_of (head o).id t ≡ place_in (a ∷ q)
  place_of_member t d o a q h = sym (stands_place (head o).id t) ∙ place_one (stand o (a ∷ q)) a q refl (stands [] t) h (λ u k e. same_stand t d u (stand o (a ∷ q)) k h e)

  placed_step : (x : ℕ) (place : Place) (s : OpWithPathOf N T A) (ss : List (OpWithPathOf N T A)) → (first_some (place_at x) ss ≡ Some place → (u : OpWithPathOf N T A) × In u ss × (op_with_path_id u ≡ x) × (place_in u.path ≡ Some place))
      → (b : Bool) → eqb (op_with_path_id s) x ≡ b → (p : Option Place) → place_in s.path ≡ p → first_of (cond b p None) (first_some (place_at x) ss) ≡ Some place → (u : OpWithPathOf N T A) × In u (s ∷ ss) × (op_with_path_id u ≡ x) × (place_in u.path ≡ Some place)
  placed_step x place s ss f true e (Some p) k h = (s, inl refl, eqb-true (op_with_path_id s) x e, k ∙ h)
  placed_step x place s ss f true e None k h = let w = f h in (w.0, inr w.1, w.2, w.3)
  placed_step x place s ss f false e p k h = let w = f h in (w.0, inr w.1, w.2, w.3)

  placed_in : (x : ℕ) (place : Place) (ss : List (OpWithPathOf N T A)) → first_some (place_at x) ss ≡ Some place → (u : OpWithPathOf N T A) × In u ss × (op_with_path_id u ≡ x) × (place_in u.path ≡ Some place)
  placed_in x place [] h = absurd cc
  placed_in x place (s ∷ ss) h = placed_step x place s ss (placed_in x place ss) (eqb (op_with_path_id s) x) refl (place_in s.path) refl h

  pub member_of_place : (x : ℕ) (place : Place) (t : OpOf N T A) → place_of x t ≡ Some place → (u : OpWithPathOf N T A) × In u (stands [] t) × (op_with_path_id u ≡ x) × (place_in u.path ≡ Some place)
  member_of_place x place t e = placed_in x place (stands [] t) (stands_place x t ∙ e)

  -- an operation that remains is another one, if x isn't the root
  pub left_apart : (x : ℕ) (t : OpOf N T A) (s : OpWithPathOf N T A) → In s (stands [] t) → is_gone x s ≡ false → eqb (head t).id x ≡ false → op_with_path_id s ≡ x → ⊥
  left_apart x t s h g root e = elim (has_around [] t s h) [
    | inl k ↦ true≢false (sym (eq-eqb (head t).id x (ap (λ (z : OpWithPathOf N T A). op_with_path_id z) (sym k) ∙ e)) ∙ root)
    | inr w ↦ (let gone : (eqb (op_with_path_id s) x || gone_in x w.0.parent w.1) ≡ false = sym (ap (gone_in x s.here) w.2) ∙ g in true≢false (sym (eq-eqb (op_with_path_id s) x e) ∙ (neither _ _ gone).0))
  ]
