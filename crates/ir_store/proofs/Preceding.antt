-- The pre-order of two operations, by their parents.
use Rattle.std.proofs.Common.{◌≡◌, refl, ap, sym, ◌∙◌, subst, ℕ, zero, suc, ◌+◌, ◌-◌, ◌<◌, ◌≤◌, true, false, true≢false, not, ◌||◌, eqb, eq-eqb, List, [], ◌∷◌, ◌++◌, length, Option, Some, None, option_map, inl, inr, ◌⊎◌, arith}
use Rattle.std.specs.Prelude.{nat_lt, option_and_then}
use Rattle.std.specs.List.{IsDistinct}
use Rattle.std.proofs.lemmas.Bool.{cases_eq, cases_lt, ne_eqb, lt-ltb, ltb-true, eqb-false}
use Rattle.std.proofs.lemmas.Map.Keys.{IsDistinct-tail}
use Rattle.ir_store_reads.specs.trees.declared.place.Place.{Place}
use Rattle.ir_store_reads.specs.trees.Tree.{OpOf, RegionOf, empty, block, OpsOf, head, regions, ops_of, op_list}
use Rattle.ir_store_reads.specs.trees.Ids.{ids, regions_ids, HasDistinctIds, find}
use Rattle.ir_store_reads.specs.trees.Places.{place_of, first_id}
use Rattle.ir_store_reads.proofs.of_trees.Moves.{Absent}
use Rattle.ir_store_reads.proofs.of_trees.Returns.{Present, halves}
use Rattle.ir_store_reads.specs.tree_laws.Members.{In}
use Rattle.ir_store_reads.specs.tree_laws.Values.{region_at}
use Rattle.ir_store_reads.specs.tree_laws.Reads.{parent_of, ops_in, ops_at, is_among, goes_before, list_of, in_list, is_before, comes_after, precedes}
use Rattle.ir_store_reads.specs.tree_laws.Stands.{StepOf, OpWithPathOf, op_with_path_id, stands, find_op_with_path}
use Rattle.ir_store_reads.proofs.of_tree_laws.Listed.{bool_cases, or_left, or_right}
use Rattle.ir_store_reads.proofs.of_tree_laws.Members.{stand, itself, within, has_around, member, stand_found}
use Rattle.ir_store_reads.proofs.of_tree_laws.Around.{around_there, stand_present, present_stand, place_of_member, stands_around}
use Rattle.ir_store_reads.proofs.of_tree_laws.Neighbours.{list_there, parent_there, block_at}
use Rattle.ir_store_reads.proofs.of_tree_laws.Cuts.{preorder}
use Rattle.ir_store.specs.Lifted.{level, level_of, or_itself, lifted}
use Rattle.ir_store.proofs.After.{there, never_first, never_later, not_itself, same_first, same_later, same_within, first_before, none_before_first, past_first}
use Rattle.ir_store.proofs.Siblings.{own_present, OfRegion, by_region, by_list}
use Rattle.ir_store.proofs.Climbing.{Placed, placed, level_there, level_up}
use Rattle.ir_store_reads.proofs.of_trees.Facts.{ids_head}

module _ {N T A : Type 0} where
  -- every operation inside o is o itself, or is deeper
  abbrev Deeper : List (StepOf N T A) → OpOf N T A → List (StepOf N T A) → OpOf N T A → Type 0
  Deeper b o path u = (stand u path ≡ stand o b) ⊎ ((length b < length path) × (length path ≡ suc (length b) → (a : StepOf N T A) × (path ≡ a ∷ b) × (a.parent ≡ o)))

  deep : (b : List (StepOf N T A)) (o : OpOf N T A) (path : List (StepOf N T A)) (u : OpOf N T A) → In (stand u path) (stands b o) → Deeper b o path u
  deep b o [] u h = elim (has_around b o (stand u []) h) [
    | inl e ↦ inl e
    | inr w ↦ (let bad : [] ≡ w.0 ∷ w.1 = w.2 in absurd cc)
  ]
  deep b o (a ∷ q) u h = elim (has_around b o (stand u (a ∷ q)) h) [
    | inl e ↦ inl e
    | inr w ↦ (let same : a ∷ q ≡ w.0 ∷ w.1 = w.2 in
        let first : w.0 ≡ a = cc in
        let later : w.1 ≡ q = cc in
        inr (up (deep b o q a.parent (subst (λ (z : OpWithPathOf N T A). In z (stands b o)) (λ i. stand ((first i).parent) (later i)) w.4))))
  ]
    where
      up : Deeper b o q a.parent → (length b < length (a ∷ q)) × (length (a ∷ q) ≡ suc (length b) → (c : StepOf N T A) × (a ∷ q ≡ c ∷ b) × (c.parent ≡ o))
      up (inl e) =
          let path : q ≡ b = ap (λ (z : OpWithPathOf N T A). z.path) e in
          let l = ap length path in
          (omega (arith, l), λ _. (a, ap (λ z. a ∷ z) path, ap (λ (z : OpWithPathOf N T A). z.here) e))
      up (inr r) = let n = r.0 in (omega (arith, n), λ e. absurd (omega (arith, n, e)))

  among_there : (x : ℕ) (preceding : List (OpOf N T A)) (o : OpOf N T A) (rest : List (OpOf N T A)) → (head o).id ≡ x → is_among x (ops_of (preceding ++ o ∷ rest)) ≡ true
  among_there x [] o rest e = or_left (eqb (head o).id x) (is_among x (ops_of rest)) (eq-eqb (head o).id x e)
  among_there x (f ∷ preceding) o rest e = or_right (eqb (head f).id x) (is_among x (ops_of (preceding ++ o ∷ rest))) (among_there x preceding o rest e)

-- if ids are distinct
module _ {N T A : Type 0} (t : OpOf N T A) (d : HasDistinctIds t) where
  pub placeless_level : (x : ℕ) → place_of x t ≡ None → level_of x t ≡ 0
  placeless_level x n = ap level (sym (stands_around x [] t)) ∙ go (find_op_with_path x (stands [] t)) refl
    where
      at : (s : OpWithPathOf N T A) → In s (stands [] t) → op_with_path_id s ≡ x → (path : List (StepOf N T A)) → s.path ≡ path → length s.path ≡ 0
      at s h id [] e = ap length e
      at s h id (a ∷ q) e =
          let m : In (stand s.here (a ∷ q)) (stands [] t) = subst (λ l. In (stand s.here l) (stands [] t)) e h in
          let bad : ◌≡◌ {A = Option Place} None (Some (record { parent = (head a.parent).id; region = a.region; before = first_id a.rest })) = sym n ∙ ap (λ y. place_of y t) (sym id) ∙ place_of_member t d s.here a q m in
          absurd cc

      go : (f : Option (OpWithPathOf N T A)) → find_op_with_path x (stands [] t) ≡ f → level (option_map (λ (z : OpWithPathOf N T A). length z.path) f) ≡ 0
      go None e = refl
      go (Some s) e = let m = member x (stands [] t) s e in at s m.0 m.1 s.path refl

  -- an operation that is p, or within p
  within_level : (p : OpOf N T A) (q : List (StepOf N T A)) → In (stand p q) (stands [] t) → (y : ℕ) → Present y (ids p)
      → (y ≡ (head p).id) ⊎ ((level_of (head p).id t < level_of y t) × (level_of y t ≡ suc (level_of (head p).id t) → parent_of y t ≡ Some (head p).id))
  within_level p q h y e =
      let s = present_stand q p y e in
      let m = within p q s.0 s.1 [] t h in
      let ly : level_of y t ≡ length s.0.path = ap (λ z. level_of z t) (sym s.2) ∙ ap level (level_there t d s.0 m) in
      let lp : level_of (head p).id t ≡ length q = ap level (level_there t d (stand p q) h) in
      elim (deep q p s.0.path s.0.here s.1) [
        | inl k ↦ inl (sym s.2 ∙ ap (λ (z : OpWithPathOf N T A). op_with_path_id z) k)
        | inr r ↦ (let n = r.0 in inr (
          omega (arith, n, ly, lp),
          λ k.
              let w = r.1 (sym ly ∙ k ∙ ap suc lp) in
              let here : In (stand s.0.here (w.0 ∷ q)) (stands [] t) = subst (λ l. In (stand s.0.here l) (stands [] t)) w.1 m in
              ap (λ z. parent_of z t) (sym s.2) ∙ parent_there t d s.0.here w.0 q here ∙ ap (λ (z : OpOf N T A). Some (head z).id) w.2,
        ))
      ]

  outside_low : (p : OpOf N T A) (q : List (StepOf N T A)) → In (stand p q) (stands [] t) → (y : ℕ) → (y ≡ (head p).id → ⊥) → level_of y t ≤ level_of (head p).id t → Absent y (ids p)
  outside_low p q h y n l = elim (bool_cases (there y (ids p))) [
    | inr k ↦ k
    | inl k ↦ elim (within_level p q h y k) [ inl e ↦ absurd (n e) | inr r ↦ (let m = r.0 in absurd (omega (arith, l, m))) ]
  ]

  outside_next : (p : OpOf N T A) (q : List (StepOf N T A)) → In (stand p q) (stands [] t) → (y : ℕ) → level_of y t ≡ suc (level_of (head p).id t) → (parent_of y t ≡ Some (head p).id → ⊥) → Absent y (ids p)
  outside_next p q h y l n = elim (bool_cases (there y (ids p))) [
    | inr k ↦ k
    | inl k ↦ elim (within_level p q h y k) [
      | inl e ↦ (let m = ap (λ z. level_of z t) e in absurd (omega (arith, l, m)))
      | inr r ↦ absurd (n (r.1 l))
    ]
  ]

  self : (x : ℕ) → precedes x x t ≡ false
  self x = not_itself x (ids t) d

  -- an operation and its parent
  module _ (x : ℕ) (place : Place) (e : place_of x t ≡ Some place) where
    abbrev w : Placed t d x place
    w = placed t d x place e

    here_in : Present x (ids w.step.parent)
    here_in = ap (λ z. there z (ids w.step.parent)) (sym w.id) ∙ stand_present w.path w.step.parent (stand w.here (w.step ∷ w.path)) (around_there t w.here w.step w.path w.there).0

    up_in : Present place.parent (ids w.step.parent)
    up_in = ap (λ z. there z (ids w.step.parent)) (sym w.parent) ∙ own_present w.step.parent

    parent_is : parent_of x t ≡ Some place.parent
    parent_is = ap (option_map (λ p. p.parent)) e

    -- an operation outside of the parent is before both or after both
    both_first : (y : ℕ) → Absent y (ids w.step.parent) → precedes x y t ≡ precedes place.parent y t
    both_first y n = same_first (ids t) _ (ids w.step.parent) _ (preorder t w.step.parent w.path w.up) d x place.parent y here_in up_in n

    both_later : (y : ℕ) → Absent y (ids w.step.parent) → precedes y x t ≡ precedes y place.parent t
    both_later y n = same_later (ids t) _ (ids w.step.parent) _ (preorder t w.step.parent w.path w.up) d x place.parent y here_in up_in n

    parent_distinct : IsDistinct eqb (ids w.step.parent)
    parent_distinct = (halves (ids w.step.parent) _ (halves _ _ (subst (IsDistinct eqb) (preorder t w.step.parent w.path w.up) d)).right).left

    other_up : x ≡ place.parent → ⊥
    other_up s = let a = level_up t d x place e in let b = ap (λ z. level_of z t) s in omega (arith, a, b)

    here_inner : Present x (regions_ids (regions w.step.parent))
    here_inner =
        ap (λ b. b || there x (regions_ids (regions w.step.parent))) (sym (ne_eqb (head w.step.parent).id x (λ s. other_up (sym s ∙ w.parent))))
        ∙ ap (there x) (sym (ids_head w.step.parent)) ∙ here_in

    parent_before : precedes place.parent x t ≡ true
    parent_before =
        same_within (ids t) _ (ids w.step.parent) _ (preorder t w.step.parent w.path w.up) d place.parent x up_in here_in
        ∙ (λ i. comes_after (sym w.parent i) x (ids_head w.step.parent i))
        ∙ first_before (head w.step.parent).id x (regions_ids (regions w.step.parent)) here_inner

    parent_not_after : precedes x place.parent t ≡ false
    parent_not_after =
        same_within (ids t) _ (ids w.step.parent) _ (preorder t w.step.parent w.path w.up) d x place.parent here_in up_in
        ∙ (λ i. comes_after x (sym w.parent i) (ids_head w.step.parent i))
        ∙ none_before_first (head w.step.parent).id x (regions_ids (regions w.step.parent)) (subst (IsDistinct eqb) (ids_head w.step.parent) parent_distinct)

    low : (y : ℕ) → (y ≡ place.parent → ⊥) → level_of y t ≤ level_of place.parent t → Absent y (ids w.step.parent)
    low y n l = outside_low w.step.parent w.path w.up y (λ s. n (s ∙ w.parent)) (subst (λ z. level_of y t ≤ level_of z t) (sym w.parent) l)

    -- an operation that isn't deeper than the parent
    up_first : (y : ℕ) → level_of y t ≤ level_of place.parent t → precedes x y t ≡ precedes place.parent y t
    up_first y l = elim (cases_eq y place.parent) [
      | inl s ↦ ap (λ z. precedes x z t) s ∙ parent_not_after ∙ sym (ap (λ z. precedes place.parent z t) s ∙ self place.parent)
      | inr n ↦ both_first y (low y n l)
    ]

    up_later : (y : ℕ) → level_of y t ≤ level_of place.parent t → (eqb y x || precedes y x t) ≡ (eqb y place.parent || precedes y place.parent t)
    up_later y l = ap (λ b. b || precedes y x t) (ne_eqb y x (λ s. let a = level_up t d x place e in let b = ap (λ z. level_of z t) s in omega (arith, a, b, l))) ∙ elim (cases_eq y place.parent) [
      | inl s ↦ ap (λ z. precedes z x t) s ∙ parent_before ∙ sym (ap (λ b. b || precedes y place.parent t) (eq-eqb y place.parent s))
      | inr n ↦ both_later y (low y n l) ∙ sym (ap (λ b. b || precedes y place.parent t) (ne_eqb y place.parent n))
    ]

    -- the block of the operation
    in_block : OfRegion w.step.parent place.region x
    in_block = go (list_there t d w.here w.step w.path w.there)
      where
        os : OpsOf N T A
        os = ops_of (w.step.preceding ++ w.here ∷ op_list w.step.rest)

        go : list_of (head w.here).id t ≡ Some os → OfRegion w.step.parent place.region x
        go k =
            let at : ops_at place.parent place.region t ≡ Some os = sym (ap (option_and_then (λ p. ops_at p.parent p.region t)) e) ∙ ap (λ z. list_of z t) (sym w.id) ∙ k in
            let found : find place.parent t ≡ Some w.step.parent = ap (λ z. find z t) (sym w.parent) ∙ stand_found t d (stand w.step.parent w.path) w.up in
            let b = block_at place.region w.step.parent os (region_at place.region (regions w.step.parent)) refl (sym (ap (option_and_then (λ o. option_and_then ops_in (region_at place.region (regions o)))) found) ∙ at) in
            record { args = b.0; list = os; is = b.1; among = among_there x w.step.preceding w.here (op_list w.step.rest) w.id }

    list_is : list_of x t ≡ Some in_block.list
    unfolding in_block
    list_is = ap (λ z. list_of z t) (sym w.id) ∙ list_there t d w.here w.step w.path w.there

  -- the level of an operation is one above the level of its parent
  pub parent_level : (x p : ℕ) → parent_of x t ≡ Some p → level_of x t ≡ suc (level_of p t)
  parent_level x p e = go (place_of x t) refl e
    where
      go : (o : Option Place) → place_of x t ≡ o → option_map (λ (z : Place). z.parent) o ≡ Some p → level_of x t ≡ suc (level_of p t)
      go None f k = absurd cc
      go (Some place) f k = let same : place.parent ≡ p = cc in level_up t d x place f ∙ ap (λ z. suc (level_of z t)) same

  pub parentless_level : (x : ℕ) → parent_of x t ≡ None → level_of x t ≡ 0
  parentless_level x e = go (place_of x t) refl e
    where
      go : (o : Option Place) → place_of x t ≡ o → option_map (λ (z : Place). z.parent) o ≡ None → level_of x t ≡ 0
      go None f k = placeless_level x f
      go (Some place) f k = absurd cc

  lifted_level : (k x : ℕ) → level_of (lifted k x t) t ≡ level_of x t - k
  lifted_level zero x = omega arith
  lifted_level (suc k) x = go (λ z. lifted_level k z) (parent_of x t) refl
    where
      go : ((z : ℕ) → level_of (lifted k z t) t ≡ level_of z t - k) → (o : Option ℕ) → parent_of x t ≡ o → level_of (lifted k (or_itself o x) t) t ≡ level_of x t - suc k
      go f None e = let z = parentless_level x e in let i = f x in omega (arith, z, i)
      go f (Some p) e = let z = parent_level x p e in let i = f p in omega (arith, z, i)

  lifted_first : (k x y : ℕ) → level_of y t + k ≤ level_of x t → precedes x y t ≡ precedes (lifted k x t) y t
  lifted_first zero x y l = refl
  lifted_first (suc k) x y l = go (λ z. lifted_first k z y) (place_of x t) refl
    where
      go : ((z : ℕ) → level_of y t + k ≤ level_of z t → precedes z y t ≡ precedes (lifted k z t) y t) → (o : Option Place) → place_of x t ≡ o → precedes x y t ≡ precedes (lifted k (or_itself (option_map (λ (z : Place). z.parent) o) x) t) y t
      go f None e = let z = placeless_level x e in absurd (omega (arith, z, l))
      go f (Some place) e = let z = level_up t d x place e in up_first x place e y (omega (arith, z, l)) ∙ f place.parent (omega (arith, z, l))

  lifted_later : (k y x : ℕ) → level_of x t + k ≤ level_of y t → (eqb x y || precedes x y t) ≡ (eqb x (lifted k y t) || precedes x (lifted k y t) t)
  lifted_later zero y x l = refl
  lifted_later (suc k) y x l = go (λ z. lifted_later k z x) (place_of y t) refl
    where
      go : ((z : ℕ) → level_of x t + k ≤ level_of z t → (eqb x z || precedes x z t) ≡ (eqb x (lifted k z t) || precedes x (lifted k z t) t)) → (o : Option Place) → place_of y t ≡ o
          → (eqb x y || precedes x y t) ≡ (eqb x (lifted k (or_itself (option_map (λ (z : Place). z.parent) o) y) t) || precedes x (lifted k (or_itself (option_map (λ (z : Place). z.parent) o) y) t) t)
      go f None e = let z = placeless_level y e in absurd (omega (arith, z, l))
      go f (Some place) e = let z = level_up t d y place e in up_later y place e x (omega (arith, z, l)) ∙ f place.parent (omega (arith, z, l))

  -- two operations, each replaced by its ancestor at the level of the other
  module _ (x y a b : ℕ) (ea : a ≡ lifted (level_of (lifted (level_of y t) x t) t) x t) (eb : b ≡ lifted (level_of (lifted (level_of x t) y t) t) y t) where
    first_is : a ≡ lifted (level_of x t - level_of y t) x t
    first_is = ea ∙ ap (λ k. lifted k x t) (lifted_level (level_of y t) x)

    second_is : b ≡ lifted (level_of y t - level_of x t) y t
    second_is = eb ∙ ap (λ k. lifted k y t) (lifted_level (level_of x t) y)

    pub same_level : level_of a t ≡ level_of b t
    same_level =
        let m = ap (λ z. level_of z t) first_is ∙ lifted_level (level_of x t - level_of y t) x in
        let n = ap (λ z. level_of z t) second_is ∙ lifted_level (level_of y t - level_of x t) y in
        omega (arith, m, n)

    none_up : (m n : ℕ) → m ≤ n → m - n ≡ 0
    none_up m n l = omega (arith, l)

    pub precedes_apart : (a ≡ b → ⊥) → precedes a b t ≡ precedes x y t
    precedes_apart n = elim (cases_lt (level_of x t) (level_of y t)) [
      | inr l ↦ (let own : b ≡ y = second_is ∙ ap (λ k. lifted k y t) (none_up (level_of y t) (level_of x t) l) in
          (λ i. precedes (first_is i) (own i) t) ∙ sym (lifted_first (level_of x t - level_of y t) x y (omega (arith, l))))
      | inl l ↦ (let own : a ≡ x = first_is ∙ ap (λ k. lifted k x t) (none_up (level_of x t) (level_of y t) (omega (arith, l))) in
          (λ i. precedes (own i) (second_is i) t)
          ∙ sym (ap (λ z. z || precedes x (lifted (level_of y t - level_of x t) y t) t) (ne_eqb x (lifted (level_of y t - level_of x t) y t) (λ s. n (own ∙ s ∙ sym second_is))))
          ∙ sym (lifted_later (level_of y t - level_of x t) y x (omega (arith, l)))
          ∙ ap (λ z. z || precedes x y t) (ne_eqb x y (λ s. let m = ap (λ z. level_of z t) s in omega (arith, m, l))))
    ]

    pub precedes_same : a ≡ b → not (eqb b y) ≡ precedes x y t
    precedes_same e = elim (cases_lt (level_of x t) (level_of y t)) [
      | inr l ↦ (let own : b ≡ y = second_is ∙ ap (λ k. lifted k y t) (none_up (level_of y t) (level_of x t) l) in
          ap not (eq-eqb b y own)
          ∙ sym (lifted_first (level_of x t - level_of y t) x y (omega (arith, l)) ∙ ap (λ z. precedes z y t) (sym first_is ∙ e ∙ own) ∙ self y))
      | inl l ↦ (let own : a ≡ x = first_is ∙ ap (λ k. lifted k x t) (none_up (level_of x t) (level_of y t) (omega (arith, l))) in
          ap not (ne_eqb b y (λ s. let m = ap (λ z. level_of z t) (sym own ∙ e ∙ s) in omega (arith, m, l)))
          ∙ sym (ap (λ z. z || precedes x y t) (sym (ne_eqb x y (λ s. let m = ap (λ z. level_of z t) s in omega (arith, m, l))))
          ∙ lifted_later (level_of y t - level_of x t) y x (omega (arith, l))
          ∙ ap (λ z. z || precedes x (lifted (level_of y t - level_of x t) y t) t) (eq-eqb x (lifted (level_of y t - level_of x t) y t) (sym own ∙ e ∙ second_is))))
    ]

  -- an operation of level 0 is the root
  outermost : (a : ℕ) → Present a (ids t) → level_of a t ≡ 0 → a ≡ (head t).id
  outermost a h l = elim (within_level t [] (itself [] t) a h) [ inl e ↦ e | inr r ↦ (let n = r.0 in absurd (omega (arith, n, l))) ]

  pub precedes_none : (a b : ℕ) → level_of a t ≡ 0 → level_of b t ≡ 0 → precedes a b t ≡ false
  precedes_none a b m n = elim (bool_cases (there a (ids t))) [
    | inr h ↦ never_first a b (ids t) h
    | inl h ↦ elim (bool_cases (there b (ids t))) [
      | inr k ↦ never_later a b (ids t) k
      | inl k ↦ ap (λ z. precedes a z t) (outermost b k n ∙ sym (outermost a h m)) ∙ self a
    ]
  ]

  -- two operations of the same level
  module _ (a b : ℕ) (pa pb : Place) (ea : place_of a t ≡ Some pa) (eb : place_of b t ≡ Some pb) where
    pub same_level_up : level_of a t ≡ level_of b t → level_of pa.parent t ≡ level_of pb.parent t
    same_level_up l = let m = level_up t d a pa ea in let n = level_up t d b pb eb in omega (arith, l, m, n)

    -- with different parents
    pub precedes_up : level_of a t ≡ level_of b t → (pa.parent ≡ pb.parent → ⊥) → precedes a b t ≡ precedes pa.parent pb.parent t
    precedes_up l n =
        let v = placed t d a pa ea in
        let k = level_up t d a pa ea in
        let s = ap (λ z. level_of z t) v.parent in
        let out : Absent b (ids v.step.parent) = outside_next v.step.parent v.path v.up b (omega (arith, l, k, s)) (λ z. n (some (sym (sym (parent_is b pb eb) ∙ z ∙ ap Some v.parent)))) in
        both_first a pa ea b out ∙ both_later b pb eb pa.parent (low b pb eb pa.parent n (let m = same_level_up l in omega (arith, m)))
      where
        some : {p q : ℕ} → Some p ≡ Some q → p ≡ q
        some e = cc

    -- with the same parent
    module _ (s : pa.parent ≡ pb.parent) where
      one : (w b pb eb).step.parent ≡ (w a pa ea).step.parent
      one =
          let v = placed t d a pa ea in
          let u = placed t d b pb eb in
          let two : Some u.step.parent ≡ Some v.step.parent =
          sym (stand_found t d (stand u.step.parent u.path) u.up) ∙ ap (λ z. find z t) (u.parent ∙ sym s ∙ sym v.parent) ∙ stand_found t d (stand v.step.parent v.path) v.up in
          cc

      of_one : OfRegion (w a pa ea).step.parent pb.region b
      of_one = subst (λ (z : OpOf N T A). OfRegion z pb.region b) one (in_block b pb eb)

      inner_is : precedes a b t ≡ comes_after a b (regions_ids (regions (w a pa ea).step.parent))
      inner_is =
          let v = placed t d a pa ea in
          same_within (ids t) _ (ids v.step.parent) _ (preorder t v.step.parent v.path v.up) d a b (here_in a pa ea) (subst (λ (z : OpOf N T A). Present b (ids z)) one (here_in b pb eb))
          ∙ ap (comes_after a b) (ids_head v.step.parent)
          ∙ past_first (head v.step.parent).id a b (regions_ids (regions v.step.parent)) (subst (IsDistinct eqb) (ids_head v.step.parent) (parent_distinct a pa ea)) (here_inner a pa ea)

      inner_distinct : IsDistinct eqb (regions_ids (regions (w a pa ea).step.parent))
      inner_distinct = IsDistinct-tail eqb _ _ (subst (IsDistinct eqb) (ids_head (placed t d a pa ea).step.parent) (parent_distinct a pa ea))

      pub precedes_regions : (pa.region ≡ pb.region → ⊥) → nat_lt pa.region pb.region ≡ precedes a b t
      precedes_regions n = elim (cases_lt pa.region pb.region) [
        | inl l ↦ lt-ltb pa.region pb.region l ∙ sym (inner_is ∙ (by_region (w a pa ea).step.parent inner_distinct pa.region pb.region a b (in_block a pa ea) of_one).0 l)
        | inr l ↦ (let m : pb.region < pa.region = omega (arith, l, n) in
            not_below pa.region pb.region m ∙ sym (inner_is ∙ (by_region (w a pa ea).step.parent inner_distinct pa.region pb.region a b (in_block a pa ea) of_one).1 m))
      ]
        where
          not_below : (p q : ℕ) → q < p → nat_lt p q ≡ false
          not_below p q l = elim (bool_cases (nat_lt p q)) [ inr e ↦ e | inl e ↦ (let m = ltb-true p q e in absurd (omega (arith, l, m))) ]

      pub precedes_list : pa.region ≡ pb.region → is_before a b t ≡ precedes a b t
      precedes_list r =
          let la = (in_block a pa ea).list in
          let lists : Some (in_block b pb eb).list ≡ Some la =
          sym (list_is b pb eb) ∙ ap (option_and_then (λ p. ops_at p.parent p.region t)) eb ∙ (λ i. ops_at (sym s i) (sym r i) t) ∙ sym (ap (option_and_then (λ p. ops_at p.parent p.region t)) ea) ∙ list_is a pa ea in
          let same : (in_block b pb eb).list ≡ la = cc in
          ap (in_list (goes_before a b)) (list_is a pa ea)
          ∙ sym (inner_is ∙ by_list (w a pa ea).step.parent inner_distinct pa.region pb.region a b (in_block a pa ea) of_one (ap (is_among b) (sym same) ∙ (in_block b pb eb).among))

  -- one step up of two operations
  pub lifted_step : (left above at : ℕ) (o : Option ℕ) → parent_of left t ≡ Some above → parent_of at t ≡ o → lifted (level_of above t) (or_itself o at) t ≡ lifted (level_of left t) at t
  lifted_step left above at o e f = ap (λ z. lifted (level_of above t) (or_itself z at) t) (sym f) ∙ sym (ap (λ k. lifted k at t) (parent_level left above e))
