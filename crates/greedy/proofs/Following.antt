-- The operations after an operation in pre-order.
use Rattle.std.proofs.Common.{◌≡◌, refl, ap, sym, ◌∙◌, subst, ℕ, zero, suc, ◌+◌, ◌≤◌, ◌<◌, Bool, true, false, true≢false, cond, ◌||◌, eqb, eq-eqb, eqb-true, List, [], ◌∷◌, ◌++◌, append_assoc, arith, length, map, Option, Some, None, inl, inr, ◌⊎◌}
use Rattle.std.specs.Prelude.{option_map, option_and_then, nat_lt, not, ◌&&◌}
use Rattle.std.specs.List.{list_any, IsDistinct}
use Rattle.std.proofs.lemmas.Map.Keys.{IsDistinct-tail}
use Rattle.ir_event.specs.trees.declared.place.Place.{Place}
use Rattle.ir_event.specs.trees.Tree.{OpOf, op, RegionsOf, no_regions, region, RegionOf, empty, block, OpsOf, no_ops, next, head, regions, region_count}
use Rattle.ir_event.specs.trees.Ids.{ids, regions_ids, region_ids, ops_ids, HasDistinctIds, has_id, find}
use Rattle.ir_event.specs.trees.Places.{place_of, first_id as first_op}
use Rattle.ir_event.proofs.of_trees.Returns.{absent_first}
use Rattle.ir_event.specs.trees.Ids.{first_of}
use Rattle.ir_event.specs.store.Nodes.{NodeOf, node_of}
use Rattle.ir_event.specs.tree_laws.Values.{region_at}
use Rattle.ir_event.specs.trees.Tree.{ops_of}
use Rattle.ir_event.specs.tree_laws.Reads.{ops_at, ops_in, last_id, id_before, is_among, goes_before, list_of, in_list, is_before, prev_of, parent_of, precedes, comes_after}
use Rattle.ir_event.specs.tree_laws.Stands.{StepOf, OpWithPathOf, op_with_path_id, find_op_with_path, place_in, stands, regions_stands, region_stands, ops_stands, op_with_path, dominated_by}
use Rattle.ir_event.specs.trees.declared.value.Value.TheVariants.{Result}
use Rattle.ir_event.specs.trees.Sites.{arguments, results_of, shows}
use Rattle.ir_event.specs.tree_laws.Members.{In}
use Rattle.ir_event.proofs.of_tree_laws.Listed.{bool_cases, both, either, in_parts}
use Rattle.ir_event.proofs.of_tree_laws.Readings.{step, stands_ids}
use Rattle.ir_event.proofs.of_tree_laws.Members.{stand, member, stand_of_member, stand_found, joined_ops, within, ops_child, has_around}
use Rattle.ir_event.proofs.of_tree_laws.Put.{child}
use Rattle.ir_event.proofs.of_tree_laws.Neighbours.{prev_there}
use Rattle.ir_event.proofs.of_tree_laws.Around.{around_there, place_of_member, member_of_place}
use Rattle.ir_event.proofs.of_tree_laws.Values.{shaped_as, joined_more}
use Rattle.greedy.proofs.Order.{after_from_rank, rises}
use Rattle.greedy.proofs.Listed.{first_there, second_there}
use Rattle.greedy.specs.Following.{first_id, comes_next, following, regions_from, first_inside, trailing, after_of, height_of, HasFewRegions, count_of}
use Rattle.ir_event.proofs.of_types.Truths.{append_none, list_later}
use Rattle.ir_event.proofs.of_trees.Facts.{ids_head}
use Rattle.ir_event.proofs.of_tree_laws.Facts.{region_below}
use Rattle.listeners_support.proofs.Reading.{regions_counted}

there : ℕ → List ℕ → Bool
there x xs = list_any (λ y. eqb y x) xs

-- the entry after x in a list without duplicates
next_first : (x : ℕ) (xs : List ℕ) → comes_next x (x ∷ xs) ≡ first_id xs
next_first x xs = ap (λ b. cond b (first_id xs) (comes_next x xs)) (eq-eqb x x refl)

pub next_at : (x : ℕ) (preceding back : List ℕ) → IsDistinct eqb (preceding ++ x ∷ back) → comes_next x (preceding ++ x ∷ back) ≡ first_id back
next_at x [] back d = next_first x back
next_at x (y ∷ preceding) back d = elim (bool_cases (eqb y x)) [
  | inl e ↦ absurd (true≢false (sym (list_later x preceding back) ∙ subst (λ z. list_any (λ v. eqb v z) (preceding ++ x ∷ back) ≡ false) (eqb-true y x e) (absent_first y (preceding ++ x ∷ back) d)))
  | inr e ↦ ap (λ b. cond b (first_id (preceding ++ x ∷ back)) (comes_next x (preceding ++ x ∷ back))) e ∙ next_at x preceding back (IsDistinct-tail eqb y (preceding ++ x ∷ back) d)
]

-- the first entry of two joined lists
pub first_joined : (xs ys : List ℕ) (y : ℕ) → first_id xs ≡ Some y → first_id (xs ++ ys) ≡ Some y
first_joined [] ys y e = absurd cc
first_joined (x ∷ xs) ys y e = e

pub none_joined : (xs ys : List ℕ) → first_id xs ≡ None → first_id (xs ++ ys) ≡ first_id ys
none_joined [] ys e = refl
none_joined (x ∷ xs) ys e = absurd cc

module _ {N T A : Type 0} where
  from_more : (k : ℕ) (g : RegionOf N T A) (rs all : RegionsOf N T A) → regions_from k all ≡ region g rs → regions_from (k + 1) all ≡ rs
  from_more zero g rs (region h os) e = cc
  from_more zero g rs no_regions e = absurd cc
  from_more (suc k) g rs no_regions e = absurd cc
  from_more (suc k) g rs (region h os) e = let one : suc (k + 1) ≡ suc k + 1 = omega arith in subst (λ j. regions_from j (region h os) ≡ rs) one (from_more k g rs os e)

  -- the ids of a tree, split after the contents of an operation
  abbrev Cut : List ℕ → OpWithPathOf N T A → Type 0
  Cut all s = (preceding : List ℕ) × (all ≡ preceding ++ (ids s.here ++ trailing s.path))

  cut_more : (more xs : List ℕ) (s : OpWithPathOf N T A) → Cut xs s → Cut (more ++ xs) s
  cut_more more xs s c = (more ++ c.0, ap (λ l. more ++ l) c.1 ∙ sym (append_assoc more c.0 (ids s.here ++ trailing s.path)))

  mutual
    pub cut_op : (b : List (StepOf N T A)) (t : OpOf N T A) (s : OpWithPathOf N T A) → In s (stands b t) → Cut (ids t ++ trailing b) s
    cut_op b (op h rs) s (inl e) = ([], ap (λ (z : OpWithPathOf N T A). ids z.here ++ trailing z.path) (sym e))
    cut_op b (op h rs) s (inr k) = cut_more (h.id ∷ []) (regions_ids rs ++ trailing b) s (cut_regions (op h rs) b 0 rs s refl k)

    cut_regions : (p : OpOf N T A) (b : List (StepOf N T A)) (r : ℕ) (rs : RegionsOf N T A) (s : OpWithPathOf N T A) → regions_from r (regions p) ≡ rs → In s (regions_stands p b r rs) → Cut (regions_ids rs ++ trailing b) s
    cut_regions p b r no_regions s e k = absurd k
    cut_regions p b r (region g rs) s e k =
        let later = from_more r g rs (regions p) e in
        elim (in_parts s (region_stands p b r g) (regions_stands p b (r + 1) rs) k) [
          | inl l ↦ subst (λ xs. Cut xs s) (sym (append_assoc (region_ids g) (regions_ids rs) (trailing b)) ∙ refl)
              (subst (λ us. Cut (region_ids g ++ (regions_ids us ++ trailing b)) s) later (cut_region p b r g s l))
          | inr l ↦ subst (λ xs. Cut xs s) (sym (append_assoc (region_ids g) (regions_ids rs) (trailing b)))
              (cut_more (region_ids g) (regions_ids rs ++ trailing b) s (cut_regions p b (r + 1) rs s later l))
        ]

    cut_region : (p : OpOf N T A) (b : List (StepOf N T A)) (r : ℕ) (g : RegionOf N T A) (s : OpWithPathOf N T A) → In s (region_stands p b r g) → Cut (region_ids g ++ (regions_ids (regions_from (r + 1) (regions p)) ++ trailing b)) s
    cut_region p b r empty s k = absurd k
    cut_region p b r (block args os) s k = cut_ops p b r args [] os s k

    cut_ops : (p : OpOf N T A) (b : List (StepOf N T A)) (r : ℕ) (args : List T) (preceding : List (OpOf N T A)) (os : OpsOf N T A) (s : OpWithPathOf N T A) → In s (ops_stands p b r args preceding os) → Cut (ops_ids os ++ (regions_ids (regions_from (r + 1) (regions p)) ++ trailing b)) s
    cut_ops p b r args preceding no_ops s k = absurd k
    cut_ops p b r args preceding (next o os) s k =
        let a = step p r args preceding os in
        let end = regions_ids (regions_from (r + 1) (regions p)) ++ trailing b in
        elim (in_parts s (stands (a ∷ b) o) (ops_stands p b r args (preceding ++ o ∷ []) os) k) [
          | inl l ↦ subst (λ xs. Cut xs s) (sym (append_assoc (ids o) (ops_ids os) end)) (cut_op (a ∷ b) o s l)
          | inr l ↦ subst (λ xs. Cut xs s) (sym (append_assoc (ids o) (ops_ids os) end)) (cut_more (ids o) (ops_ids os ++ end) s (cut_ops p b r args (preceding ++ o ∷ []) os s l))
        ]

  -- the operation after an operation: the first one inside it, or else the first one after all its contents
  pub follows : (t : OpOf N T A) → HasDistinctIds t → (s : OpWithPathOf N T A) → In s (stands [] t) → following (op_with_path_id s) t ≡ first_id (regions_ids (regions s.here) ++ trailing s.path)
  follows t d s h =
      let c = cut_op [] t s h in
      let is : ids t ≡ c.0 ++ (op_with_path_id s ∷ (regions_ids (regions s.here) ++ trailing s.path)) = sym (append_none (ids t)) ∙ c.1 ∙ ap (λ l. c.0 ++ (l ++ trailing s.path)) (ids_head s.here) in
      ap (comes_next (op_with_path_id s)) is ∙ next_at (op_with_path_id s) c.0 (regions_ids (regions s.here) ++ trailing s.path) (subst (IsDistinct eqb) is d)

  -- ---- the regions of an operation, one after another
  first_ops : (os : OpsOf N T A) → first_id (ops_ids os) ≡ first_op os
  first_ops no_ops = refl
  first_ops (next (op h rs) os) = refl

  region_first : (g : RegionOf N T A) → first_id (region_ids g) ≡ option_and_then first_op (ops_in g)
  region_first empty = refl
  region_first (block args os) = first_ops os

  pub step_found : (r : ℕ) (rs : RegionsOf N T A) (f : ℕ) → option_and_then first_op (option_and_then ops_in (region_at r rs)) ≡ Some f → first_id (regions_ids (regions_from r rs)) ≡ Some f
  step_found r no_regions f e = absurd cc
  step_found zero (region g rs) f e = first_joined (region_ids g) (regions_ids rs) f (region_first g ∙ e)
  step_found (suc r) (region g rs) f e = step_found r rs f e

  pub step_none : (r : ℕ) (rs : RegionsOf N T A) → option_and_then first_op (option_and_then ops_in (region_at r rs)) ≡ None → first_id (regions_ids (regions_from r rs)) ≡ first_id (regions_ids (regions_from (r + 1) rs))
  step_none zero no_regions e = refl
  step_none (suc r) no_regions e = let one : suc (r + 1) ≡ suc r + 1 = omega arith in ap (λ j. first_id (regions_ids (regions_from {N = N} {T = T} {A = A} j no_regions))) one
  step_none zero (region g rs) e = none_joined (region_ids g) (regions_ids rs) (region_first g ∙ e)
  step_none (suc r) (region g rs) e = let one : suc (r + 1) ≡ suc r + 1 = omega arith in step_none r rs e ∙ ap (λ j. first_id (regions_ids (regions_from j (region g rs)))) one

  pub step_past : (r : ℕ) (rs : RegionsOf N T A) → region_count rs ≤ r → first_id (regions_ids (regions_from r rs)) ≡ None
  step_past zero no_regions l = refl
  step_past (suc r) no_regions l = refl
  step_past zero (region g rs) l = absurd (omega (arith, l))
  step_past (suc r) (region g rs) l = step_past r rs (omega (arith, l))

  -- the same for an optional operation
  pub inside_found : (r : ℕ) (f : Option (OpOf N T A)) (y : ℕ) → option_and_then first_op (option_and_then (λ o. option_and_then ops_in (region_at r (regions o))) f) ≡ Some y → first_inside r f ≡ Some y
  inside_found r None y e = absurd cc
  inside_found r (Some o) y e = step_found r (regions o) y e

  pub inside_none : (r : ℕ) (f : Option (OpOf N T A)) → option_and_then first_op (option_and_then (λ o. option_and_then ops_in (region_at r (regions o))) f) ≡ None → first_inside r f ≡ first_inside (r + 1) f
  inside_none r None e = refl
  inside_none r (Some o) e = step_none r (regions o) e

  pub inside_past : (r : ℕ) (f : Option (OpOf N T A)) → count_of f ≤ r → first_inside r f ≡ None
  inside_past r None l = refl
  inside_past r (Some o) l = step_past r (regions o) l

  -- ---- from an operation to its parents

  find_stand : (x : ℕ) (ss : List (OpWithPathOf N T A)) → list_any (λ y. eqb y x) (map (λ (s : OpWithPathOf N T A). op_with_path_id s) ss) ≡ true → (s : OpWithPathOf N T A) × (find_op_with_path x ss ≡ Some s)
  find_stand x [] h = absurd (true≢false (sym h))
  find_stand x (s ∷ ss) h = elim (bool_cases (eqb (op_with_path_id s) x)) [
    | inl e ↦ (s, ap (λ b. cond b (Some s) (find_op_with_path x ss)) e)
    | inr e ↦ let w = find_stand x ss (sym (ap (λ b. b || list_any (λ y. eqb y x) (map (λ (z : OpWithPathOf N T A). op_with_path_id z) ss)) e) ∙ h) in (w.0, ap (λ b. cond b (Some s) (find_op_with_path x ss)) e ∙ w.1)
  ]

  in_ids : (s : OpWithPathOf N T A) (ss : List (OpWithPathOf N T A)) → In s ss → list_any (λ y. eqb y (op_with_path_id s)) (map (λ (z : OpWithPathOf N T A). op_with_path_id z) ss) ≡ true
  in_ids s [] h = absurd h
  in_ids s (u ∷ ss) (inl e) = ap (λ b. b || list_any (λ y. eqb y (op_with_path_id s)) (map (λ (z : OpWithPathOf N T A). op_with_path_id z) ss)) (eq-eqb (op_with_path_id u) (op_with_path_id s) (ap (λ (z : OpWithPathOf N T A). op_with_path_id z) (sym e)))
  in_ids s (u ∷ ss) (inr h) = elim (bool_cases (eqb (op_with_path_id u) (op_with_path_id s))) [
    | inl e ↦ ap (λ b. b || list_any (λ y. eqb y (op_with_path_id s)) (map (λ (z : OpWithPathOf N T A). op_with_path_id z) ss)) e
    | inr e ↦ ap (λ b. b || list_any (λ y. eqb y (op_with_path_id s)) (map (λ (z : OpWithPathOf N T A). op_with_path_id z) ss)) e ∙ in_ids s ss h
  ]

  stands_there : (t : OpOf N T A) (s : OpWithPathOf N T A) → In s (stands [] t) → has_id (op_with_path_id s) t ≡ true
  stands_there t s h = subst (λ xs. list_any (λ y. eqb y (op_with_path_id s)) xs ≡ true) (stands_ids [] t) (in_ids s (stands [] t) h)

  module _ (t : OpOf N T A) (d : HasDistinctIds t) where
    located : (x : ℕ) → has_id x t ≡ true → (s : OpWithPathOf N T A) × (op_with_path x t ≡ Some s) × In s (stands [] t) × (op_with_path_id s ≡ x)
    located x h =
        let w = find_stand x (stands [] t) (subst (λ xs. list_any (λ y. eqb y x) xs ≡ true) (sym (stands_ids [] t)) h) in
        let m = member x (stands [] t) w.0 w.1 in
        (w.0, w.1, m.0, m.1)

    -- nothing is inside: the next operation is the first one after its contents
    pub from_after : (x : ℕ) → has_id x t ≡ true → first_inside 0 (find x t) ≡ None → following x t ≡ first_id (after_of (op_with_path x t))
    from_after x h e =
        let s = located x h in
        let found : find x t ≡ Some s.0.here = ap (λ y. find y t) (sym s.3) ∙ stand_found t d s.0 s.2 in
        ap (λ y. following y t) (sym s.3) ∙ follows t d s.0 s.2 ∙ none_joined (regions_ids (regions s.0.here)) (trailing s.0.path) (ap (first_inside 0) (sym found) ∙ e) ∙ ap (λ o. first_id (after_of o)) (sym s.1)

    pub from_inside : (x y : ℕ) → has_id x t ≡ true → first_inside 0 (find x t) ≡ Some y → following x t ≡ Some y
    from_inside x y h e =
        let s = located x h in
        let found : find x t ≡ Some s.0.here = ap (λ z. find z t) (sym s.3) ∙ stand_found t d s.0 s.2 in
        ap (λ z. following z t) (sym s.3) ∙ follows t d s.0 s.2 ∙ first_joined (regions_ids (regions s.0.here)) (trailing s.0.path) y (ap (first_inside 0) (sym found) ∙ e)

    -- no operation comes after the contents of the root
    pub after_root : (x : ℕ) → has_id x t ≡ true → place_of x t ≡ None → first_id (after_of (op_with_path x t)) ≡ None
    after_root x h e = let s = located x h in ap (λ o. first_id (after_of o)) s.1 ∙ go s.0 s.0.path refl s.2 s.3
      where
        go : (s : OpWithPathOf N T A) (p : List (StepOf N T A)) → s.path ≡ p → In s (stands [] t) → op_with_path_id s ≡ x → first_id (trailing s.path) ≡ None
        go s [] q k i = ap (λ l. first_id (trailing l)) q
        go s (a ∷ p) q k i =
            let at = place_of_member t d s.here a p (subst (λ l. In (stand s.here l) (stands [] t)) q k) in
            let no : None ≡ Some (record { parent = (head a.parent).id; region = a.region; before = first_op a.rest }) = sym e ∙ ap (λ z. place_of z t) (sym i) ∙ at in
            absurd cc

    -- the step from an operation that has a place
    pub record Up (x : ℕ) (place : Place) : Type 0 where
      pub next : (y : ℕ) → place.before ≡ Some y → first_id (after_of (op_with_path x t)) ≡ Some y
      pub later : (y : ℕ) → place.before ≡ None → first_inside (place.region + 1) (find place.parent t) ≡ Some y → first_id (after_of (op_with_path x t)) ≡ Some y
      pub around : place.before ≡ None → first_inside (place.region + 1) (find place.parent t) ≡ None → first_id (after_of (op_with_path x t)) ≡ first_id (after_of (op_with_path place.parent t))
      pub there : has_id place.parent t ≡ true
      pub lower : height_of (op_with_path place.parent t) < height_of (op_with_path x t)
      pub few : HasFewRegions t → place.region < 16

    pub up : (x : ℕ) (place : Place) → has_id x t ≡ true → place_of x t ≡ Some place → Up x place
    up x place h e = let w = member_of_place x place t e in go w.0 w.0.path refl (ap (λ y. op_with_path y t) (sym w.2) ∙ stand_of_member t d w.0 w.1) w.1 w.2 w.3
      where
        go : (s : OpWithPathOf N T A) (p : List (StepOf N T A)) → s.path ≡ p → op_with_path x t ≡ Some s → In s (stands [] t) → op_with_path_id s ≡ x → place_in s.path ≡ Some place → Up x place
        go s [] q f k i u = let no : None ≡ Some place = ap place_in (sym q) ∙ u in absurd cc
        go s (a ∷ p) q f k i u =
            let mem = subst (λ l. In (stand s.here l) (stands [] t)) q k in
            let at = place_of_member t d s.here a p mem in
            let two : Some place ≡ Some (record { parent = (head a.parent).id; region = a.region; before = first_op a.rest }) = sym e ∙ ap (λ z. place_of z t) (sym i) ∙ at in
            let one : place ≡ record { parent = (head a.parent).id; region = a.region; before = first_op a.rest } = cc in
            let around = (around_there t s.here a p mem).1 in
            let found : find place.parent t ≡ Some a.parent = ap (λ (z : Place). find z.parent t) one ∙ stand_found t d (stand a.parent p) around in
            let outer : op_with_path place.parent t ≡ Some (stand a.parent p) = ap (λ (z : Place). op_with_path z.parent t) one ∙ stand_of_member t d (stand a.parent p) around in
            let here : after_of (op_with_path x t) ≡ ops_ids a.rest ++ (regions_ids (regions_from (a.region + 1) (regions a.parent)) ++ trailing p) = ap after_of f ∙ ap trailing q in
            let rest : first_id (ops_ids a.rest) ≡ place.before = first_ops a.rest ∙ ap (λ (z : Place). z.before) (sym one) in
            let inside : first_inside (place.region + 1) (find place.parent t) ≡ first_id (regions_ids (regions_from (a.region + 1) (regions a.parent))) = (λ j. first_inside ((one j).region + 1) (found j)) in
            let more = regions_ids (regions_from (a.region + 1) (regions a.parent)) in
            record {
              next = λ y b. ap first_id here ∙ first_joined (ops_ids a.rest) (more ++ trailing p) y (rest ∙ b);
              later = λ y b g. ap first_id here ∙ none_joined (ops_ids a.rest) (more ++ trailing p) (rest ∙ b) ∙ first_joined more (trailing p) y (sym inside ∙ g);
              around = λ b g. ap first_id here ∙ none_joined (ops_ids a.rest) (more ++ trailing p) (rest ∙ b) ∙ none_joined more (trailing p) (sym inside ∙ g) ∙ ap (λ o. first_id (after_of o)) (sym outer);
              there = subst (λ z. has_id z t ≡ true) (ap (λ (z : Place). z.parent) (sym one)) (stands_there t (stand a.parent p) around);
              lower = let l : height_of (op_with_path place.parent t) ≡ length p = ap height_of outer in let g : height_of (op_with_path x t) ≡ suc (length p) = ap height_of f ∙ ap length q in omega (arith, l, g);
              few = λ fw. let l = region_below a.region (regions a.parent) (block a.args (joined_ops a.preceding (next s.here a.rest))) (shaped_as t s.here a p mem) in let c = fw place.parent a.parent found in let r : place.region ≡ a.region = ap (λ (z : Place). z.region) one in omega (arith, l, c, r);
            }

    -- the next operation in the block comes first after the contents
    pub next_after : (x y : ℕ) → has_id x t ≡ true → option_and_then (λ (p : Place). p.before) (place_of x t) ≡ Some y → first_id (after_of (op_with_path x t)) ≡ Some y
    next_after x y h e = go (place_of x t) refl e
      where
        go : (f : Option Place) → place_of x t ≡ f → option_and_then (λ (p : Place). p.before) f ≡ Some y → first_id (after_of (op_with_path x t)) ≡ Some y
        go None i k = absurd cc
        go (Some place) i k = (up x place h i).next y k

    -- the number of regions of an operation
    found_op : (x : ℕ) → has_id x t ≡ true → (o : OpOf N T A) × (find x t ≡ Some o)
    found_op x h = let s = located x h in (s.0.here, ap (λ y. find y t) (sym s.3) ∙ stand_found t d s.0 s.2)

    pub shown_count : (x : ℕ) (held : Option (OpOf N T A)) (n : NodeOf N T A) → has_id x t ≡ true → Some n ≡ option_map (λ o. node_of o) (first_of (find x t) held) → length n.arguments ≡ count_of (find x t)
    shown_count x held n h e =
        let w = found_op x h in
        let two : Some n ≡ Some (node_of w.0) = e ∙ ap (λ f. option_map (λ o. node_of o) (first_of f held)) w.1 in
        let one : n ≡ node_of w.0 = cc in
        ap (λ (k : NodeOf N T A). length k.arguments) one ∙ regions_counted w.0 ∙ sym (ap count_of w.1)

    pub few_shown : (x : ℕ) → HasFewRegions t → has_id x t ≡ true → count_of (find x t) ≤ 16
    few_shown x f h = let w = found_op x h in subst (λ o. count_of o ≤ 16) (sym w.1) (f x w.0 w.1)

-- ---- the operations before an operation
after_cut : (a x : ℕ) (preceding back : List ℕ) → IsDistinct eqb (preceding ++ a ∷ back) → list_any (λ y. eqb y x) back ≡ true → comes_after a x (preceding ++ a ∷ back) ≡ true
after_cut a x [] back d h = ap (λ b. cond b (list_any (λ y. eqb y x) back) (comes_after a x back)) (eq-eqb a a refl) ∙ h
after_cut a x (y ∷ preceding) back d h = elim (bool_cases (eqb y a)) [
  | inl e ↦ absurd (true≢false (sym (list_later a preceding back) ∙ subst (λ z. list_any (λ v. eqb v z) (preceding ++ a ∷ back) ≡ false) (eqb-true y a e) (absent_first y (preceding ++ a ∷ back) d)))
  | inr e ↦ ap (λ b. cond b (list_any (λ v. eqb v x) (preceding ++ a ∷ back)) (comes_after a x (preceding ++ a ∷ back))) e ∙ after_cut a x preceding back (IsDistinct-tail eqb y (preceding ++ a ∷ back) d) h
]

any_left : (x : ℕ) (xs ys : List ℕ) → list_any (λ y. eqb y x) xs ≡ true → list_any (λ y. eqb y x) (xs ++ ys) ≡ true
any_left x [] ys h = absurd (true≢false (sym h))
any_left x (z ∷ xs) ys h = elim (bool_cases (eqb z x)) [
  | inl e ↦ ap (λ b. b || list_any (λ y. eqb y x) (xs ++ ys)) e
  | inr e ↦ ap (λ b. b || list_any (λ y. eqb y x) (xs ++ ys)) e ∙ any_left x xs ys (sym (ap (λ b. b || list_any (λ y. eqb y x) xs) e) ∙ h)
]

any_right : (x : ℕ) (xs ys : List ℕ) → list_any (λ y. eqb y x) ys ≡ true → list_any (λ y. eqb y x) (xs ++ ys) ≡ true
any_right x [] ys h = h
any_right x (z ∷ xs) ys h = elim (bool_cases (eqb z x)) [
  | inl e ↦ ap (λ b. b || list_any (λ y. eqb y x) (xs ++ ys)) e
  | inr e ↦ ap (λ b. b || list_any (λ y. eqb y x) (xs ++ ys)) e ∙ any_right x xs ys h
]

module _ {N T A : Type 0} where
  -- a list split before its last entry
  preceding_split : (y : ℕ) (preceding : List (OpOf N T A)) → last_id (ops_of preceding) ≡ Some y → (f : List (OpOf N T A)) × (u : OpOf N T A) × (preceding ≡ f ++ u ∷ []) × ((head u).id ≡ y)
  preceding_split y [] e = absurd cc
  preceding_split y (o ∷ []) e = ([], o, refl, let i : (head o).id ≡ y = cc in i)
  preceding_split y (o ∷ (u ∷ us)) e =
      let w = preceding_split y (u ∷ us) (sym (later u us) ∙ e) in
      (o ∷ w.0, w.1, ap (λ l. o ∷ l) w.2, w.3)
    where
      some_last : (u : OpOf N T A) (us : List (OpOf N T A)) → (z : ℕ) × (last_id (ops_of (u ∷ us)) ≡ Some z)
      some_last u [] = ((head u).id, refl)
      some_last u (v ∷ vs) = let w = some_last v vs in (w.0, ap (λ l. first_of l (Some (head u).id)) w.1)

      later : (u : OpOf N T A) (us : List (OpOf N T A)) → last_id (ops_of (o ∷ (u ∷ us))) ≡ last_id (ops_of (u ∷ us))
      later u us = let w = some_last u us in ap (λ l. first_of l (Some (head o).id)) w.1 ∙ sym w.1

  -- a list in which x comes after y, split before the first y
  first_split : (y x : ℕ) (os : OpsOf N T A) → goes_before y x os ≡ true → (pre : List (OpOf N T A)) × (g : OpOf N T A) × (rest : OpsOf N T A) × ((head g).id ≡ y) × (is_among x rest ≡ true) × (os ≡ joined_ops pre (next g rest))
  first_split y x no_ops h = absurd (true≢false (sym h))
  first_split y x (next o os) h = go (eqb (head o).id y) refl h (first_split y x os)
    where
      go : (b : Bool) → eqb (head o).id y ≡ b → cond b (is_among x os) (goes_before y x os) ≡ true
          → (goes_before y x os ≡ true → (pre : List (OpOf N T A)) × (g : OpOf N T A) × (rest : OpsOf N T A) × ((head g).id ≡ y) × (is_among x rest ≡ true) × (os ≡ joined_ops pre (next g rest)))
          → (pre : List (OpOf N T A)) × (g : OpOf N T A) × (rest : OpsOf N T A) × ((head g).id ≡ y) × (is_among x rest ≡ true) × (next o os ≡ joined_ops pre (next g rest))
      go true e k later = ([], o, os, eqb-true (head o).id y e, k, refl)
      go false e k later = let s = later k in (o ∷ s.0, s.1, s.2, s.3, s.4, ap (next o) s.5)

  own_listed : (o : OpOf N T A) → list_any (λ y. eqb y (head o).id) (ids o) ≡ true
  own_listed (op h rs) = ap (λ b. b || list_any (λ y. eqb y h.id) (regions_ids rs)) (eq-eqb h.id h.id refl)

  among_ids : (x : ℕ) (os : OpsOf N T A) → is_among x os ≡ true → list_any (λ z. eqb z x) (ops_ids os) ≡ true
  among_ids x no_ops h = absurd (true≢false (sym h))
  among_ids x (next o os) h = elim (bool_cases (eqb (head o).id x)) [
    | inl e ↦ any_left x (ids o) (ops_ids os) (subst (λ z. list_any (λ v. eqb v z) (ids o) ≡ true) (eqb-true (head o).id x e) (own_listed o))
    | inr e ↦ any_right x (ids o) (ops_ids os) (among_ids x os (sym (ap (λ b. b || is_among x os) e) ∙ h))
  ]

  module _ (t : OpOf N T A) (d : HasDistinctIds t) where
    -- operations inside or after an operation follow it in pre-order
    pub comes_later : (s : OpWithPathOf N T A) (x : ℕ) → In s (stands [] t) → list_any (λ y. eqb y x) (regions_ids (regions s.here) ++ trailing s.path) ≡ true → precedes (op_with_path_id s) x t ≡ true
    comes_later s x h k =
        let c = cut_op [] t s h in
        let is : ids t ≡ c.0 ++ (op_with_path_id s ∷ (regions_ids (regions s.here) ++ trailing s.path)) = sym (append_none (ids t)) ∙ c.1 ∙ ap (λ l. c.0 ++ (l ++ trailing s.path)) (ids_head s.here) in
        ap (comes_after (op_with_path_id s) x) is ∙ after_cut (op_with_path_id s) x c.0 (regions_ids (regions s.here) ++ trailing s.path) (subst (IsDistinct eqb) is d) k

    -- the previous operation in the block comes before it
    pub prev_precedes : (x y : ℕ) → prev_of x t ≡ Some y → precedes y x t ≡ true
    prev_precedes x y e = placed (place_of x t) refl
      where
        go : (s : OpWithPathOf N T A) (place : Place) (p : List (StepOf N T A)) → s.path ≡ p → In s (stands [] t) → op_with_path_id s ≡ x → place_in s.path ≡ Some place → precedes y x t ≡ true
        go s place [] q k i f = let no : None ≡ Some place = ap place_in (sym q) ∙ f in absurd cc
        go s place (a ∷ p) q k i f =
            let mem = subst (λ l. In (stand s.here l) (stands [] t)) q k in
            let w = preceding_split y a.preceding (sym (prev_there t d s.here a p mem) ∙ ap (λ z. prev_of z t) i ∙ e) in
            let u = stand w.1 (step a.parent a.region a.args w.0 (next s.here a.rest) ∷ p) in
            let shaped : region_at a.region (regions a.parent) ≡ Some (block a.args (joined_ops w.0 (next w.1 (next s.here a.rest)))) = shaped_as t s.here a p mem ∙ ap (λ l. Some (block a.args l)) (ap (λ f. joined_ops f (next s.here a.rest)) w.2 ∙ joined_more w.0 w.1 (next s.here a.rest)) in
            let there : In u (stands [] t) = within a.parent p u (child a.parent p a.region a.args (joined_ops w.0 (next w.1 (next s.here a.rest))) u shaped (ops_child a.parent p a.region a.args [] w.0 w.1 (next s.here a.rest))) [] t (around_there t s.here a p mem).1 in
            let x_in : list_any (λ z. eqb z x) (ids s.here) ≡ true = subst (λ z. list_any (λ v. eqb v z) (ids s.here) ≡ true) i (own_listed s.here) in
            subst (λ z. precedes z x t ≡ true) w.3 (comes_later u x there
            (any_right x (regions_ids (regions w.1)) (trailing u.path) (any_left x (ops_ids (next s.here a.rest)) (regions_ids (regions_from (a.region + 1) (regions a.parent)) ++ trailing p) (any_left x (ids s.here) (ops_ids a.rest) x_in))))

        placed : (f : Option Place) → place_of x t ≡ f → precedes y x t ≡ true
        placed None f =
            let no : Some y ≡ None = sym e ∙ ap (λ (g : Option Place). option_and_then (id_before x None) (option_and_then (λ (p : Place). ops_at p.parent p.region t) g)) f in
            absurd cc
        placed (Some place) f = let w = member_of_place x place t f in go w.0 place w.0.path refl w.1 w.2 w.3

    inside_joined : (x : ℕ) (f : List (OpOf N T A)) (o : OpOf N T A) (rest : OpsOf N T A) → list_any (λ z. eqb z x) (ids o) ≡ true → list_any (λ z. eqb z x) (ops_ids (joined_ops f (next o rest))) ≡ true
    inside_joined x [] o rest h = any_left x (ids o) (ops_ids rest) h
    inside_joined x (u ∷ f) o rest h = any_right x (ids u) (ops_ids (joined_ops f (next o rest))) (inside_joined x f o rest h)

    inside_regions : (x r : ℕ) (rs : RegionsOf N T A) (g : RegionOf N T A) → region_at r rs ≡ Some g → list_any (λ z. eqb z x) (region_ids g) ≡ true → list_any (λ z. eqb z x) (regions_ids rs) ≡ true
    inside_regions x r no_regions g e h = absurd cc
    inside_regions x zero (region g rs) k e h = let same : g ≡ k = cc in any_left x (region_ids g) (regions_ids rs) (subst (λ v. list_any (λ z. eqb z x) (region_ids v) ≡ true) (sym same) h)
    inside_regions x (suc r) (region g rs) k e h = any_right x (region_ids g) (regions_ids rs) (inside_regions x r rs k e h)

    -- the parent comes before it
    pub parent_precedes : (x y : ℕ) → parent_of x t ≡ Some y → precedes y x t ≡ true
    parent_precedes x y e = placed (place_of x t) refl
      where
        go : (s : OpWithPathOf N T A) (place : Place) (p : List (StepOf N T A)) → s.path ≡ p → In s (stands [] t) → op_with_path_id s ≡ x → place_in s.path ≡ Some place → place.parent ≡ y → precedes y x t ≡ true
        go s place [] q k i f g = let no : None ≡ Some place = ap place_in (sym q) ∙ f in absurd cc
        go s place (a ∷ p) q k i f g =
            let mem = subst (λ l. In (stand s.here l) (stands [] t)) q k in
            let two : Some (record { parent = (head a.parent).id; region = a.region; before = first_op a.rest }) ≡ Some place = ap place_in (sym q) ∙ f in
            let one : record { parent = (head a.parent).id; region = a.region; before = first_op a.rest } ≡ place = cc in
            let is : (head a.parent).id ≡ y = ap (λ (z : Place). z.parent) one ∙ g in
            let x_in : list_any (λ z. eqb z x) (ids s.here) ≡ true = subst (λ z. list_any (λ v. eqb v z) (ids s.here) ≡ true) i (own_listed s.here) in
            let held = inside_regions x a.region (regions a.parent) (block a.args (joined_ops a.preceding (next s.here a.rest))) (shaped_as t s.here a p mem) (inside_joined x a.preceding s.here a.rest x_in) in
            subst (λ z. precedes z x t ≡ true) is (comes_later (stand a.parent p) x (around_there t s.here a p mem).1 (any_left x (regions_ids (regions a.parent)) (trailing p) held))

        placed : (f : Option Place) → place_of x t ≡ f → precedes y x t ≡ true
        placed None f = let no : Some y ≡ None = sym e ∙ ap (option_map (λ (p : Place). p.parent)) f in absurd cc
        placed (Some place) f =
            let w = member_of_place x place t f in
            let same : Some place.parent ≡ Some y = sym (ap (option_map (λ (p : Place). p.parent)) f) ∙ e in
            let parent : place.parent ≡ y = cc in
            go w.0 place w.0.path refl w.1 w.2 w.3 parent

    -- an earlier operation of the same block comes before it
    pub before_precedes : (y x : ℕ) → is_before y x t ≡ true → precedes y x t ≡ true
    before_precedes y x e = placed (place_of y t) refl
      where
        go : (s : OpWithPathOf N T A) (place : Place) (p : List (StepOf N T A)) → s.path ≡ p → In s (stands [] t) → op_with_path_id s ≡ y → place_in s.path ≡ Some place → precedes y x t ≡ true
        go s place [] q k i f = let no : None ≡ Some place = ap place_in (sym q) ∙ f in absurd cc
        go s place (a ∷ p) q k i f =
            let mem = subst (λ l. In (stand s.here l) (stands [] t)) q k in
            let up = (around_there t s.here a p mem).1 in
            let shaped = shaped_as t s.here a p mem in
            let list : list_of (head s.here).id t ≡ Some (joined_ops a.preceding (next s.here a.rest)) =
            ap (option_and_then (λ z. ops_at z.parent z.region t)) (place_of_member t d s.here a p mem)
            ∙ ap (option_and_then (λ o. option_and_then ops_in (region_at a.region (regions o)))) (stand_found t d (stand a.parent p) up) ∙ ap (option_and_then ops_in) shaped in
            let w = first_split y x (joined_ops a.preceding (next s.here a.rest)) (sym (ap (in_list (goes_before y x)) (ap (λ z. list_of z t) (sym i) ∙ list)) ∙ e) in
            let u = stand w.1 (step a.parent a.region a.args w.0 w.2 ∷ p) in
            let there : In u (stands [] t) = within a.parent p u (child a.parent p a.region a.args (joined_ops w.0 (next w.1 w.2)) u (shaped ∙ ap (λ l. Some (block a.args l)) w.5) (ops_child a.parent p a.region a.args [] w.0 w.1 w.2)) [] t up in
            subst (λ z. precedes z x t ≡ true) w.3 (comes_later u x there
            (any_right x (regions_ids (regions w.1)) (trailing u.path) (any_left x (ops_ids w.2) (regions_ids (regions_from (a.region + 1) (regions a.parent)) ++ trailing p) (among_ids x w.2 w.4))))

        placed : (f : Option Place) → place_of y t ≡ f → precedes y x t ≡ true
        placed None f = absurd (true≢false (sym e ∙ ap (λ (g : Option Place). in_list (goes_before y x) (option_and_then (λ (p : Place). ops_at p.parent p.region t) g)) f))
        placed (Some place) f = let w = member_of_place y place t f in go w.0 place w.0.path refl w.1 w.2 w.3

    joined_split : (f : List (OpOf N T A)) (u : OpOf N T A) (g : List (OpOf N T A)) (os : OpsOf N T A) → joined_ops (f ++ u ∷ g) os ≡ joined_ops f (next u (joined_ops g os))
    joined_split [] u g os = refl
    joined_split (x ∷ f) u g os = ap (next x) (joined_split f u g os)

    -- the operation of a list that defines a value
    shown_by : (y k : ℕ) (preceding : List (OpOf N T A)) → list_any (λ o. shows (Result y k) (results_of o)) preceding ≡ true
        → (f : List (OpOf N T A)) × (u : OpOf N T A) × (g : List (OpOf N T A)) × (preceding ≡ f ++ u ∷ g) × ((head u).id ≡ y)
    shown_by y k [] h = absurd (true≢false (sym h))
    shown_by y k (o ∷ os) h = elim (bool_cases (shows (Result y k) (results_of o))) [
      | inl e ↦ ([], o, os, refl, sym (eqb-true y (head o).id (both (eqb y (head o).id) (nat_lt k (length (head o).results)) e).0))
      | inr e ↦
          let w = shown_by y k os (sym (ap (λ b. b || list_any (λ (q : OpOf N T A). shows (Result y k) (results_of q)) os) e) ∙ h) in
          (o ∷ w.0, w.1, w.2, ap (λ l. o ∷ l) w.3, w.4)
    ]

    -- an operation that defines a value visible at the end of a path comes before the parent, or is earlier in the block
    pub record Earlier (y : ℕ) (o : OpOf N T A) (a : StepOf N T A) : Type 0 where
      pub precedes_it : precedes y (head o).id t ≡ true
      pub next_one : Option ℕ
      pub place : place_of y t ≡ Some (record { parent = (head a.parent).id; region = a.region; before = next_one })

    earlier : (y k : ℕ) (o : OpOf N T A) (a : StepOf N T A) (p : List (StepOf N T A)) → In (stand o (a ∷ p)) (stands [] t) → list_any (λ q. shows (Result y k) (results_of q)) a.preceding ≡ true → Earlier y o a
    earlier y k o a p mem h =
        let w = shown_by y k a.preceding h in
        let rest = joined_ops w.2 (next o a.rest) in
        let b = step a.parent a.region a.args w.0 rest in
        let u = stand w.1 (b ∷ p) in
        let shaped : region_at a.region (regions a.parent) ≡ Some (block a.args (joined_ops w.0 (next w.1 rest))) =
        shaped_as t o a p mem ∙ ap (λ l. Some (block a.args l)) (ap (λ f. joined_ops f (next o a.rest)) w.3 ∙ joined_split w.0 w.1 w.2 (next o a.rest)) in
        let there : In u (stands [] t) = within a.parent p u (child a.parent p a.region a.args (joined_ops w.0 (next w.1 rest)) u shaped (ops_child a.parent p a.region a.args [] w.0 w.1 rest)) [] t (around_there t o a p mem).1 in
        let x_in : list_any (λ z. eqb z (head o).id) (ops_ids rest) ≡ true = inside_joined (head o).id w.2 o a.rest (own_listed o) in
        record {
          precedes_it = subst (λ z. precedes z (head o).id t ≡ true) w.4 (comes_later u (head o).id there
              (any_right (head o).id (regions_ids (regions w.1)) (trailing u.path) (any_left (head o).id (ops_ids rest) (regions_ids (regions_from (a.region + 1) (regions a.parent)) ++ trailing p) x_in)));
          next_one = first_op rest;
          place = ap (λ z. place_of z t) (sym w.4) ∙ place_of_member t d w.1 b p there;
        }

    over : (y x z : ℕ) → precedes y x t ≡ true → precedes x z t ≡ true → precedes y z t ≡ true
    over y x z h k = after_from_rank y z (ids t) (first_there y x (ids t) h) (second_there x z (ids t) k) (omega (arith, rises y x (ids t) d h, rises x z (ids t) d k))

    parent_before : (o : OpOf N T A) (a : StepOf N T A) (p : List (StepOf N T A)) → In (stand o (a ∷ p)) (stands [] t) → precedes (head a.parent).id (head o).id t ≡ true
    parent_before o a p mem = parent_precedes (head o).id (head a.parent).id (ap (option_map (λ (z : Place). z.parent)) (place_of_member t d o a p mem))

    module _ (isolated : N → Bool) (y k : ℕ) where
      -- a value visible at the end of a path
      by_path : (o : OpOf N T A) (a : StepOf N T A) (p : List (StepOf N T A)) → In (stand o (a ∷ p)) (stands [] t) → dominated_by isolated (a ∷ p) (Result y k) ≡ true → Earlier y o a ⊎ (dominated_by isolated p (Result y k) ≡ true)
      by_path o a p mem e = elim (either (list_any (λ q. shows (Result y k) (results_of q)) a.preceding) (shows (Result y k) (arguments (head a.parent).id a.region (length a.args)) || not (isolated (head a.parent).name) && dominated_by isolated p (Result y k)) e) [
        | inl i ↦ inl (earlier y k o a p mem i)
        | inr i ↦ inr (both (not (isolated (head a.parent).name)) (dominated_by isolated p (Result y k)) i).1
      ]

      -- the operation that defines it comes before
      pub dominates : (o : OpOf N T A) (p : List (StepOf N T A)) → In (stand o p) (stands [] t) → dominated_by isolated p (Result y k) ≡ true → precedes y (head o).id t ≡ true
      dominates o [] mem e = absurd (true≢false (sym e))
      dominates o (a ∷ p) mem e = elim (by_path o a p mem e) [
        | inl i ↦ i.precedes_it
        | inr i ↦ over y (head a.parent).id (head o).id (dominates a.parent p (around_there t o a p mem).1 i) (parent_before o a p mem)
      ]

      -- it comes before the parent, or it is in the same block
      pub dominates_parent : (o : OpOf N T A) (a : StepOf N T A) (p : List (StepOf N T A)) → In (stand o (a ∷ p)) (stands [] t) → dominated_by isolated (a ∷ p) (Result y k) ≡ true → (precedes y (head a.parent).id t ≡ true) ⊎ Earlier y o a
      dominates_parent o a p mem e = elim (by_path o a p mem e) [
        | inl i ↦ inr i
        | inr i ↦ inl (dominates a.parent p (around_there t o a p mem).1 i)
      ]

    -- of two operations, only one comes before the other
    pub not_after : (x y : ℕ) → precedes x y t ≡ true → precedes y x t ≡ false
    not_after x y h = elim (bool_cases (precedes y x t)) [ inr k ↦ k | inl k ↦ absurd (omega (arith, rises x y (ids t) d h, rises y x (ids t) d k)) ]

    -- only the root has no parent
    pub rootless : (x : ℕ) → has_id x t ≡ true → parent_of x t ≡ None → x ≡ (head t).id
    rootless x h e = let s = located t d x h in go s.0 s.0.path refl s.2 s.3
      where
        go : (s : OpWithPathOf N T A) (p : List (StepOf N T A)) → s.path ≡ p → In s (stands [] t) → op_with_path_id s ≡ x → x ≡ (head t).id
        go s [] q k i = elim (has_around [] t s k) [
          | inl u ↦ sym i ∙ ap (λ (z : OpWithPathOf N T A). op_with_path_id z) u
          | inr w ↦ (let bad : [] ≡ w.0 ∷ w.1 = sym q ∙ w.2 in absurd cc)
        ]
        go s (a ∷ p) q k i =
            let at = place_of_member t d s.here a p (subst (λ l. In (stand s.here l) (stands [] t)) q k) in
            let no : None ≡ Some (head a.parent).id = sym e ∙ ap (λ z. parent_of z t) (sym i) ∙ ap (option_map (λ (z : Place). z.parent)) at in
            absurd cc
