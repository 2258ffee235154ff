-- Operations with their paths, as members of the list of a tree.
use Rattle.std.proofs.Common.{◌≡◌, refl, ap, sym, ◌∙◌, subst, ℕ, ◌+◌, Bool, true, false, true≢false, cond, ◌&&◌, eqb, eq-eqb, eqb-true, List, [], ◌∷◌, ◌++◌, map, append_assoc, append-nil, Option, Some, None, option_map, inl, inr, ◌⊎◌}
use Rattle.std.specs.List.{IsDistinct, AllByRecursion, list_any}
use Rattle.std.proofs.lemmas.Map.Keys.{IsDistinct-head, IsDistinct-tail}
use Rattle.ir_tree.specs.Tree.{OpOf, op, RegionsOf, no_regions, region, RegionOf, empty, block, OpsOf, no_ops, next}
use Rattle.ir_tree.specs.Ids.{HasDistinctIds, find}
use Rattle.ir_tree_laws.specs.Stands.{StepOf, OpWithPathOf, op_with_path_id, stands, regions_stands, region_stands, ops_stands, find_op_with_path, op_with_path}
use Rattle.ir_tree_laws.specs.Members.{In}
use Rattle.ir_tree_laws.proofs.Listed.{in_left, in_right, in_parts, any_one, one_any, both, both_hold}
use Rattle.ir_tree_laws.proofs.Readings.{step, stands_ids, stands_find}

module _ {N T A : Type 0} where
  abbrev pub stand : OpOf N T A → List (StepOf N T A) → OpWithPathOf N T A
  stand o path = record { here = o; path = path }

  pub itself : (path : List (StepOf N T A)) (t : OpOf N T A) → In (stand t path) (stands path t)
  itself path (op h rs) = inl refl

  -- an operation inside an operation of the list is in the list
  module _ (o : OpOf N T A) (q : List (StepOf N T A)) (s : OpWithPathOf N T A) (inner : In s (stands q o)) where
    mutual
      pub within : (b : List (StepOf N T A)) (t : OpOf N T A) → In (stand o q) (stands b t) → In s (stands b t)
      within b (op h rs) (inl e) = subst (λ (z : OpWithPathOf N T A). In s (stands z.path z.here)) e inner
      within b (op h rs) (inr k) = inr (regions_within (op h rs) b 0 rs k)

      pub regions_within : (p : OpOf N T A) (b : List (StepOf N T A)) (r : ℕ) (rs : RegionsOf N T A) → In (stand o q) (regions_stands p b r rs) → In s (regions_stands p b r rs)
      regions_within p b r no_regions k = absurd k
      regions_within p b r (region g rs) k = elim (in_parts _ (region_stands p b r g) (regions_stands p b (r + 1) rs) k) [
        | inl l ↦ in_left s (region_stands p b r g) (regions_stands p b (r + 1) rs) (region_within p b r g l)
        | inr l ↦ in_right s (region_stands p b r g) (regions_stands p b (r + 1) rs) (regions_within p b (r + 1) rs l)
      ]

      region_within : (p : OpOf N T A) (b : List (StepOf N T A)) (r : ℕ) (g : RegionOf N T A) → In (stand o q) (region_stands p b r g) → In s (region_stands p b r g)
      region_within p b r empty k = absurd k
      region_within p b r (block args os) k = ops_within p b r args [] os k

      ops_within : (p : OpOf N T A) (b : List (StepOf N T A)) (r : ℕ) (args : List T) (preceding : List (OpOf N T A)) (os : OpsOf N T A) → In (stand o q) (ops_stands p b r args preceding os) → In s (ops_stands p b r args preceding os)
      ops_within p b r args preceding no_ops k = absurd k
      ops_within p b r args preceding (next u os) k = elim (in_parts _ (stands (step p r args preceding os ∷ b) u) (ops_stands p b r args (preceding ++ u ∷ []) os) k) [
        | inl l ↦ in_left s (stands (step p r args preceding os ∷ b) u) (ops_stands p b r args (preceding ++ u ∷ []) os) (within (step p r args preceding os ∷ b) u l)
        | inr l ↦ in_right s (stands (step p r args preceding os ∷ b) u) (ops_stands p b r args (preceding ++ u ∷ []) os) (ops_within p b r args (preceding ++ u ∷ []) os l)
      ]

  -- each operation but the first has a parent in the list
  abbrev pub HasAround : OpWithPathOf N T A → List (OpWithPathOf N T A) → Type 0
  HasAround s ss = (a : StepOf N T A) × (q : List (StepOf N T A)) × (s.path ≡ a ∷ q) × In s (stands q a.parent) × In (stand a.parent q) ss

  wider : (s u : OpWithPathOf N T A) (ss xs : List (OpWithPathOf N T A)) → ((z : OpWithPathOf N T A) → In z ss → In z (u ∷ xs)) → HasAround s ss → HasAround s (u ∷ xs)
  wider s u ss xs f w = (w.0, w.1, w.2, w.3, f (stand w.0.parent w.1) w.4)

  wider_left : (s u : OpWithPathOf N T A) (xs ys : List (OpWithPathOf N T A)) → HasAround s (u ∷ xs) → HasAround s (u ∷ (xs ++ ys))
  wider_left s u xs ys w = wider s u (u ∷ xs) (xs ++ ys) (λ z k. in_left z (u ∷ xs) ys k) w

  wider_right : (s u : OpWithPathOf N T A) (xs ys : List (OpWithPathOf N T A)) → HasAround s (u ∷ ys) → HasAround s (u ∷ (xs ++ ys))
  wider_right s u xs ys w = wider s u (u ∷ ys) (xs ++ ys) (λ z k. elim k [ inl e ↦ inl e | inr l ↦ inr (in_right z xs ys l) ]) w

  mutual
    pub has_around : (b : List (StepOf N T A)) (t : OpOf N T A) (s : OpWithPathOf N T A) → In s (stands b t) → (s ≡ stand t b) ⊎ HasAround s (stands b t)
    has_around b (op h rs) s (inl e) = inl e
    has_around b (op h rs) s (inr k) = inr (regions_around (op h rs) b 0 rs s k (λ u l. here_too (op h rs) b rs u l))
      where
        here_too : (p : OpOf N T A) (b : List (StepOf N T A)) (rs : RegionsOf N T A) (u : OpWithPathOf N T A) → In u (regions_stands p b 0 rs) → In u (stand p b ∷ regions_stands p b 0 rs)
        here_too p b rs u l = inr l

    regions_around : (p : OpOf N T A) (b : List (StepOf N T A)) (r : ℕ) (rs : RegionsOf N T A) (s : OpWithPathOf N T A) → In s (regions_stands p b r rs) → ((u : OpWithPathOf N T A) → In u (regions_stands p b r rs) → In u (stands b p)) → HasAround s (stand p b ∷ regions_stands p b r rs)
    regions_around p b r no_regions s k f = absurd k
    regions_around p b r (region g rs) s k f = elim (in_parts s (region_stands p b r g) (regions_stands p b (r + 1) rs) k) [
      | inl l ↦ wider_left s (stand p b) (region_stands p b r g) (regions_stands p b (r + 1) rs) (region_around p b r g s l (λ u m. f u (in_left u (region_stands p b r g) (regions_stands p b (r + 1) rs) m)))
      | inr l ↦ wider_right s (stand p b) (region_stands p b r g) (regions_stands p b (r + 1) rs) (regions_around p b (r + 1) rs s l (λ u m. f u (in_right u (region_stands p b r g) (regions_stands p b (r + 1) rs) m)))
    ]

    region_around : (p : OpOf N T A) (b : List (StepOf N T A)) (r : ℕ) (g : RegionOf N T A) (s : OpWithPathOf N T A) → In s (region_stands p b r g) → ((u : OpWithPathOf N T A) → In u (region_stands p b r g) → In u (stands b p)) → HasAround s (stand p b ∷ region_stands p b r g)
    region_around p b r empty s k f = absurd k
    region_around p b r (block args os) s k f = ops_around p b r args [] os s k f

    ops_around : (p : OpOf N T A) (b : List (StepOf N T A)) (r : ℕ) (args : List T) (preceding : List (OpOf N T A)) (os : OpsOf N T A) (s : OpWithPathOf N T A)
        → In s (ops_stands p b r args preceding os) → ((u : OpWithPathOf N T A) → In u (ops_stands p b r args preceding os) → In u (stands b p)) → HasAround s (stand p b ∷ ops_stands p b r args preceding os)
    ops_around p b r args preceding no_ops s k f = absurd k
    ops_around p b r args preceding (next o os) s k f =
        let a = step p r args preceding os in
        let xs = stands (a ∷ b) o in
        let ys = ops_stands p b r args (preceding ++ o ∷ []) os in
        elim (in_parts s xs ys k) [
          | inl l ↦ elim (has_around (a ∷ b) o s l) [
            | inl e ↦ (a, b, ap (λ (z : OpWithPathOf N T A). z.path) e, f s (in_left s xs ys l), inl refl)
            | inr w ↦ wider s (stand p b) xs (xs ++ ys) (λ z m. inr (in_left z xs ys m)) w
          ]
          | inr l ↦ wider_right s (stand p b) xs ys (ops_around p b r args (preceding ++ o ∷ []) os s l (λ u m. f u (in_right u xs ys m)))
        ]

  -- an operation of a list with the operations before it
  abbrev pub joined_ops : List (OpOf N T A) → OpsOf N T A → OpsOf N T A
  joined_ops [] os = os
  joined_ops (o ∷ fs) os = next o (joined_ops fs os)

  pub ops_child : (p : OpOf N T A) (b : List (StepOf N T A)) (r : ℕ) (args : List T) (preceding fs : List (OpOf N T A)) (o : OpOf N T A) (os : OpsOf N T A)
      → In (stand o (step p r args (preceding ++ fs) os ∷ b)) (ops_stands p b r args preceding (joined_ops fs (next o os)))
  ops_child p b r args preceding [] o os =
      in_left _ (stands (step p r args preceding os ∷ b) o) (ops_stands p b r args (preceding ++ o ∷ []) os)
      (subst (λ (l : List (OpOf N T A)). In (stand o (step p r args l os ∷ b)) (stands (step p r args preceding os ∷ b) o)) (sym (append-nil preceding)) (itself (step p r args preceding os ∷ b) o))
  ops_child p b r args preceding (u ∷ fs) o os =
      in_right _ (stands (step p r args preceding (joined_ops fs (next o os)) ∷ b) u) (ops_stands p b r args (preceding ++ u ∷ []) (joined_ops fs (next o os)))
      (subst (λ (l : List (OpOf N T A)). In (stand o (step p r args l os ∷ b)) (ops_stands p b r args (preceding ++ u ∷ []) (joined_ops fs (next o os)))) (append_assoc preceding (u ∷ []) fs) (ops_child p b r args (preceding ++ u ∷ []) fs o os))

  -- if ids are distinct, each member is the one with its id
  all_in : (x : ℕ) (ss : List (OpWithPathOf N T A)) → AllByRecursion (λ y. eqb x y ≡ false) (map (λ (s : OpWithPathOf N T A). op_with_path_id s) ss) → (s : OpWithPathOf N T A) → In s ss → eqb x (op_with_path_id s) ≡ false
  all_in x [] a s h = absurd h
  all_in x (y ∷ ss) a s (inl e) = ap (λ (z : OpWithPathOf N T A). eqb x (op_with_path_id z)) e ∙ a.0
  all_in x (y ∷ ss) a s (inr h) = all_in x ss a.1 s h

  pub the_one : (ss : List (OpWithPathOf N T A)) → IsDistinct eqb (map (λ (s : OpWithPathOf N T A). op_with_path_id s) ss) → (s : OpWithPathOf N T A) → In s ss → find_op_with_path (op_with_path_id s) ss ≡ Some s
  the_one [] d s h = absurd h
  the_one (y ∷ ss) d s (inl e) =
      ap (λ (z : OpWithPathOf N T A). find_op_with_path (op_with_path_id z) (y ∷ ss)) e
      ∙ ap (λ b. cond b (Some y) (find_op_with_path (op_with_path_id y) ss)) (eq-eqb (op_with_path_id y) (op_with_path_id y) refl)
      ∙ ap Some (sym e)
  the_one (y ∷ ss) d s (inr h) =
      ap (λ b. cond b (Some y) (find_op_with_path (op_with_path_id s) ss)) (all_in (op_with_path_id y) ss (IsDistinct-head eqb (op_with_path_id y) (map (λ (s : OpWithPathOf N T A). op_with_path_id s) ss) d) s h)
      ∙ the_one ss (IsDistinct-tail eqb (op_with_path_id y) (map (λ (s : OpWithPathOf N T A). op_with_path_id s) ss) d) s h

  -- the found operation is a member with that id
  member_step : (x : ℕ) (y : OpWithPathOf N T A) (ss : List (OpWithPathOf N T A)) (s : OpWithPathOf N T A) → (find_op_with_path x ss ≡ Some s → In s ss × (op_with_path_id s ≡ x)) → (b : Bool) → eqb (op_with_path_id y) x ≡ b → cond b (Some y) (find_op_with_path x ss) ≡ Some s → In s (y ∷ ss) × (op_with_path_id s ≡ x)
  member_step x y ss s later true k e = let one : s ≡ y = cc in (inl one, ap (λ (z : OpWithPathOf N T A). op_with_path_id z) one ∙ eqb-true (op_with_path_id y) x k)
  member_step x y ss s later false k e = let l = later e in (inr l.0, l.1)

  pub member : (x : ℕ) (ss : List (OpWithPathOf N T A)) (s : OpWithPathOf N T A) → find_op_with_path x ss ≡ Some s → In s ss × (op_with_path_id s ≡ x)
  member x [] s e = absurd cc
  member x (y ∷ ss) s e = member_step x y ss s (member x ss s) (eqb (op_with_path_id y) x) refl e

  pub stand_of_member : (t : OpOf N T A) → HasDistinctIds t → (s : OpWithPathOf N T A) → In s (stands [] t) → op_with_path (op_with_path_id s) t ≡ Some s
  stand_of_member t d s h = the_one (stands [] t) (subst (IsDistinct eqb) (sym (stands_ids [] t)) d) s h

  -- two members with one id are equal
  pub same_stand : (t : OpOf N T A) → HasDistinctIds t → (s u : OpWithPathOf N T A) → In s (stands [] t) → In u (stands [] t) → op_with_path_id s ≡ op_with_path_id u → s ≡ u
  same_stand t d s u h k e =
      let p : Some s ≡ Some u = sym (stand_of_member t d s h) ∙ ap (λ x. op_with_path x t) e ∙ stand_of_member t d u k in
      cc

  -- a found operation is in the list
  pub found_stands : (x : ℕ) (t o : OpOf N T A) → find x t ≡ Some o → (s : OpWithPathOf N T A) × In s (stands [] t) × (op_with_path_id s ≡ x) × (s.here ≡ o)
  found_stands x t o e = go (find_op_with_path x (stands [] t)) refl (stands_find x [] t ∙ e)
    where
      go : (f : Option (OpWithPathOf N T A)) → find_op_with_path x (stands [] t) ≡ f → option_map (λ (s : OpWithPathOf N T A). s.here) f ≡ Some o → (s : OpWithPathOf N T A) × In s (stands [] t) × (op_with_path_id s ≡ x) × (s.here ≡ o)
      go None k h = absurd cc
      go (Some s) k h = let m = member x (stands [] t) s k in let is : s.here ≡ o = cc in (s, m.0, m.1, is)

  -- and a member is found
  pub stand_found : (t : OpOf N T A) → HasDistinctIds t → (s : OpWithPathOf N T A) → In s (stands [] t) → find (op_with_path_id s) t ≡ Some s.here
  stand_found t d s h = sym (stands_find (op_with_path_id s) [] t) ∙ ap (option_map (λ (u : OpWithPathOf N T A). u.here)) (stand_of_member t d s h)

  -- a test of the operation with an id
  pub tested : (f : OpWithPathOf N T A → Bool) (t : OpOf N T A) → HasDistinctIds t → (s : OpWithPathOf N T A) → In s (stands [] t) → list_any (λ (u : OpWithPathOf N T A). eqb (op_with_path_id u) (op_with_path_id s) && f u) (stands [] t) ≡ f s
  tested f t d s h = go (f s) refl (list_any (λ (u : OpWithPathOf N T A). eqb (op_with_path_id u) (op_with_path_id s) && f u) (stands [] t)) refl
    where
      test : OpWithPathOf N T A → Bool
      test = λ (u : OpWithPathOf N T A). eqb (op_with_path_id u) (op_with_path_id s) && f u

      go : (b : Bool) → f s ≡ b → (c : Bool) → list_any (λ (u : OpWithPathOf N T A). eqb (op_with_path_id u) (op_with_path_id s) && f u) (stands [] t) ≡ c → list_any (λ (u : OpWithPathOf N T A). eqb (op_with_path_id u) (op_with_path_id s) && f u) (stands [] t) ≡ f s
      go true k c l = any_one (λ (u : OpWithPathOf N T A). eqb (op_with_path_id u) (op_with_path_id s) && f u) (stands [] t) s h (both_hold _ _ (eq-eqb (op_with_path_id s) (op_with_path_id s) refl) k) ∙ sym k
      go false k false l = l ∙ sym k
      go false k true l =
          let w = one_any (λ (u : OpWithPathOf N T A). eqb (op_with_path_id u) (op_with_path_id s) && f u) (stands [] t) l in
          let b = both (eqb (op_with_path_id w.0) (op_with_path_id s)) (f w.0) w.2 in
          let same = same_stand t d w.0 s w.1 h (eqb-true (op_with_path_id w.0) (op_with_path_id s) b.0) in
          absurd (true≢false (sym b.1 ∙ ap f same ∙ k))

  -- the same for a list that starts below the root
  pub found_in : (path : List (StepOf N T A)) (t : OpOf N T A) → HasDistinctIds t → (s : OpWithPathOf N T A) → In s (stands path t) → find (op_with_path_id s) t ≡ Some s.here
  found_in path t d s h = sym (stands_find (op_with_path_id s) path t) ∙ ap (option_map (λ (u : OpWithPathOf N T A). u.here)) (the_one (stands path t) (subst (IsDistinct eqb) (sym (stands_ids path t)) d) s h)
