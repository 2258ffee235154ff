-- The position, in pre-order, of an operation that is inserted at a place.
use Rattle.std.proofs.Common.{◌≡◌, refl, ap, sym, ◌∙◌, subst, ℕ, zero, suc, ◌+◌, true, true≢false, cond, not, eqb, eq-eqb, List, [], ◌∷◌, ◌++◌, map, filter, append_assoc, append-nil, Option, Some, None, option_map, inl, inr, arith}
use Rattle.std.specs.List.{list_any, IsDistinct}
use Rattle.std.proofs.lemmas.List.{append_cancel_left}
use Rattle.ir_tree.specs.declared.place.Place.{Place}
use Rattle.ir_tree.specs.Tree.{HeadOf, OpOf, op, RegionsOf, no_regions, region, RegionOf, block, OpsOf, no_ops, next, head, regions}
use Rattle.ir_tree.specs.Ids.{ids, regions_ids, region_ids, ops_ids, HasDistinctIds, find}
use Rattle.ir_tree.specs.Places.{first_id, each_list, regions_each_list, region_each_list, ops_each_list, drop_op, put}
use Rattle.ir_tree.proofs.Moves.{Absent, absent_parts, region_untouched, without_absent}
use Rattle.ir_tree.proofs.Returns.{halves}
use Rattle.ir_tree_laws.specs.Members.{In}
use Rattle.ir_tree_laws.specs.Preorder.{first_ids, IsCutBefore, IsCutAt}
use Rattle.ir_tree_laws.specs.Restores.{MayPut}
use Rattle.ir_tree_laws.specs.Values.{region_at}
use Rattle.ir_tree_laws.specs.Stands.{StepOf, OpWithPathOf, op_with_path_id, stands, dropping, left_stand}
use Rattle.ir_tree_laws.proofs.Listed.{neither}
use Rattle.ir_tree_laws.proofs.Members.{stand, has_around, joined_ops, stand_found}
use Rattle.ir_tree_laws.proofs.Around.{around_there, stand_present}
use Rattle.ir_tree_laws.proofs.Without.{same_head}
use Rattle.ir_tree_laws.proofs.Stretches.{Parted, part, parted_ids, left_ids}
use Rattle.ir_tree_laws.proofs.Put.{Landed, region_each}
use Rattle.ir_tree_laws.proofs.PutForm.{landed, put_distinct, put_back, put_cases, parent_absent}
use Rattle.ir_tree_laws.proofs.Values.{shaped_as}
use Rattle.ir_tree_laws.proofs.Changed.{kept_preceding}
use Rattle.std.proofs.lemmas.Bool.{cases_Bool}

-- a list is split at a number that occurs once
pub one_cut : (x : ℕ) (xs us ys vs : List ℕ) → Absent x xs → Absent x us → xs ++ (x ∷ ys) ≡ us ++ (x ∷ vs) → xs ≡ us
one_cut x [] [] ys vs a b e = refl
one_cut x [] (u ∷ us) ys vs a b e = (let same : x ≡ u = cc in absurd (true≢false (sym (eq-eqb u x (sym same)) ∙ (neither _ _ b).0)))
one_cut x (y ∷ xs) [] ys vs a b e = (let same : y ≡ x = cc in absurd (true≢false (sym (eq-eqb y x same) ∙ (neither _ _ a).0)))
one_cut x (y ∷ xs) (u ∷ us) ys vs a b e =
    let first : y ≡ u = cc in
    let later : xs ++ (x ∷ ys) ≡ us ++ (x ∷ vs) = cc in
    λ i. first i ∷ one_cut x xs us ys vs (neither _ _ a).1 (neither _ _ b).1 later i

pub absent_before : (x : ℕ) (xs ys : List ℕ) → IsDistinct eqb (xs ++ (x ∷ ys)) → Absent x xs
absent_before x xs ys d = elim (cases_Bool (list_any (λ y. eqb y x) xs)) [
  | inr k ↦ k
  | inl k ↦ absurd (true≢false (sym (eq-eqb x x refl) ∙ (neither _ _ ((halves xs (x ∷ ys) d).disjoint x k)).0))
]

module _ {N T A : Type 0} where
  -- the ids of operations, one after another
  abbrev pub all_ids : List (OpOf N T A) → List ℕ
  all_ids [] = []
  all_ids (o ∷ os) = ids o ++ all_ids os

  joined_ids : (preceding : List (OpOf N T A)) (os : OpsOf N T A) → ops_ids (joined_ops preceding os) ≡ all_ids preceding ++ ops_ids os
  joined_ids [] os = refl
  joined_ids (o ∷ preceding) os = ap (λ l. ids o ++ l) (joined_ids preceding os) ∙ sym (append_assoc (ids o) (all_ids preceding) (ops_ids os))

  -- the ids in the regions after region r
  abbrev later_ids : ℕ → RegionsOf N T A → List ℕ
  later_ids r no_regions = []
  later_ids zero (region g rs) = regions_ids rs
  later_ids (suc r) (region g rs) = later_ids r rs

  ids_around : (r : ℕ) (rs : RegionsOf N T A) (args : List T) (os : OpsOf N T A) → region_at r rs ≡ Some (block args os) → regions_ids rs ≡ first_ids r rs ++ (ops_ids os ++ later_ids r rs)
  ids_around zero no_regions args os e = absurd cc
  ids_around (suc r) no_regions args os e = absurd cc
  ids_around zero (region g rs) args os e = let same : g ≡ block args os = cc in ap (λ (z : RegionOf N T A). region_ids z ++ regions_ids rs) same
  ids_around (suc r) (region g rs) args os e = ap (λ l. region_ids g ++ l) (ids_around r rs args os e) ∙ sym (append_assoc (region_ids g) (first_ids r rs) (ops_ids os ++ later_ids r rs))

  first_more : (r : ℕ) (rs : RegionsOf N T A) (args : List T) (os : OpsOf N T A) → region_at r rs ≡ Some (block args os) → first_ids (suc r) rs ≡ first_ids r rs ++ ops_ids os
  first_more zero no_regions args os e = absurd cc
  first_more (suc r) no_regions args os e = absurd cc
  first_more zero (region g rs) args os e = let same : g ≡ block args os = cc in append-nil (region_ids g) ∙ ap region_ids same
  first_more (suc r) (region g rs) args os e = ap (λ l. region_ids g ++ l) (first_more r rs args os e) ∙ sym (append_assoc (region_ids g) (first_ids r rs) (ops_ids os))

  -- the ids before an operation and after it in pre-order, read from its path
  abbrev next_to : StepOf N T A → List ℕ
  next_to a = (head a.parent).id ∷ (first_ids a.region (regions a.parent) ++ all_ids a.preceding)

  abbrev before : List (StepOf N T A) → List ℕ
  before [] = []
  before (a ∷ q) = before q ++ next_to a

  abbrev trailing : List (StepOf N T A) → List ℕ
  trailing [] = []
  trailing (a ∷ q) = ops_ids a.rest ++ (later_ids a.region (regions a.parent) ++ trailing q)

  around_ids : (o : OpOf N T A) (a : StepOf N T A) → region_at a.region (regions a.parent) ≡ Some (block a.args (joined_ops a.preceding (next o a.rest)))
      → ids a.parent ≡ next_to a ++ (ids o ++ (ops_ids a.rest ++ later_ids a.region (regions a.parent)))
  around_ids o a e =
      own a.parent
      ∙ ap (λ l. (head a.parent).id ∷ l) (ids_around a.region (regions a.parent) a.args (joined_ops a.preceding (next o a.rest)) e
      ∙ ap (λ l. f ++ (l ++ z)) (joined_ids a.preceding (next o a.rest))
      ∙ ap (λ l. f ++ l) (append_assoc (all_ids a.preceding) (ids o ++ ops_ids a.rest) z ∙ ap (λ l. all_ids a.preceding ++ l) (append_assoc (ids o) (ops_ids a.rest) z))
      ∙ sym (append_assoc f (all_ids a.preceding) (ids o ++ (ops_ids a.rest ++ z))))
    where
      own : (o : OpOf N T A) → ids o ≡ (head o).id ∷ regions_ids (regions o)
      own (op h rs) = refl

      f : List ℕ
      f = first_ids a.region (regions a.parent)

      z : List ℕ
      z = later_ids a.region (regions a.parent)

  pub preorder : (t o : OpOf N T A) (path : List (StepOf N T A)) → In (stand o path) (stands [] t) → ids t ≡ before path ++ (ids o ++ trailing path)
  preorder t o [] h = elim (has_around [] t (stand o []) h) [
    | inl k ↦ ap (λ (z : OpWithPathOf N T A). ids z.here) (sym k) ∙ sym (append-nil (ids o))
    | inr w ↦ (let bad : [] ≡ w.0 ∷ w.1 = w.2 in absurd cc)
  ]
  preorder t o (a ∷ q) h =
      let rest = ops_ids a.rest in
      let z = later_ids a.region (regions a.parent) in
      preorder t a.parent q (around_there t o a q h).1
      ∙ ap (λ l. before q ++ (l ++ trailing q)) (around_ids o a (shaped_as t o a q h))
      ∙ ap (λ l. before q ++ l) (append_assoc (next_to a) (ids o ++ (rest ++ z)) (trailing q) ∙ ap (λ l. next_to a ++ l) (append_assoc (ids o) (rest ++ z) (trailing q) ∙ ap (λ l. ids o ++ l) (append_assoc rest z (trailing q))))
      ∙ sym (append_assoc (before q) (next_to a) (ids o ++ (rest ++ (z ++ trailing q))))

  -- removing an operation that isn't in the tree
  first_untouched : (x r y k : ℕ) (rs : RegionsOf N T A) → Absent x (first_ids r rs) → first_ids r (regions_each_list (dropping x) y k rs) ≡ first_ids r rs
  first_untouched x zero y k rs a = refl
  first_untouched x (suc r) y k no_regions a = refl
  first_untouched x (suc r) y k (region g rs) a =
      let b = absent_parts x (region_ids g) (first_ids r rs) a in
      λ i. region_ids (region_untouched x y k g b.0 i) ++ first_untouched x r y (k + 1) rs b.1 i

  preceding_untouched : (x : ℕ) (preceding : List (OpOf N T A)) → Absent x (all_ids preceding) → all_ids (filter (λ o. not (eqb (head o).id x)) (map (each_list (dropping x)) preceding)) ≡ all_ids preceding
  preceding_untouched x [] a = refl
  preceding_untouched x (op h rs ∷ preceding) a =
      let b = absent_parts x (ids (op h rs)) (all_ids preceding) a in
      let c = neither _ _ b.0 in
      (λ i. all_ids (cond (not (c.0 i)) (each_list (dropping x) (op h rs) ∷ filter (λ o. not (eqb (head o).id x)) (map (each_list (dropping x)) preceding)) (filter (λ o. not (eqb (head o).id x)) (map (each_list (dropping x)) preceding))))
      ∙ λ i. ids (without_absent x (op h rs) b.0 i) ++ preceding_untouched x preceding b.1 i

  last_dropped : (x : ℕ) (o : OpOf N T A) → (head o).id ≡ x → drop_op x (ops_each_list (dropping x) (next o no_ops)) ≡ no_ops
  last_dropped x (op h rs) e = ap (λ b. cond b no_ops (next (each_list (dropping x) (op h rs)) no_ops)) (eq-eqb h.id x e)

  each_regions : (f : ℕ → ℕ → OpsOf N T A → OpsOf N T A) (o : OpOf N T A) → regions (each_list f o) ≡ regions_each_list f (head o).id 0 (regions o)
  each_regions f (op h rs) = refl

module _ {N T A : Type 0} (place : Place) (o t : OpOf N T A) (may : MayPut place o t) where
  abbrev after : OpOf N T A
  after = put place o t

  abbrev x : ℕ
  x = (head o).id

  abbrev here : Landed place o (put place o t)
  here = landed place o t may

  abbrev a : StepOf N T A
  a = here.step_in

  abbrev path : List (StepOf N T A)
  path = a ∷ here.path

  distinct : HasDistinctIds (put place o t)
  distinct = put_distinct place o t may

  pub put_part : Parted (head o).id ((landed place o t may).step_in ∷ (landed place o t may).path) o (put place o t)
  put_part = part after distinct o a here.path here.there

  pub put_left_ids : ids t ≡ map (λ (z : OpWithPathOf N T A). op_with_path_id z) put_part.preceding ++ map (λ (z : OpWithPathOf N T A). op_with_path_id z) put_part.back
  put_left_ids = ap ids (sym (put_back place o t may)) ∙ left_ids x path o after put_part

  pub put_ids : ids (put place o t) ≡ map (λ (z : OpWithPathOf N T A). op_with_path_id z) put_part.preceding ++ (ids o ++ map (λ (z : OpWithPathOf N T A). op_with_path_id z) put_part.back)
  put_ids = parted_ids x path o after put_part

  abbrev preceding : List ℕ
  preceding = map (λ (z : OpWithPathOf N T A). op_with_path_id z) put_part.preceding

  abbrev back : List ℕ
  back = map (λ (z : OpWithPathOf N T A). op_with_path_id z) put_part.back

  own : (o : OpOf N T A) (l : List ℕ) → ids o ++ l ≡ (head o).id ∷ (regions_ids (regions o) ++ l)
  own (op h rs) l = refl

  once : (xs ys : List ℕ) → ids after ≡ xs ++ (ids o ++ ys) → Absent x xs
  once xs ys e = absent_before x xs (regions_ids (regions o) ++ ys) (subst (IsDistinct eqb) (e ∙ ap (λ l. xs ++ l) (own o ys)) distinct)

  by_path : ids after ≡ before path ++ (ids o ++ trailing path)
  by_path = preorder after o path here.there

  preceding_is : preceding ≡ before path
  preceding_is =
      one_cut x preceding (before path) (regions_ids (regions o) ++ back) (regions_ids (regions o) ++ trailing path) (once preceding back put_ids) (once (before path) (trailing path) by_path)
      (ap (λ l. preceding ++ l) (sym (own o back)) ∙ sym put_ids ∙ by_path ∙ ap (λ l. before path ++ l) (own o (trailing path)))

  back_is : back ≡ trailing path
  back_is =
      append_cancel_left (ids o) back (trailing path)
      (append_cancel_left preceding (ids o ++ back) (ids o ++ trailing path) (sym put_ids ∙ by_path ∙ ap (λ l. l ++ (ids o ++ trailing path)) (sym preceding_is)))

  -- the place's parent, before
  abbrev parent : OpOf N T A
  parent = each_list (dropping x) a.parent

  parent_found : find place.parent t ≡ Some parent
  parent_found = elim (put_cases place o t may (stand a.parent here.path) here.around) [
    | inr k ↦ absurd (true≢false (sym (subst (λ z. list_any (λ y. eqb y z) (ids o) ≡ true) here.parent (stand_present path o (stand a.parent here.path) k)) ∙ parent_absent place o t may))
    | inl k ↦ ap (λ z. find z t) (sym (ap (λ (h : HeadOf N T A). h.id) (same_head x (dropping x) a.parent) ∙ here.parent)) ∙ stand_found t may.distinct (left_stand x (stand a.parent here.path)) k.0
  ]

  last_in : a.rest ≡ no_ops → next_to a ≡ place.parent ∷ first_ids (place.region + 1) (regions parent)
  last_in e =
      let rs = regions a.parent in
      let f = dropping x in
      let two = absent_parts x (before here.path) (next_to a) (once (before path) (trailing path) by_path) in
      let three = absent_parts x (first_ids a.region rs) (all_ids a.preceding) (neither _ _ two.1).1 in
      let kept = filter (λ o. not (eqb (head o).id x)) (map (each_list f) a.preceding) in
      let list : region_at a.region (regions parent) ≡ Some (block a.args (joined_ops kept no_ops)) =
      ap (region_at a.region) (each_regions f a.parent)
      ∙ region_each f (head a.parent).id 0 a.region rs
      ∙ ap (option_map (region_each_list f (head a.parent).id (0 + a.region))) (shaped_as after o a here.path here.there)
      ∙ ap (λ os. Some (block a.args os)) (kept_preceding x a.preceding (next o a.rest) ∙ ap (λ os. joined_ops kept os) (ap (λ os. drop_op x (ops_each_list f (next o os))) e ∙ last_dropped x o refl)) in
      let more : place.region + 1 ≡ suc a.region = let r = here.region in omega (arith, r) in
      (λ i. here.parent i ∷ (first_ids a.region rs ++ all_ids a.preceding))
      ∙ ap (λ l. place.parent ∷ l) (
      (λ i. (sym (first_untouched x a.region (head a.parent).id 0 rs three.0) ∙ ap (first_ids a.region) (sym (each_regions f a.parent))) i ++ sym (preceding_untouched x a.preceding three.1) i)
      ∙ ap (λ l. first_ids a.region (regions parent) ++ l) (sym (joined_ids kept no_ops ∙ append-nil (all_ids kept)))
      ∙ sym (first_more a.region (regions parent) a.args (joined_ops kept no_ops) list)
      ∙ ap (λ n. first_ids n (regions parent)) (sym more))

  -- the inserted operation is at the position of the place
  pub put_cut : IsCutAt place t (map (λ (z : OpWithPathOf N T A). op_with_path_id z) put_part.preceding) (map (λ (z : OpWithPathOf N T A). op_with_path_id z) put_part.back)
  put_cut = go place.before a.rest refl here.before
    where
      go : (b : Option ℕ) (os : OpsOf N T A) → a.rest ≡ os → first_id a.rest ≡ b → IsCutBefore b place t preceding back
      go None no_ops r e = (parent, before here.path, parent_found, preceding_is ∙ ap (λ l. before here.path ++ l) (last_in r))
      go None (next p os) r e = (let bad : Some (head p).id ≡ None = sym (ap first_id r) ∙ e in absurd cc)
      go (Some b) no_ops r e = (let bad : None ≡ Some b = sym (ap (first_id {N = N} {T = T} {A = A}) r) ∙ e in absurd cc)
      go (Some b) (next (op h rs) os) r e =
          let same : Some h.id ≡ Some b = sym (ap first_id r) ∙ e in
          let one : h.id ≡ b = cc in
          ((regions_ids rs ++ ops_ids os) ++ (later_ids a.region (regions a.parent) ++ trailing here.path), back_is ∙ ap (λ (z : OpsOf N T A). ops_ids z ++ (later_ids a.region (regions a.parent) ++ trailing here.path)) r ∙ ap (λ n. n ∷ ((regions_ids rs ++ ops_ids os) ++ (later_ids a.region (regions a.parent) ++ trailing here.path))) one)
