-- Inserting an operation into a tree, and taking it out.
use Rattle.std.proofs.Common.{◌≡◌, refl, ap, sym, ◌∙◌, ℕ, ◌+◌, Bool, true, false, cond, ◌&&◌, ◌||◌, eqb, List, ◌++◌, Option, Some, None, true≢false, eq-eqb}
use Rattle.std.specs.List.{list_any}
use Rattle.std.proofs.lemmas.List.Folds.{list_any-append}
use Rattle.ir_tree.specs.declared.place.Place.{Place}
use Rattle.ir_tree.specs.Tree.{OpOf, op, RegionsOf, no_regions, region, RegionOf, empty, block, OpsOf, no_ops, next, head}
use Rattle.ir_tree.specs.Ids.{ids, regions_ids, region_ids, ops_ids, has_id}
use Rattle.ir_tree.specs.Places.{each_list, regions_each_list, region_each_list, ops_each_list, put_last, put_before, put_in, is_in_block, put_here, put, drop_op, without}
use Rattle.std.proofs.lemmas.Bool.{or_parts}

-- no id of the list is x
abbrev pub Absent : ℕ → List ℕ → Type 0
Absent x xs = list_any (λ y. eqb y x) xs ≡ false

pub absent_parts : (x : ℕ) (xs ys : List ℕ) → Absent x (xs ++ ys) → Absent x xs × Absent x ys
absent_parts x xs ys h = or_parts _ _ (sym (list_any-append (λ y. eqb y x) xs ys) ∙ h)

module _ {N T A : Type 0} where
  -- an edit of lists keeps the id of an operation
  pub list_id : (f : ℕ → ℕ → OpsOf N T A → OpsOf N T A) (t : OpOf N T A) → (head (each_list f t)).id ≡ (head t).id
  list_id f (op h rs) = refl

  -- an edit of lists, applied to a list with an operation inserted
  list_put_last : (f : ℕ → ℕ → OpsOf N T A → OpsOf N T A) (o : OpOf N T A) (os : OpsOf N T A) → ops_each_list f (put_last o os) ≡ put_last (each_list f o) (ops_each_list f os)
  list_put_last f o no_ops = refl
  list_put_last f o (next p os) = ap (next (each_list f p)) (list_put_last f o os)

  list_put_before : (f : ℕ → ℕ → OpsOf N T A → OpsOf N T A) (b : ℕ) (o : OpOf N T A) (os : OpsOf N T A) → ops_each_list f (put_before b o os) ≡ put_before b (each_list f o) (ops_each_list f os)
  list_put_before f b o no_ops = refl
  list_put_before f b o (next p os) =
      let e = each_list f in
      elim (eqb (head p).id b) as (λ c. ops_each_list f (cond c (next o (next p os)) (next p (put_before b o os))) ≡ cond c (next (e o) (next (e p) (ops_each_list f os))) (next (e p) (put_before b (e o) (ops_each_list f os))))
      [ true ↦ refl | false ↦ ap (next (e p)) (list_put_before f b o os) ]
      ∙ sym (λ i. cond (eqb (list_id f p i) b) (next (e o) (next (e p) (ops_each_list f os))) (next (e p) (put_before b (e o) (ops_each_list f os))))

  list_put_in : (f : ℕ → ℕ → OpsOf N T A → OpsOf N T A) (b : Option ℕ) (o : OpOf N T A) (os : OpsOf N T A) → ops_each_list f (put_in b o os) ≡ put_in b (each_list f o) (ops_each_list f os)
  list_put_in f None o os = list_put_last f o os
  list_put_in f (Some b) o os = list_put_before f b o os

  -- an inserted operation is removed again
  module _ (x : ℕ) (o : OpOf N T A) (is : (head o).id ≡ x) where
    dropped_itself : (os : OpsOf N T A) → drop_op x (next o os) ≡ drop_op x os
    dropped_itself os = ap (λ b. cond b (drop_op x os) (next o (drop_op x os))) (eq-eqb (head o).id x is)

    drop_put_last : (os : OpsOf N T A) → drop_op x (put_last o os) ≡ drop_op x os
    drop_put_last no_ops = dropped_itself no_ops
    drop_put_last (next p os) = ap (λ r. cond (eqb (head p).id x) r (next p r)) (drop_put_last os)

    drop_put_before : (b : ℕ) (os : OpsOf N T A) → drop_op x (put_before b o os) ≡ drop_op x os
    drop_put_before b no_ops = refl
    drop_put_before b (next p os) =
        elim (eqb (head p).id b) as (λ c. drop_op x (cond c (next o (next p os)) (next p (put_before b o os))) ≡ drop_op x (next p os))
        [ true ↦ dropped_itself (next p os) | false ↦ ap (λ r. cond (eqb (head p).id x) r (next p r)) (drop_put_before b os) ]

    drop_put_in : (b : Option ℕ) (os : OpsOf N T A) → drop_op x (put_in b o os) ≡ drop_op x os
    drop_put_in None os = drop_put_last os
    drop_put_in (Some b) os = drop_put_before b os

  -- a tree with an operation inserted and taken out again
  module _ (x : ℕ) (place : Place) (o : OpOf N T A) (is : (head o).id ≡ x) where
    lost_here : (p r : ℕ) (os : OpsOf N T A) → drop_op x (ops_each_list (λ p r os. drop_op x os) (put_here place o p r os)) ≡ drop_op x (ops_each_list (λ p r os. drop_op x os) os)
    lost_here p r os =
        let d = λ (p r : ℕ) (os : OpsOf N T A). drop_op x os in
        elim (is_in_block place p r) as (λ b. drop_op x (ops_each_list d (cond b (put_in place.before o os) os)) ≡ drop_op x (ops_each_list d os))
        [ true ↦ ap (drop_op x) (list_put_in d place.before o os) ∙ drop_put_in x (each_list d o) (list_id d o ∙ is) place.before (ops_each_list d os) | false ↦ refl ]

    mutual
      put_lost : (t : OpOf N T A) → each_list (λ p r os. drop_op x os) (each_list (put_here place o) t) ≡ each_list (λ p r os. drop_op x os) t
      put_lost (op h rs) = ap (op h) (regions_put_lost h.id 0 rs)

      regions_put_lost : (p r : ℕ) (rs : RegionsOf N T A) → regions_each_list (λ p r os. drop_op x os) p r (regions_each_list (put_here place o) p r rs) ≡ regions_each_list (λ p r os. drop_op x os) p r rs
      regions_put_lost p r no_regions = refl
      regions_put_lost p r (region g rs) = λ i. region (region_put_lost p r g i) (regions_put_lost p (r + 1) rs i)

      region_put_lost : (p r : ℕ) (g : RegionOf N T A) → region_each_list (λ p r os. drop_op x os) p r (region_each_list (put_here place o) p r g) ≡ region_each_list (λ p r os. drop_op x os) p r g
      region_put_lost p r empty = refl
      region_put_lost p r (block args os) = ap (block args) (lost_here p r (ops_each_list (put_here place o) os) ∙ ap (drop_op x) (ops_put_lost os))

      ops_put_lost : (os : OpsOf N T A) → ops_each_list (λ p r os. drop_op x os) (ops_each_list (put_here place o) os) ≡ ops_each_list (λ p r os. drop_op x os) os
      ops_put_lost no_ops = refl
      ops_put_lost (next q os) = λ i. next (put_lost q i) (ops_put_lost os i)

    pub without_put : (t : OpOf N T A) → without x (put place o t) ≡ without x t
    without_put t = put_lost t

  -- removing an operation that isn't in the tree
  module _ (x : ℕ) where
    mutual
      pub untouched : (t : OpOf N T A) → Absent x (ids t) → each_list (λ p r os. drop_op x os) t ≡ t
      untouched (op h rs) a = ap (op h) (regions_untouched h.id 0 rs ((or_parts _ _ a).1))

      pub regions_untouched : (p r : ℕ) (rs : RegionsOf N T A) → Absent x (regions_ids rs) → regions_each_list (λ p r os. drop_op x os) p r rs ≡ rs
      regions_untouched p r no_regions a = refl
      regions_untouched p r (region g rs) a = let b = absent_parts x (region_ids g) (regions_ids rs) a in λ i. region (region_untouched p r g b.0 i) (regions_untouched p (r + 1) rs b.1 i)

      pub region_untouched : (p r : ℕ) (g : RegionOf N T A) → Absent x (region_ids g) → region_each_list (λ p r os. drop_op x os) p r g ≡ g
      region_untouched p r empty a = refl
      region_untouched p r (block args os) a = ap (block args) (ops_untouched os a)

      pub ops_untouched : (os : OpsOf N T A) → Absent x (ops_ids os) → drop_op x (ops_each_list (λ p r os. drop_op x os) os) ≡ os
      ops_untouched no_ops a = refl
      ops_untouched (next (op h rs) os) a =
          let b = absent_parts x (ids (op h rs)) (ops_ids os) a in
          let c = or_parts _ _ b.0 in
          (λ i. cond (c.0 i) (ops_untouched os b.1 i) (next (untouched (op h rs) b.0 i) (ops_untouched os b.1 i)))

    pub without_absent : (t : OpOf N T A) → has_id x t ≡ false → without x t ≡ t
    without_absent t a = untouched t a

  -- an operation that is taken out was inserted
  pub take_put : (place : Place) (o t : OpOf N T A) → has_id (head o).id t ≡ false → without (head o).id (put place o t) ≡ t
  take_put place o t a = without_put (head o).id place o refl t ∙ without_absent (head o).id t a

  -- a place whose parent isn't in the tree
  module _ (place : Place) (o : OpOf N T A) where
    mutual
      pub unput : (t : OpOf N T A) → Absent place.parent (ids t) → each_list (put_here place o) t ≡ t
      unput (op h rs) a = let b = or_parts _ _ a in ap (op h) (regions_unput h.id 0 rs b.0 b.1)

      pub regions_unput : (p r : ℕ) (rs : RegionsOf N T A) → eqb p place.parent ≡ false → Absent place.parent (regions_ids rs) → regions_each_list (put_here place o) p r rs ≡ rs
      regions_unput p r no_regions e a = refl
      regions_unput p r (region g rs) e a = let b = absent_parts place.parent (region_ids g) (regions_ids rs) a in λ i. region (region_unput p r g e b.0 i) (regions_unput p (r + 1) rs e b.1 i)

      pub region_unput : (p r : ℕ) (g : RegionOf N T A) → eqb p place.parent ≡ false → Absent place.parent (region_ids g) → region_each_list (put_here place o) p r g ≡ g
      region_unput p r empty e a = refl
      region_unput p r (block args os) e a =
          ap (block args) (ap (λ b. cond (b && eqb r place.region) (put_in place.before o (ops_each_list (put_here place o) os)) (ops_each_list (put_here place o) os)) e ∙ ops_unput os a)

      pub ops_unput : (os : OpsOf N T A) → Absent place.parent (ops_ids os) → ops_each_list (put_here place o) os ≡ os
      ops_unput no_ops a = refl
      ops_unput (next q os) a = let b = absent_parts place.parent (ids q) (ops_ids os) a in λ i. next (unput q b.0 i) (ops_unput os b.1 i)

    pub put_absent : (t : OpOf N T A) → has_id place.parent t ≡ false → put place o t ≡ t
    put_absent t a = unput t a
