-- Ids stay distinct.
use Rattle.std.proofs.Common.{◌≡◌, ℕ, List, [], ◌∷◌, ◌++◌, refl, sym, ap, ◌∙◌, subst, length, Bool, true, false, eqb, ◌||◌, Some, None}
use Rattle.std.specs.List.{list_any, IsDistinct}
use Rattle.std.proofs.lemmas.Bool.{false≢true, eqb-true}
use Rattle.ir_store_reads.specs.trees.declared.place.Place.{Place}
use Rattle.ir_store_reads.specs.trees.Tree.{Head, Op, op, Regions, no_regions, region, Region, empty, block, Ops, no_ops, next}
use Rattle.ir_store_reads.specs.trees.Ids.{ids, regions_ids, region_ids, ops_ids, has_id, HasDistinctIds, op_count}
use Rattle.ir_store_reads.specs.trees.Edits.{each_head, regions_each_head, region_each_head, ops_each_head}
use Rattle.ir_store_reads.specs.trees.Places.{put}
use Rattle.ir_store_reads.proofs.of_trees.Gained.{gained_distinct}
use Rattle.ir_store_reads.proofs.of_trees.Returns.{cons_distinct, nil_distinct}
use Rattle.ir_store_reads.specs.Rows.{Row, RegionShape, bare, bare_regions}

bare_ids : (xs : List RegionShape) → regions_ids (bare_regions xs) ≡ []
bare_ids [] = refl
bare_ids (None ∷ xs) = bare_ids xs
bare_ids (Some a ∷ xs) = bare_ids xs

pub bare_count : (r : Row) → op_count (bare r) ≡ 1
bare_count r = ap (λ z. length (r.head.id ∷ z)) (bare_ids r.shapes)

pub bare_own : (r : Row) → HasDistinctIds (bare r)
bare_own r = subst (λ z. IsDistinct eqb (r.head.id ∷ z)) (sym (bare_ids r.shapes)) (cons_distinct r.head.id [] refl nil_distinct)

-- an empty operation whose id isn't in the tree has no id of the tree
pub bare_apart : (r : Row) (t : Op) → has_id r.head.id t ≡ false → (y : ℕ) → has_id y (bare r) ≡ true → has_id y t ≡ false
bare_apart r t out y e = only y (ap (λ z. list_any (λ w. eqb w y) (r.head.id ∷ z)) (sym (bare_ids r.shapes)) ∙ e)
  where
    only : (y : ℕ) → list_any (λ z. eqb z y) (r.head.id ∷ []) ≡ true → has_id y t ≡ false
    only y e = go (eqb r.head.id y) refl e
      where
        go : (b : Bool) → eqb r.head.id y ≡ b → (b || false) ≡ true → has_id y t ≡ false
        go true f g = ap (λ z. has_id z t) (sym (eqb-true r.head.id y f)) ∙ out
        go false f g = absurd (false≢true g)

-- inserting it keeps the ids distinct
pub bare_distinct : (place : Place) (r : Row) (t : Op) → HasDistinctIds t → has_id r.head.id t ≡ false → HasDistinctIds (put place (bare r) t)
bare_distinct place r t d out = gained_distinct place (bare r) (bare_own r) t d (bare_apart r t out)

-- an edit of heads that keeps their ids
module _ (f : Head → Head) (same : (h : Head) → (f h).id ≡ h.id) where
  mutual
    pub each_ids : (t : Op) → ids (each_head f t) ≡ ids t
    each_ids (op h rs) = λ i. same h i ∷ regions_each_ids rs i

    regions_each_ids : (rs : Regions) → regions_ids (regions_each_head f rs) ≡ regions_ids rs
    regions_each_ids no_regions = refl
    regions_each_ids (region g rs) = λ i. region_each_ids g i ++ regions_each_ids rs i

    region_each_ids : (g : Region) → region_ids (region_each_head f g) ≡ region_ids g
    region_each_ids empty = refl
    region_each_ids (block args os) = ops_each_ids os

    ops_each_ids : (os : Ops) → ops_ids (ops_each_head f os) ≡ ops_ids os
    ops_each_ids no_ops = refl
    ops_each_ids (next o os) = λ i. each_ids o i ++ ops_each_ids os i

  pub each_distinct : (t : Op) → HasDistinctIds t → HasDistinctIds (each_head f t)
  each_distinct t d = subst (IsDistinct eqb) (sym (each_ids t)) d
