-- Each edit commutes with mapping the names, types and attributes of a tree.
use Rattle.std.proofs.Common.{◌≡◌, refl, ap, ◌∙◌, ℕ, ◌+◌, Bool, true, false, cond, eqb, List, [], ◌∷◌, map, Option, Some, None, option_map}
use Rattle.ir_tree.specs.declared.value.Value.{Value}
use Rattle.ir_tree.specs.declared.place.Place.{Place}
use Rattle.ir_tree.specs.declared.place.Part.{Part}
use Rattle.ir_tree.specs.declared.place.Part.TheVariants.{Props, Attrs}
use Rattle.ir_tree.specs.Tree.{HeadOf, OpOf, op, RegionsOf, no_regions, region, RegionOf, empty, block, OpsOf, no_ops, next, head}
use Rattle.ir_tree.specs.Ids.{find}
use Rattle.ir_tree.specs.Maps.{map_entry, map_head, map_tree, map_regions, map_region, map_ops}
use Rattle.ir_tree.specs.Edits.{each_head, regions_each_head, region_each_head, ops_each_head, at, put_operand, with_operand, put_values, with_value_replaced, same_key, put_entry, drop_entry, change_entry, change_part, with_entry}
use Rattle.ir_tree.specs.Places.{each_list, regions_each_list, region_each_list, ops_each_list, put_last, put_before, put_in, is_in_block, put_here, put, drop_op, without, put_found, shifted}
use Rattle.ir_tree.proofs.Mapped.{map_find, map_head_id}

module _ {N T A M U B : Type 0} (f : N → M) (g : T → U) (h : A → B) where
  -- edits of heads
  module _ (k : HeadOf N T A → HeadOf N T A) (l : HeadOf M U B → HeadOf M U B) (same : (x : HeadOf N T A) → l (map_head f g h x) ≡ map_head f g h (k x)) where
    mutual
      map_each_head : (t : OpOf N T A) → each_head l (map_tree f g h t) ≡ map_tree f g h (each_head k t)
      map_each_head (op x rs) = λ i. op (same x i) (map_regions_each_head rs i)

      map_regions_each_head : (rs : RegionsOf N T A) → regions_each_head l (map_regions f g h rs) ≡ map_regions f g h (regions_each_head k rs)
      map_regions_each_head no_regions = refl
      map_regions_each_head (region r rs) = λ i. region (map_region_each_head r i) (map_regions_each_head rs i)

      map_region_each_head : (r : RegionOf N T A) → region_each_head l (map_region f g h r) ≡ map_region f g h (region_each_head k r)
      map_region_each_head empty = refl
      map_region_each_head (block args os) = ap (block (map g args)) (map_ops_each_head os)

      map_ops_each_head : (os : OpsOf N T A) → ops_each_head l (map_ops f g h os) ≡ map_ops f g h (ops_each_head k os)
      map_ops_each_head no_ops = refl
      map_ops_each_head (next o os) = λ i. next (map_each_head o i) (map_ops_each_head os i)

  map_at : (y : ℕ) (k : HeadOf N T A → HeadOf N T A) (l : HeadOf M U B → HeadOf M U B) → ((x : HeadOf N T A) → l (map_head f g h x) ≡ map_head f g h (k x)) → (x : HeadOf N T A)
      → at y l (map_head f g h x) ≡ map_head f g h (at y k x)
  map_at y k l same x = elim (eqb x.id y) as (λ b. cond b (l (map_head f g h x)) (map_head f g h x) ≡ map_head f g h (cond b (k x) x)) [ true ↦ same x | false ↦ refl ]

  pub map_with_operand : (y k : ℕ) (v : Value) (t : OpOf N T A) → with_operand y k v (map_tree f g h t) ≡ map_tree f g h (with_operand y k v t)
  map_with_operand y k v = map_each_head (at y (put_operand k v)) (at y (put_operand k v)) (map_at y (put_operand k v) (put_operand k v) (λ x. refl))

  pub map_with_value_replaced : (v w : Value) (t : OpOf N T A) → with_value_replaced v w (map_tree f g h t) ≡ map_tree f g h (with_value_replaced v w t)
  map_with_value_replaced v w = map_each_head (put_values v w) (put_values v w) (λ x. refl)

  -- dictionaries, in the order of the mapped keys
  module _ (before : M → M → Bool) where
    map_put_entry : (k : N) (a : A) (es : List (N × A)) → put_entry before (f k) (h a) (map (map_entry f h) es) ≡ map (map_entry f h) (put_entry (λ x y. before (f x) (f y)) k a es)
    map_put_entry k a [] = refl
    map_put_entry k a (e ∷ es) =
        let m = map (map_entry f h) in
        let put' = put_entry (λ x y. before (f x) (f y)) k a in
        elim (before (f k) (f e.0)) as (λ b.
        cond b ((f k, h a) ∷ map_entry f h e ∷ m es) (cond (before (f e.0) (f k)) (map_entry f h e ∷ put_entry before (f k) (h a) (m es)) ((f k, h a) ∷ m es))
        ≡ m (cond b ((k, a) ∷ e ∷ es) (cond (before (f e.0) (f k)) (e ∷ put' es) ((k, a) ∷ es)))) [
          | true ↦ refl
          | false ↦ elim (before (f e.0) (f k)) as (λ c. cond c (map_entry f h e ∷ put_entry before (f k) (h a) (m es)) ((f k, h a) ∷ m es) ≡ m (cond c (e ∷ put' es) ((k, a) ∷ es)))
              [ true ↦ ap (λ w. map_entry f h e ∷ w) (map_put_entry k a es) | false ↦ refl ]
        ]

    map_drop_entry : (k : N) (es : List (N × A)) → drop_entry before (f k) (map (map_entry f h) es) ≡ map (map_entry f h) (drop_entry (λ x y. before (f x) (f y)) k es)
    map_drop_entry k [] = refl
    map_drop_entry k (e ∷ es) =
        let m = map (map_entry f h) in
        elim (same_key before (f k) (f e.0)) as (λ b. cond b (m es) (map_entry f h e ∷ drop_entry before (f k) (m es)) ≡ m (cond b es (e ∷ drop_entry (λ x y. before (f x) (f y)) k es)))
        [ true ↦ refl | false ↦ ap (λ w. map_entry f h e ∷ w) (map_drop_entry k es) ]

    map_change_entry : (k : N) (a : Option A) (es : List (N × A)) → change_entry before (f k) (option_map h a) (map (map_entry f h) es) ≡ map (map_entry f h) (change_entry (λ x y. before (f x) (f y)) k a es)
    map_change_entry k None es = map_drop_entry k es
    map_change_entry k (Some a) es = map_put_entry k a es

    map_change_part : (part : Part) (k : N) (a : Option A) (x : HeadOf N T A)
        → change_part part (change_entry before (f k) (option_map h a)) (map_head f g h x) ≡ map_head f g h (change_part part (change_entry (λ x y. before (f x) (f y)) k a) x)
    map_change_part Props k a x = λ i. record (map_head f g h x) { properties = map_change_entry k a x.properties i }
    map_change_part Attrs k a x = λ i. record (map_head f g h x) { attributes = map_change_entry k a x.attributes i }

    pub map_with_entry : (y : ℕ) (part : Part) (k : N) (a : Option A) (t : OpOf N T A)
        → with_entry before y part (f k) (option_map h a) (map_tree f g h t) ≡ map_tree f g h (with_entry (λ x y. before (f x) (f y)) y part k a t)
    map_with_entry y part k a =
        map_each_head (at y (change_part part (change_entry (λ x y. before (f x) (f y)) k a))) (at y (change_part part (change_entry before (f k) (option_map h a))))
        (map_at y (change_part part (change_entry (λ x y. before (f x) (f y)) k a)) (change_part part (change_entry before (f k) (option_map h a))) (map_change_part part k a))

  -- edits of lists
  module _ (k : ℕ → ℕ → OpsOf N T A → OpsOf N T A) (l : ℕ → ℕ → OpsOf M U B → OpsOf M U B) (same : (p r : ℕ) (os : OpsOf N T A) → l p r (map_ops f g h os) ≡ map_ops f g h (k p r os)) where
    mutual
      map_each_list : (t : OpOf N T A) → each_list l (map_tree f g h t) ≡ map_tree f g h (each_list k t)
      map_each_list (op x rs) = ap (op (map_head f g h x)) (map_regions_each_list x.id 0 rs)

      map_regions_each_list : (p r : ℕ) (rs : RegionsOf N T A) → regions_each_list l p r (map_regions f g h rs) ≡ map_regions f g h (regions_each_list k p r rs)
      map_regions_each_list p r no_regions = refl
      map_regions_each_list p r (region g' rs) = λ i. region (map_region_each_list p r g' i) (map_regions_each_list p (r + 1) rs i)

      map_region_each_list : (p r : ℕ) (g' : RegionOf N T A) → region_each_list l p r (map_region f g h g') ≡ map_region f g h (region_each_list k p r g')
      map_region_each_list p r empty = refl
      map_region_each_list p r (block args os) = ap (block (map g args)) (ap (l p r) (map_ops_each_list os) ∙ same p r (ops_each_list k os))

      map_ops_each_list : (os : OpsOf N T A) → ops_each_list l (map_ops f g h os) ≡ map_ops f g h (ops_each_list k os)
      map_ops_each_list no_ops = refl
      map_ops_each_list (next o os) = λ i. next (map_each_list o i) (map_ops_each_list os i)

  map_put_last : (o : OpOf N T A) (os : OpsOf N T A) → put_last (map_tree f g h o) (map_ops f g h os) ≡ map_ops f g h (put_last o os)
  map_put_last o no_ops = refl
  map_put_last o (next p os) = ap (next (map_tree f g h p)) (map_put_last o os)

  map_put_before : (b : ℕ) (o : OpOf N T A) (os : OpsOf N T A) → put_before b (map_tree f g h o) (map_ops f g h os) ≡ map_ops f g h (put_before b o os)
  map_put_before b o no_ops = refl
  map_put_before b o (next p os) =
      let m = map_tree f g h in
      let ms = map_ops f g h in
      (λ i. cond (eqb ((map_head_id f g h) p i) b) (next (m o) (next (m p) (ms os))) (next (m p) (map_put_before b o os i)))
      ∙ elim (eqb (head p).id b) as (λ c. cond c (next (m o) (next (m p) (ms os))) (next (m p) (ms (put_before b o os))) ≡ ms (cond c (next o (next p os)) (next p (put_before b o os)))) [ true ↦ refl | false ↦ refl ]

  map_put_in : (b : Option ℕ) (o : OpOf N T A) (os : OpsOf N T A) → put_in b (map_tree f g h o) (map_ops f g h os) ≡ map_ops f g h (put_in b o os)
  map_put_in None o os = map_put_last o os
  map_put_in (Some b) o os = map_put_before b o os

  map_put_here : (place : Place) (o : OpOf N T A) (p r : ℕ) (os : OpsOf N T A) → put_here place (map_tree f g h o) p r (map_ops f g h os) ≡ map_ops f g h (put_here place o p r os)
  map_put_here place o p r os =
      elim (is_in_block place p r) as (λ b. cond b (put_in place.before (map_tree f g h o) (map_ops f g h os)) (map_ops f g h os) ≡ map_ops f g h (cond b (put_in place.before o os) os))
      [ true ↦ map_put_in place.before o os | false ↦ refl ]

  pub map_put : (place : Place) (o t : OpOf N T A) → put place (map_tree f g h o) (map_tree f g h t) ≡ map_tree f g h (put place o t)
  map_put place o = map_each_list (put_here place o) (put_here place (map_tree f g h o)) (map_put_here place o)

  map_drop_op : (y : ℕ) (os : OpsOf N T A) → drop_op y (map_ops f g h os) ≡ map_ops f g h (drop_op y os)
  map_drop_op y no_ops = refl
  map_drop_op y (next o os) =
      let ms = map_ops f g h in
      (λ i. cond (eqb ((map_head_id f g h) o i) y) (map_drop_op y os i) (next (map_tree f g h o) (map_drop_op y os i)))
      ∙ elim (eqb (head o).id y) as (λ c. cond c (ms (drop_op y os)) (next (map_tree f g h o) (ms (drop_op y os))) ≡ ms (cond c (drop_op y os) (next o (drop_op y os)))) [ true ↦ refl | false ↦ refl ]

  pub map_without : (y : ℕ) (t : OpOf N T A) → without y (map_tree f g h t) ≡ map_tree f g h (without y t)
  map_without y = map_each_list (λ p r os. drop_op y os) (λ p r os. drop_op y os) (λ p r os. map_drop_op y os)

  map_put_found : (place : Place) (o : Option (OpOf N T A)) (t : OpOf N T A) → put_found place (option_map (map_tree f g h) o) (map_tree f g h t) ≡ map_tree f g h (put_found place o t)
  map_put_found place None t = refl
  map_put_found place (Some o) t = map_put place o t

  pub map_shifted : (y : ℕ) (place : Place) (t : OpOf N T A) → shifted y place (map_tree f g h t) ≡ map_tree f g h (shifted y place t)
  map_shifted y place t = (λ i. put_found place (map_find f g h y t i) (map_without y t i)) ∙ map_put_found place (find y t) (without y t)
