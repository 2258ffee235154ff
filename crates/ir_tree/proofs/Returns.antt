-- An operation is taken out, and inserted again at its old place.
use Rattle.std.proofs.Common.{◌≡◌, refl, ap, sym, ◌∙◌, subst, ℕ, ◌+◌, ◌≤◌, ◌⊎◌, inl, inr, Bool, true, false, cond, ◌&&◌, ◌||◌, eqb, List, [], ◌∷◌, ◌++◌, Option, Some, None, true≢false, eq-eqb, arith}
use Rattle.std.specs.List.{list_any, IsDistinct, AllByRecursion}
use Rattle.std.proofs.lemmas.Bool.{eqb-true, cases_Bool, or_cases, or_parts, ne_eqb, or_right}
use Rattle.std.proofs.lemmas.Bool.Decides.{nat_tests}
use Rattle.std.proofs.lemmas.List.Folds.{list_any-append}
use Rattle.std.proofs.lemmas.Map.Keys.{IsDistinct-head, IsDistinct-tail, IsDistinct-cons}
use Rattle.ir_tree.specs.declared.place.Place.{Place}
use Rattle.ir_tree.specs.Tree.{HeadOf, OpOf, op, RegionsOf, no_regions, region, RegionOf, empty, block, OpsOf, no_ops, next, head}
use Rattle.ir_tree.specs.Ids.{ids, regions_ids, region_ids, ops_ids, HasDistinctIds, first_of, find, regions_find, region_find, ops_find}
use Rattle.ir_tree.specs.Places.{first_id, place_of, regions_place, region_place, ops_place, each_list, regions_each_list, region_each_list, ops_each_list, put_before, put_in, is_in_block, put_here, put, drop_op, without}
use Rattle.ir_tree.proofs.Moves.{Absent, absent_parts, untouched, regions_untouched, region_untouched, ops_untouched, unput, ops_unput}
use Rattle.ir_types.proofs.Sorting.{flips_eq}
use Rattle.std.proofs.lemmas.Option.{same_Some}

-- an id of the list is x
abbrev pub Present : ℕ → List ℕ → Type 0
Present x xs = list_any (λ y. eqb y x) xs ≡ true

absent_from_all : (x : ℕ) (xs : List ℕ) → AllByRecursion (λ y. eqb x y ≡ false) xs → Absent x xs
absent_from_all x [] h = refl
absent_from_all x (y ∷ ys) h = λ i. (flips_eq y x ∙ h.0) i || absent_from_all x ys h.1 i

pub absent_first : (x : ℕ) (xs : List ℕ) → IsDistinct eqb (x ∷ xs) → Absent x xs
absent_first x xs d = absent_from_all x xs (IsDistinct-head eqb x xs d)

present_left : (x : ℕ) (xs ys : List ℕ) → Present x xs → Present x (xs ++ ys)
present_left x xs ys h = list_any-append (λ y. eqb y x) xs ys ∙ ap (λ b. b || list_any (λ y. eqb y x) ys) h

present_right : (x : ℕ) (xs ys : List ℕ) → Present x ys → Present x (xs ++ ys)
present_right x xs ys h = list_any-append (λ y. eqb y x) xs ys ∙ or_right _ _ h

pub absent_join : (x : ℕ) (xs ys : List ℕ) → Absent x xs → Absent x ys → Absent x (xs ++ ys)
absent_join x xs ys h k = list_any-append (λ y. eqb y x) xs ys ∙ λ i. h i || k i

-- an id of the list differs from one that isn't in it
pub differ : (p y : ℕ) (xs : List ℕ) → Absent p xs → Present y xs → eqb p y ≡ false
differ p y xs a h = elim (cases_Bool (eqb p y)) [ inl e ↦ absurd (true≢false (sym h ∙ subst (λ (z : ℕ). Absent z xs) (eqb-true p y e) a)) | inr e ↦ e ]

-- two disjoint lists of distinct ids
pub record Halves (xs ys : List ℕ) : Type 0 where
  pub left : IsDistinct eqb xs
  pub right : IsDistinct eqb ys
  pub disjoint : (y : ℕ) → Present y xs → Absent y ys

pub cons_distinct : (x : ℕ) (xs : List ℕ) → Absent x xs → IsDistinct eqb xs → IsDistinct eqb (x ∷ xs)
cons_distinct x xs a d = IsDistinct-cons eqb x xs (all_from_absent x xs a) d
  where
    all_from_absent : (x : ℕ) (xs : List ℕ) → Absent x xs → AllByRecursion (λ y. eqb x y ≡ false) xs
    all_from_absent x [] h = tt
    all_from_absent x (y ∷ ys) h = let b = or_parts _ _ h in (flips_eq x y ∙ b.0, all_from_absent x ys b.1)

pub nil_distinct : IsDistinct eqb []
unfolding IsDistinct
nil_distinct = tt

pub halves : (xs ys : List ℕ) → IsDistinct eqb (xs ++ ys) → Halves xs ys
halves [] ys d = record { left = nil_distinct; right = d; disjoint = λ y h. absurd (true≢false (sym h)) }
halves (x ∷ xs) ys d =
    let rest = halves xs ys (IsDistinct-tail eqb x (xs ++ ys) d) in
    let a = absent_parts x xs ys (absent_first x (xs ++ ys) d) in
    record {
      left = cons_distinct x xs a.0 rest.left;
      right = rest.right;
      disjoint = λ y h. elim (or_cases (eqb x y) _ h) [ inl e ↦ subst (λ (z : ℕ). Absent z ys) (eqb-true x y e) a.1 | inr k ↦ rest.disjoint y k ];
    }

flipped : (xs ys : List ℕ) → Halves xs ys → (y : ℕ) → Present y ys → Absent y xs
flipped xs ys h y p = elim (cases_Bool (list_any (λ z. eqb z y) xs)) [ inl q ↦ absurd (true≢false (sym p ∙ h.disjoint y q)) | inr q ↦ q ]

-- the first of two optional results
first_case : {X : Type 0} (a b : Option X) (c : X) → first_of a b ≡ Some c → (a ≡ Some c) ⊎ ((a ≡ None) × (b ≡ Some c))
first_case None b c e = inr (refl, e)
first_case (Some a) b c e = inl e

found_left : {X : Type 0} (a b : Option X) (c : X) → first_of a b ≡ Some c → b ≡ None → a ≡ Some c
found_left None b c e n = cc
found_left (Some a) b c e n = e

found_right : {X : Type 0} (a b : Option X) (c : X) → first_of a b ≡ Some c → a ≡ None → b ≡ Some c
found_right None b c e n = e
found_right (Some a) b c e n = cc

first_none : {X : Type 0} (a b : Option X) → first_of a b ≡ None → (a ≡ None) × (b ≡ None)
first_none None b e = (refl, e)
first_none (Some a) b e = cc

cond_true : {X : Type 0} (b : Bool) (u v w : X) → b ≡ true → cond b u v ≡ w → u ≡ w
cond_true b u v w h e = sym (ap (λ c. cond c u v) h) ∙ e

cond_false : {X : Type 0} (b : Bool) (u v w : X) → b ≡ false → cond b u v ≡ w → v ≡ w
cond_false b u v w h e = sym (ap (λ c. cond c u v) h) ∙ e

module _ {N T A : Type 0} (x : ℕ) where
  absent_op : (h : HeadOf N T A) (rs : RegionsOf N T A) → eqb h.id x ≡ false → Absent x (regions_ids rs) → Absent x (ids (op h rs))
  absent_op h rs k a = λ i. k i || a i

  -- an operation without a place isn't below the root
  mutual
    none_regions : (p r : ℕ) (rs : RegionsOf N T A) → regions_place x p r rs ≡ None → Absent x (regions_ids rs)
    none_regions p r no_regions e = refl
    none_regions p r (region g rs) e = let b = first_none _ _ e in absent_join x (region_ids g) (regions_ids rs) (none_region p r g b.0) (none_regions p (r + 1) rs b.1)

    none_region : (p r : ℕ) (g : RegionOf N T A) → region_place x p r g ≡ None → Absent x (region_ids g)
    none_region p r empty e = refl
    none_region p r (block args os) e = none_ops p r os e

    none_ops : (p r : ℕ) (os : OpsOf N T A) → ops_place x p r os ≡ None → Absent x (ops_ids os)
    none_ops p r no_ops e = refl
    none_ops p r (next (op h rs) os) e =
        elim (cases_Bool (eqb h.id x)) [
          | inl k ↦ let bad = cond_true (eqb h.id x) (Some (record { parent = p; region = r; before = first_id os })) _ None k e in cc
          | inr k ↦ (let b = first_none _ _ (cond_false (eqb h.id x) (Some (record { parent = p; region = r; before = first_id os })) _ None k e) in
              absent_join x (ids (op h rs)) (ops_ids os) (absent_op h rs k (none_regions h.id 0 rs b.0)) (none_ops p r os b.1))
        ]

  -- an operation with a place is in the tree
  mutual
    some_regions : (p r : ℕ) (rs : RegionsOf N T A) (place : Place) → regions_place x p r rs ≡ Some place → Present x (regions_ids rs)
    some_regions p r no_regions place e = cc
    some_regions p r (region g rs) place e =
        elim (first_case _ _ _ e) [ inl k ↦ present_left x (region_ids g) (regions_ids rs) (some_region p r g place k) | inr k ↦ present_right x (region_ids g) (regions_ids rs) (some_regions p (r + 1) rs place k.1) ]

    some_region : (p r : ℕ) (g : RegionOf N T A) (place : Place) → region_place x p r g ≡ Some place → Present x (region_ids g)
    some_region p r empty place e = cc
    some_region p r (block args os) place e = some_ops p r os place e

    some_ops : (p r : ℕ) (os : OpsOf N T A) (place : Place) → ops_place x p r os ≡ Some place → Present x (ops_ids os)
    some_ops p r no_ops place e = cc
    some_ops p r (next (op h rs) os) place e =
        elim (cases_Bool (eqb h.id x)) [
          | inl k ↦ present_left x (ids (op h rs)) (ops_ids os) (ap (λ b. b || list_any (λ y. eqb y x) (regions_ids rs)) k)
          | inr k ↦ elim (first_case _ _ _ (cond_false (eqb h.id x) (Some (record { parent = p; region = r; before = first_id os })) _ (Some place) k e)) [
            | inl j ↦ present_left x (ids (op h rs)) (ops_ids os) (or_right _ _ (some_regions h.id 0 rs place j))
            | inr j ↦ present_right x (ids (op h rs)) (ops_ids os) (some_ops p r os place j.1)
          ]
        ]

  -- an operation that isn't in the tree isn't found
  mutual
    lost_op : (t : OpOf N T A) → Absent x (ids t) → find x t ≡ None
    lost_op (op h rs) a = let b = or_parts _ _ a in ap (λ c. cond c (Some (op h rs)) (regions_find x rs)) b.0 ∙ lost_regions rs b.1

    lost_regions : (rs : RegionsOf N T A) → Absent x (regions_ids rs) → regions_find x rs ≡ None
    lost_regions no_regions a = refl
    lost_regions (region g rs) a = let b = absent_parts x (region_ids g) (regions_ids rs) a in λ i. first_of (lost_region g b.0 i) (lost_regions rs b.1 i)

    lost_region : (g : RegionOf N T A) → Absent x (region_ids g) → region_find x g ≡ None
    lost_region empty a = refl
    lost_region (block args os) a = lost_ops os a

    lost_ops : (os : OpsOf N T A) → Absent x (ops_ids os) → ops_find x os ≡ None
    lost_ops no_ops a = refl
    lost_ops (next o os) a = let b = absent_parts x (ids o) (ops_ids os) a in λ i. first_of (lost_op o b.0 i) (lost_ops os b.1 i)

-- the next operation of a place is in the list
abbrev BeforeIn : {N T A : Type 0} → Option ℕ → OpsOf N T A → Type 0
BeforeIn None os = Unit {0}
BeforeIn (Some b) os = Present b (ops_ids os)

first_in : {N T A : Type 0} (os : OpsOf N T A) → BeforeIn (first_id os) os
first_in no_ops = tt
first_in (next (op h rs) os) = ap (λ b. b || list_any (λ y. eqb y h.id) (regions_ids rs ++ ops_ids os)) (eq-eqb h.id h.id refl)

before_more : {N T A : Type 0} (b : Option ℕ) (o : OpOf N T A) (os : OpsOf N T A) → BeforeIn b os → BeforeIn b (next o os)
before_more None o os h = tt
before_more (Some b) o os h = present_right b (ids o) (ops_ids os) h

-- a place in this list, or deeper
record InList {N T A : Type 0} (place : Place) (p r : ℕ) (os : OpsOf N T A) : Type 0 where
  parent : p ≡ place.parent
  region : r ≡ place.region
  before : BeforeIn place.before os

module _ {N T A : Type 0} (x : ℕ) (place : Place) where
  mutual
    locate_op : (t : OpOf N T A) → place_of x t ≡ Some place → Present place.parent (ids t)
    locate_op (op h rs) e =
        elim (locate_regions h.id 0 rs e) [
          | inl k ↦ ap (λ b. b || list_any (λ y. eqb y place.parent) (regions_ids rs)) (eq-eqb h.id place.parent k.0)
          | inr k ↦ or_right (eqb h.id place.parent) _ k
        ]

    locate_regions : (p r : ℕ) (rs : RegionsOf N T A) → regions_place x p r rs ≡ Some place → ((p ≡ place.parent) × (r ≤ place.region)) ⊎ Present place.parent (regions_ids rs)
    locate_regions p r no_regions e = cc
    locate_regions p r (region g rs) e =
        elim (first_case _ _ _ e) [
          | inl k ↦ elim (locate_region p r g k) [
            | inl l ↦ (let same = l.1 in inl (l.0, omega arith))
            | inr l ↦ inr (present_left place.parent (region_ids g) (regions_ids rs) l)
          ]
          | inr k ↦ elim (locate_regions p (r + 1) rs k.1) [
            | inl l ↦ (let more = l.1 in inl (l.0, omega arith))
            | inr l ↦ inr (present_right place.parent (region_ids g) (regions_ids rs) l)
          ]
        ]

    locate_region : (p r : ℕ) (g : RegionOf N T A) → region_place x p r g ≡ Some place → ((p ≡ place.parent) × (r ≡ place.region)) ⊎ Present place.parent (region_ids g)
    locate_region p r empty e = cc
    locate_region p r (block args os) e = elim (locate_ops p r os e) [ inl l ↦ inl (l.parent, l.region) | inr l ↦ inr l ]

    locate_ops : (p r : ℕ) (os : OpsOf N T A) → ops_place x p r os ≡ Some place → InList place p r os ⊎ Present place.parent (ops_ids os)
    locate_ops p r no_ops e = cc
    locate_ops p r (next (op h rs) os) e =
        elim (cases_Bool (eqb h.id x)) [
          | inl k ↦ (let here : Place = record { parent = p; region = r; before = first_id os } in
              let w : here ≡ place = same_Some here place (cond_true (eqb h.id x) (Some here) _ (Some place) k e) in
              inl (record {
                parent = ap (λ q. q.parent) w;
                region = ap (λ q. q.region) w;
                before = before_more place.before (op h rs) os (subst (λ (q : Place). BeforeIn q.before os) w (first_in os));
              }))
          | inr k ↦ elim (first_case _ _ _ (cond_false (eqb h.id x) (Some (record { parent = p; region = r; before = first_id os })) _ (Some place) k e)) [
            | inl j ↦ inr (present_left place.parent (ids (op h rs)) (ops_ids os) (locate_op (op h rs) j))
            | inr j ↦ elim (locate_ops p r os j.1) [
              | inl l ↦ inl (record { parent = l.parent; region = l.region; before = before_more place.before (op h rs) os l.before })
              | inr l ↦ inr (present_right place.parent (ids (op h rs)) (ops_ids os) l)
            ]
          ]
        ]

module _ {N T A : Type 0} (place : Place) (o : OpOf N T A) where
  -- another block
  pub elsewhere : (p r : ℕ) (os : OpsOf N T A) → is_in_block place p r ≡ false → put_here place o p r os ≡ os
  elsewhere p r os e = ap (λ b. cond b (put_in place.before o os) os) e

  pub other_parent : (p r : ℕ) → eqb p place.parent ≡ false → is_in_block place p r ≡ false
  other_parent p r e = ap (λ b. b && eqb r place.region) e

  pub other_region : (p r : ℕ) → eqb r place.region ≡ false → is_in_block place p r ≡ false
  other_region p r e = elim (eqb p place.parent) as (λ b. (b && eqb r place.region) ≡ false) [ true ↦ e | false ↦ refl ]

  pub unput_region : (p r : ℕ) (g : RegionOf N T A) → is_in_block place p r ≡ false → Absent place.parent (region_ids g) → region_each_list (put_here place o) p r g ≡ g
  unput_region p r empty e a = refl
  unput_region p r (block args os) e a = ap (block args) (elsewhere p r (ops_each_list (put_here place o) os) e ∙ ops_unput place o os a)

  pub unput_later : (p r : ℕ) (rs : RegionsOf N T A) → ((k : ℕ) → r ≤ k → is_in_block place p k ≡ false) → Absent place.parent (regions_ids rs) → regions_each_list (put_here place o) p r rs ≡ rs
  unput_later p r no_regions e a = refl
  unput_later p r (region g rs) e a =
      let b = absent_parts place.parent (region_ids g) (regions_ids rs) a in
      λ i. region (unput_region p r g (e r (omega arith)) b.0 i) (unput_later p (r + 1) rs (λ k l. e k (omega arith)) b.1 i)

  -- inserting o before the operation that was next
  first_put : (os : OpsOf N T A) → put_in (first_id os) o os ≡ next o os
  first_put no_ops = refl
  first_put (next q os) = ap (λ b. cond b (next o (next q os)) (next q (put_before (head q).id o os))) (eq-eqb (head q).id (head q).id refl)

  -- inserting after an operation that isn't the next one
  put_after : (b : Option ℕ) (q : OpOf N T A) (os os' : OpsOf N T A) → BeforeIn b os → ((y : ℕ) → Present y (ops_ids os) → eqb (head q).id y ≡ false) → put_in b o (next q os') ≡ next q (put_in b o os')
  put_after None q os os' h f = refl
  put_after (Some b) q os os' h f = ap (λ c. cond c (next o (next q os')) (next q (put_before b o os'))) (f b h)

module _ {N T A : Type 0} (x : ℕ) (place : Place) (o : OpOf N T A) where
  -- the list from which the operation was taken
  here_again : (p r : ℕ) (h : HeadOf N T A) (rs : RegionsOf N T A) (os : OpsOf N T A) → eqb h.id x ≡ true → Absent x (ops_ids os) → Absent p (ops_ids os) → op h rs ≡ o
      → p ≡ place.parent → r ≡ place.region → first_id os ≡ place.before
      → put_here place o p r (ops_each_list (put_here place o) (drop_op x (ops_each_list (λ p r os. drop_op x os) (next (op h rs) os)))) ≡ next (op h rs) os
  here_again p r h rs os k ax ap' is pp rr bb =
      let d = λ (p r : ℕ) (os : OpsOf N T A). drop_op x os in
      let dropped : drop_op x (ops_each_list d (next (op h rs) os)) ≡ os =
      ap (λ b. cond b (drop_op x (ops_each_list d os)) (next (each_list d (op h rs)) (drop_op x (ops_each_list d os)))) k ∙ ops_untouched x os ax in
      let kept : ops_each_list (put_here place o) os ≡ os = ops_unput place o os (subst (λ (z : ℕ). Absent z (ops_ids os)) pp ap') in
      let block : is_in_block place p r ≡ true = (λ i. eq-eqb p place.parent pp i && eq-eqb r place.region rr i) in
      ap (λ l. put_here place o p r (ops_each_list (put_here place o) l)) dropped
      ∙ ap (put_here place o p r) kept
      ∙ ap (λ b. cond b (put_in place.before o os) os) block
      ∙ ap (λ b. put_in b o os) (sym bb)
      ∙ first_put place o os
      ∙ ap (λ q. next q os) (sym is)

  -- a list that has the place further on, or deeper
  extra_on : (p r : ℕ) (q : OpOf N T A) (os os' : OpsOf N T A) → Absent p (ids q ++ ops_ids os) → ((y : ℕ) → Present y (ops_ids os) → eqb (head q).id y ≡ false)
      → InList place p r os ⊎ Present place.parent (ops_ids os) → put_here place o p r os' ≡ os → put_here place o p r (next q os') ≡ next q os
  extra_on p r q os os' ap' f loc e = elim loc [
    | inl l ↦ (let block : is_in_block place p r ≡ true = (λ i. eq-eqb p place.parent l.parent i && eq-eqb r place.region l.region i) in
        let inner : put_in place.before o os' ≡ os = sym (ap (λ b. cond b (put_in place.before o os') os') block) ∙ e in
        ap (λ b. cond b (put_in place.before o (next q os')) (next q os')) block ∙ put_after place o place.before q os os' l.before f ∙ ap (next q) inner)
    | inr l ↦ (let out : is_in_block place p r ≡ false = other_parent place o p r (differ p place.parent (ops_ids os) ((absent_parts p (ids q) (ops_ids os) ap').1) l) in
        let inner : os' ≡ os = sym (elsewhere place o p r os' out) ∙ e in
        elsewhere place o p r (next q os') out ∙ ap (next q) inner)
  ]

  -- the operation is the first of its list
  here_first : (p r : ℕ) (q : OpOf N T A) (os : OpsOf N T A) → eqb (head q).id x ≡ true → Absent p (ops_ids os) → Halves (ids q) (ops_ids os) → ops_place x p r (next q os) ≡ Some place → ops_find x (next q os) ≡ Some o
      → put_here place o p r (ops_each_list (put_here place o) (drop_op x (ops_each_list (λ p r os. drop_op x os) (next q os)))) ≡ next q os
  here_first p r (op h rs) os k a hv e f =
      let here : Place = record { parent = p; region = r; before = first_id os } in
      let w : here ≡ place = same_Some here place (cond_true (eqb h.id x) (Some here) _ (Some place) k e) in
      let first : first_of (Some (op h rs)) (ops_find x os) ≡ Some o = sym (ap (λ b. first_of (cond b (Some (op h rs)) (regions_find x rs)) (ops_find x os)) k) ∙ f in
      let is : op h rs ≡ o = same_Some (op h rs) o first in
      let ph : Present x (ids (op h rs)) = ap (λ b. b || list_any (λ y. eqb y x) (regions_ids rs)) k in
      here_again p r h rs os k (hv.disjoint x ph) a is (ap (λ z. z.parent) w) (ap (λ z. z.region) w) (ap (λ z. z.before) w)

  some_op : (q : OpOf N T A) → eqb (head q).id x ≡ false → place_of x q ≡ Some place → Present x (ids q)
  some_op (op h rs) k j = or_right (eqb h.id x) _ (some_regions x h.id 0 rs place j)

  none_op : (q : OpOf N T A) → eqb (head q).id x ≡ false → place_of x q ≡ None → Absent x (ids q)
  none_op (op h rs) k j = absent_op x h rs k (none_regions x h.id 0 rs j)

  head_absent : (q : OpOf N T A) (os : OpsOf N T A) → Halves (ids q) (ops_ids os) → Absent (head q).id (ops_ids os)
  head_absent (op h rs) os hv = hv.disjoint h.id (ap (λ b. b || list_any (λ y. eqb y h.id) (regions_ids rs)) (eq-eqb h.id h.id refl))

  -- lists that start with another operation
  drop_not : (q : OpOf N T A) (os : OpsOf N T A) → eqb (head q).id x ≡ false → Absent x (ops_ids os)
      → drop_op x (ops_each_list (λ p r os. drop_op x os) (next q os)) ≡ next (each_list (λ p r os. drop_op x os) q) os
  drop_not (op h rs) os k ax =
      let d = λ (p r : ℕ) (os : OpsOf N T A). drop_op x os in
      ap (λ b. cond b (drop_op x (ops_each_list d os)) (next (each_list d (op h rs)) (drop_op x (ops_each_list d os)))) k ∙ ap (next (each_list d (op h rs))) (ops_untouched x os ax)

  drop_other : (q : OpOf N T A) (os : OpsOf N T A) → eqb (head q).id x ≡ false → Absent x (ids q)
      → drop_op x (ops_each_list (λ p r os. drop_op x os) (next q os)) ≡ next q (drop_op x (ops_each_list (λ p r os. drop_op x os) os))
  drop_other (op h rs) os k aq =
      let d = λ (p r : ℕ) (os : OpsOf N T A). drop_op x os in
      ap (λ b. cond b (drop_op x (ops_each_list d os)) (next (each_list d (op h rs)) (drop_op x (ops_each_list d os)))) k ∙ ap (λ w. next w (drop_op x (ops_each_list d os))) (untouched x (op h rs) aq)

  outside : (p r : ℕ) (q : OpOf N T A) (os : OpsOf N T A) → Absent p (ids q) → Halves (ids q) (ops_ids os) → InList place p r os ⊎ Present place.parent (ops_ids os) → Absent place.parent (ids q)
  outside p r q os a hv loc = elim loc [ inl l ↦ subst (λ (z : ℕ). Absent z (ids q)) l.parent a | inr l ↦ flipped (ids q) (ops_ids os) hv place.parent l ]

  -- the regions after the one that has the operation, and before it
  later : (p r : ℕ) (g : RegionOf N T A) (rs : RegionsOf N T A) → Absent p (region_ids g) → Absent p (regions_ids rs) → Halves (region_ids g) (regions_ids rs) → ((p ≡ place.parent) × (r ≡ place.region)) ⊎ Present place.parent (region_ids g) → Absent x (regions_ids rs)
      → regions_each_list (put_here place o) p (r + 1) (regions_each_list (λ p r os. drop_op x os) p (r + 1) rs) ≡ rs
  later p r g rs a a' hv loc ax =
      ap (regions_each_list (put_here place o) p (r + 1)) (regions_untouched x p (r + 1) rs ax)
      ∙ elim loc [
        | inl l ↦ unput_later place o p (r + 1) rs (λ k m. other_region place o p k (ne_eqb k place.region (λ e. let q = l.1 in omega arith))) (subst (λ (z : ℕ). Absent z (regions_ids rs)) l.0 a')
        | inr l ↦ unput_later place o p (r + 1) rs (λ k m. other_parent place o p k (differ p place.parent (region_ids g) a l)) (hv.disjoint place.parent l)
      ]

  earlier : (p r : ℕ) (g : RegionOf N T A) (rs : RegionsOf N T A) → Absent p (region_ids g) → Absent p (regions_ids rs) → Halves (region_ids g) (regions_ids rs) → ((p ≡ place.parent) × (r + 1 ≤ place.region)) ⊎ Present place.parent (regions_ids rs) → Absent x (region_ids g)
      → region_each_list (put_here place o) p r (region_each_list (λ p r os. drop_op x os) p r g) ≡ g
  earlier p r g rs a a' hv loc ax =
      ap (region_each_list (put_here place o) p r) (region_untouched x p r g ax)
      ∙ elim loc [
        | inl l ↦ unput_region place o p r g (other_region place o p r (ne_eqb r place.region (λ e. let q = l.1 in omega arith))) (subst (λ (z : ℕ). Absent z (region_ids g)) l.0 a)
        | inr l ↦ unput_region place o p r g (other_parent place o p r (differ p place.parent (regions_ids rs) a' l)) (flipped (region_ids g) (regions_ids rs) hv place.parent l)
      ]

  mutual
    back_op : (t : OpOf N T A) → IsDistinct eqb (ids t) → place_of x t ≡ Some place → eqb (head t).id x ≡ false → find x t ≡ Some o → each_list (put_here place o) (each_list (λ p r os. drop_op x os) t) ≡ t
    back_op (op h rs) d e k f' =
        let f = cond_false (eqb h.id x) (Some (op h rs)) (regions_find x rs) (Some o) k f' in
        ap (op h) (back_regions h.id 0 rs (absent_first h.id (regions_ids rs) d) (IsDistinct-tail eqb h.id (regions_ids rs) d) e f)

    back_regions : (p r : ℕ) (rs : RegionsOf N T A) → Absent p (regions_ids rs) → IsDistinct eqb (regions_ids rs) → regions_place x p r rs ≡ Some place → regions_find x rs ≡ Some o
        → regions_each_list (put_here place o) p r (regions_each_list (λ p r os. drop_op x os) p r rs) ≡ rs
    back_regions p r no_regions a d e f = cc
    back_regions p r (region g rs) a d e f =
        let b = absent_parts p (region_ids g) (regions_ids rs) a in
        let hv = halves (region_ids g) (regions_ids rs) d in
        elim (first_case (region_place x p r g) (regions_place x p (r + 1) rs) place e) [
          | inl k ↦ (let px = some_region x p r g place k in
              let ax = hv.disjoint x px in
              let found : region_find x g ≡ Some o = found_left (region_find x g) (regions_find x rs) o f (lost_regions x rs ax) in
              λ i. region (back_region p r g b.0 hv.left k found i) (later p r g rs b.0 b.1 hv (locate_region x place p r g k) ax i))
          | inr k ↦ (let ax = none_region x p r g k.0 in
              let found : regions_find x rs ≡ Some o = found_right (region_find x g) (regions_find x rs) o f (lost_region x g ax) in
              λ i. region (earlier p r g rs b.0 b.1 hv (locate_regions x place p (r + 1) rs k.1) ax i) (back_regions p (r + 1) rs b.1 hv.right k.1 found i))
        ]

    back_region : (p r : ℕ) (g : RegionOf N T A) → Absent p (region_ids g) → IsDistinct eqb (region_ids g) → region_place x p r g ≡ Some place → region_find x g ≡ Some o
        → region_each_list (put_here place o) p r (region_each_list (λ p r os. drop_op x os) p r g) ≡ g
    back_region p r empty a d e f = cc
    back_region p r (block args os) a d e f = ap (block args) (back_ops p r os a d e f)

    back_ops : (p r : ℕ) (os : OpsOf N T A) → Absent p (ops_ids os) → IsDistinct eqb (ops_ids os) → ops_place x p r os ≡ Some place → ops_find x os ≡ Some o
        → put_here place o p r (ops_each_list (put_here place o) (drop_op x (ops_each_list (λ p r os. drop_op x os) os))) ≡ os
    back_ops p r no_ops a d e f = cc
    back_ops p r (next q os) a d e f =
        let qs = ids q in
        let b = absent_parts p qs (ops_ids os) a in
        let hv = halves qs (ops_ids os) d in
        elim (cases_Bool (eqb (head q).id x)) [
          | inl k ↦ here_first p r q os k b.1 hv e f
          | inr k ↦ elim (first_case (place_of x q) (ops_place x p r os) place (cond_false (eqb (head q).id x) (Some (record { parent = p; region = r; before = first_id os })) (first_of (place_of x q) (ops_place x p r os)) (Some place) k e)) [
            | inl j ↦ (let px = some_op q k j in
                let ax = hv.disjoint x px in
                let found : find x q ≡ Some o = found_left (find x q) (ops_find x os) o f (lost_ops x os ax) in
                let pp = locate_op x place q j in
                let out : is_in_block place p r ≡ false = other_parent place o p r (differ p place.parent qs b.0 pp) in
                let dropped = drop_not q os k ax in
                ap (λ l. put_here place o p r (ops_each_list (put_here place o) l)) dropped
                ∙ elsewhere place o p r (ops_each_list (put_here place o) (next (each_list (λ p r os. drop_op x os) q) os)) out
                ∙ λ i. next (back_op q hv.left j k found i) (ops_unput place o os (hv.disjoint place.parent pp) i))
            | inr j ↦ (let aq = none_op q k j.0 in
                let found : ops_find x os ≡ Some o = found_right (find x q) (ops_find x os) o f (lost_op x q aq) in
                let loc = locate_ops x place p r os j.1 in
                let dropped = drop_other q os k aq in
                let same : each_list (put_here place o) q ≡ q = unput place o q (outside p r q os b.0 hv loc) in
                ap (λ l. put_here place o p r (ops_each_list (put_here place o) l)) dropped
                ∙ ap (λ w. put_here place o p r (next w (ops_each_list (put_here place o) (drop_op x (ops_each_list (λ p r os. drop_op x os) os))))) same
                ∙ extra_on p r q os _ a (λ y py. differ (head q).id y (ops_ids os) (head_absent q os hv) py) loc (back_ops p r os b.1 hv.right j.1 found))
          ]
        ]

  pub put_take : (t : OpOf N T A) → HasDistinctIds t → place_of x t ≡ Some place → find x t ≡ Some o → put place o (without x t) ≡ t
  put_take (op h rs) d e f =
      let px = some_regions x h.id 0 rs place e in
      let not_root = differ h.id x (regions_ids rs) (absent_first h.id (regions_ids rs) d) px in
      back_op (op h rs) d e not_root f
