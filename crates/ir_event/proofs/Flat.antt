-- The heads of a tree as a list, and edits of one operation only.
use Rattle.std.proofs.Common.{◌≡◌, refl, ap, sym, ◌∙◌, subst, ℕ, Bool, true, false, true≢false, cond, eqb, eqb-true, eq-eqb, List, [], ◌∷◌, ◌++◌, map, Option, Some, None}
use Rattle.std.specs.Prelude.{option_map}
use Rattle.std.specs.List.{IsDistinct, AllByRecursion}
use Rattle.std.proofs.lemmas.List.{map-append}
use Rattle.std.proofs.lemmas.Map.Keys.{IsDistinct-head, IsDistinct-tail}
use Rattle.ir_store.specs.trees.Tree.{HeadOf, OpOf, op, RegionsOf, no_regions, region, RegionOf, empty, block, OpsOf, no_ops, next, head}
use Rattle.ir_store.specs.trees.Ids.{ids, regions_ids, region_ids, ops_ids, first_of, find, regions_find, region_find, ops_find}
use Rattle.ir_store.specs.trees.Edits.{each_head, regions_each_head, region_each_head, ops_each_head}
use Rattle.ir_event.specs.Heads.{heads, regions_heads, region_heads, ops_heads}

-- the first head with id x
abbrev pub first_head : {N T A : Type 0} → ℕ → List (HeadOf N T A) → Option (HeadOf N T A)
first_head x [] = None
first_head x (h ∷ hs) = cond (eqb h.id x) (Some h) (first_head x hs)

module _ {N T A : Type 0} where
  abbrev id_of : HeadOf N T A → ℕ
  id_of h = h.id

  mutual
    pub heads_ids : (t : OpOf N T A) → map (λ (h : HeadOf N T A). h.id) (heads t) ≡ ids t
    heads_ids (op h rs) = ap (λ l. h.id ∷ l) (regions_heads_ids rs)

    regions_heads_ids : (rs : RegionsOf N T A) → map (λ (h : HeadOf N T A). h.id) (regions_heads rs) ≡ regions_ids rs
    regions_heads_ids no_regions = refl
    regions_heads_ids (region r rs) = map-append id_of (region_heads r) (regions_heads rs) ∙ λ i. region_heads_ids r i ++ regions_heads_ids rs i

    region_heads_ids : (r : RegionOf N T A) → map (λ (h : HeadOf N T A). h.id) (region_heads r) ≡ region_ids r
    region_heads_ids empty = refl
    region_heads_ids (block args os) = ops_heads_ids os

    ops_heads_ids : (os : OpsOf N T A) → map (λ (h : HeadOf N T A). h.id) (ops_heads os) ≡ ops_ids os
    ops_heads_ids no_ops = refl
    ops_heads_ids (next o os) = map-append id_of (heads o) (ops_heads os) ∙ λ i. heads_ids o i ++ ops_heads_ids os i

  -- an edit of each head
  module _ (f : HeadOf N T A → HeadOf N T A) where
    mutual
      pub heads_each : (t : OpOf N T A) → heads (each_head f t) ≡ map f (heads t)
      heads_each (op h rs) = ap (λ l. f h ∷ l) (regions_heads_each rs)

      regions_heads_each : (rs : RegionsOf N T A) → regions_heads (regions_each_head f rs) ≡ map f (regions_heads rs)
      regions_heads_each no_regions = refl
      regions_heads_each (region r rs) = (λ i. region_heads_each r i ++ regions_heads_each rs i) ∙ sym (map-append f (region_heads r) (regions_heads rs))

      region_heads_each : (r : RegionOf N T A) → region_heads (region_each_head f r) ≡ map f (region_heads r)
      region_heads_each empty = refl
      region_heads_each (block args os) = ops_heads_each os

      ops_heads_each : (os : OpsOf N T A) → ops_heads (ops_each_head f os) ≡ map f (ops_heads os)
      ops_heads_each no_ops = refl
      ops_heads_each (next o os) = (λ i. heads_each o i ++ ops_heads_each os i) ∙ sym (map-append f (heads o) (ops_heads os))

  -- the concatenation of two lists
  first_joined : (x : ℕ) (hs gs : List (HeadOf N T A)) → first_head x (hs ++ gs) ≡ first_of (first_head x hs) (first_head x gs)
  first_joined x [] gs = refl
  first_joined x (h ∷ hs) gs =
      ap (cond (eqb h.id x) (Some h)) (first_joined x hs gs)
      ∙ elim (eqb h.id x) as (λ b. cond b (Some h) (first_of (first_head x hs) (first_head x gs)) ≡ first_of (cond b (Some h) (first_head x hs)) (first_head x gs)) [ true ↦ refl | false ↦ refl ]

  abbrev head_of : OpOf N T A → HeadOf N T A
  head_of o = head o

  mapped_first : (a b : Option (OpOf N T A)) → option_map head_of (first_of a b) ≡ first_of (option_map head_of a) (option_map head_of b)
  mapped_first None b = refl
  mapped_first (Some a) b = refl

  mutual
    -- the found operation has the first head with the id
    pub found_head : (x : ℕ) (t : OpOf N T A) → option_map head_of (find x t) ≡ first_head x (heads t)
    found_head x (op h rs) =
        elim (eqb h.id x) as (λ b. option_map head_of (cond b (Some (op h rs)) (regions_find x rs)) ≡ cond b (Some h) (first_head x (regions_heads rs))) [ true ↦ refl | false ↦ regions_found_head x rs ]

    regions_found_head : (x : ℕ) (rs : RegionsOf N T A) → option_map head_of (regions_find x rs) ≡ first_head x (regions_heads rs)
    regions_found_head x no_regions = refl
    regions_found_head x (region r rs) =
        mapped_first (region_find x r) (regions_find x rs) ∙ (λ i. first_of (region_found_head x r i) (regions_found_head x rs i)) ∙ sym (first_joined x (region_heads r) (regions_heads rs))

    region_found_head : (x : ℕ) (r : RegionOf N T A) → option_map head_of (region_find x r) ≡ first_head x (region_heads r)
    region_found_head x empty = refl
    region_found_head x (block args os) = ops_found_head x os

    ops_found_head : (x : ℕ) (os : OpsOf N T A) → option_map head_of (ops_find x os) ≡ first_head x (ops_heads os)
    ops_found_head x no_ops = refl
    ops_found_head x (next o os) = mapped_first (find x o) (ops_find x os) ∙ (λ i. first_of (found_head x o i) (ops_found_head x os i)) ∙ sym (first_joined x (heads o) (ops_heads os))

  -- a property of the heads of two lists
  all_preceding : (P : HeadOf N T A → Type 0) (hs gs : List (HeadOf N T A)) → AllByRecursion P (hs ++ gs) → AllByRecursion P hs
  all_preceding P [] gs a = tt
  all_preceding P (h ∷ hs) gs a = (a.0, all_preceding P hs gs a.1)

  all_back : (P : HeadOf N T A → Type 0) (hs gs : List (HeadOf N T A)) → AllByRecursion P (hs ++ gs) → AllByRecursion P gs
  all_back P [] gs a = a
  all_back P (h ∷ hs) gs a = all_back P hs gs a.1

  -- an edit that leaves each head unchanged
  module _ (f : HeadOf N T A → HeadOf N T A) where
    abbrev IsLeft : HeadOf N T A → Type 0
    IsLeft h = f h ≡ h

    mutual
      pub each_left : (t : OpOf N T A) → AllByRecursion IsLeft (heads t) → each_head f t ≡ t
      each_left (op h rs) a = λ i. op (a.0 i) (regions_each_left rs a.1 i)

      regions_each_left : (rs : RegionsOf N T A) → AllByRecursion IsLeft (regions_heads rs) → regions_each_head f rs ≡ rs
      regions_each_left no_regions a = refl
      regions_each_left (region r rs) a = λ i. region (region_each_left r (all_preceding IsLeft (region_heads r) (regions_heads rs) a) i) (regions_each_left rs (all_back IsLeft (region_heads r) (regions_heads rs) a) i)

      region_each_left : (r : RegionOf N T A) → AllByRecursion IsLeft (region_heads r) → region_each_head f r ≡ r
      region_each_left empty a = refl
      region_each_left (block args os) a = ap (block args) (ops_each_left os a)

      ops_each_left : (os : OpsOf N T A) → AllByRecursion IsLeft (ops_heads os) → ops_each_head f os ≡ os
      ops_each_left no_ops a = refl
      ops_each_left (next o os) a = λ i. next (each_left o (all_preceding IsLeft (heads o) (ops_heads os) a) i) (ops_each_left os (all_back IsLeft (heads o) (ops_heads os) a) i)

  -- if ids are distinct, a property of the found operation is a property of each operation with its id
  none_else : (P : HeadOf N T A → Type 0) (x y : ℕ) → eqb y x ≡ true → (hs : List (HeadOf N T A)) → AllByRecursion (λ z. eqb y z ≡ false) (map (λ (h : HeadOf N T A). h.id) hs) → AllByRecursion (λ h. eqb h.id x ≡ true → P h) hs
  none_else P x y e [] a = tt
  none_else P x y e (h ∷ hs) a =
      (λ k. absurd (true≢false (sym (eq-eqb y h.id (eqb-true y x e ∙ sym (eqb-true h.id x k))) ∙ a.0)), none_else P x y e hs a.1)

  pub the_only : (P : HeadOf N T A → Type 0) (x : ℕ) (g : HeadOf N T A) (hs : List (HeadOf N T A)) → IsDistinct eqb (map (λ (h : HeadOf N T A). h.id) hs) → first_head x hs ≡ Some g → P g → AllByRecursion (λ h. eqb h.id x ≡ true → P h) hs
  the_only P x g [] d e p = tt
  the_only P x g (h ∷ hs) d e p = here (λ rest. the_only P x g hs (IsDistinct-tail eqb h.id _ d) rest p) (eqb h.id x) refl
    where
      here : (first_head x hs ≡ Some g → AllByRecursion (λ k. eqb k.id x ≡ true → P k) hs) → (b : Bool) → eqb h.id x ≡ b → AllByRecursion (λ k. eqb k.id x ≡ true → P k) (h ∷ hs)
      here later true is =
          let same : Some h ≡ Some g = sym (ap (λ b. cond b (Some h) (first_head x hs)) is) ∙ e in
          let one : h ≡ g = cc in
          (λ _. subst P (sym one) p, none_else P x h.id is hs (IsDistinct-head eqb h.id _ d))
      here later false is =
          let rest : first_head x hs ≡ Some g = sym (ap (λ b. cond b (Some h) (first_head x hs)) is) ∙ e in
          (λ k. absurd (true≢false (sym k ∙ is)), later rest)
