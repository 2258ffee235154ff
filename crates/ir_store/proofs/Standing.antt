-- The places of operations, in slots and in the tree.
use Rattle.std.proofs.Common.{◌≡◌, ℕ, suc, ◌+◌, List, [], ◌∷◌, ◌++◌, refl, sym, ap, ◌∙◌, subst, Bool, true, false, eqb, ◌||◌, ⊎_elim, arith, Option, Some, None, slice_get}
use Rattle.std.specs.Prelude.{option_map, if◌then◌else◌}
use Rattle.std.specs.List.{list_any}
use Rattle.std.proofs.lemmas.Bool.{cases_Bool, eq-eqb, eqb-true, cond-true, cond-false, false≢true, or_left}
use Rattle.std.proofs.lemmas.List.{append_assoc}
use Rattle.ir_store_reads.specs.Lists.{Lists, Laws, Once, has, after, list_at, home_at}
use Rattle.ir_store_reads.specs.trees.declared.place.Place.{Place}
use Rattle.ir_store_reads.specs.trees.Tree.{Op, op, Regions, no_regions, region, Region, empty, block, Ops, no_ops, next, head}
use Rattle.ir_store_reads.specs.trees.Ids.{regions_ids, first_of, HasDistinctIds}
use Rattle.ir_store_reads.specs.trees.Places.{place_of, regions_place, region_place, ops_place, first_id}
use Rattle.ir_store_reads.proofs.of_trees.Returns.{absent_first}
use Rattle.ir_store_reads.specs.Rows.{Row, RegionShape, row_at, live_slot}
use Rattle.ir_store_reads.specs.Spells.{SpellsOp, SpellsRegions, SpellsRegion, SpellsOps}
use Rattle.ir_store_reads.specs.Points.{id_in, slot_place}
use Rattle.ir_store_reads.specs.Right.{Live, Right}
use Rattle.ir_store_reads.proofs.Mapped.{has_op, has_regions, has_region, has_ops, neither}
use Rattle.ir_store_reads.proofs.Founds.{has_is_regions}
use Rattle.ir_store_reads.proofs.SlotLaws.{Found, found, only, there, missing}
use Rattle.ir_store.proofs.Cut.{head_id, live_of}
use Rattle.ir_store_reads.proofs.of_trees.of_types.Truths.{either}

-- an operation that isn't in a tree has no place in it
module _ (x : ℕ) where
  mutual
    pub no_place : (t : Op) → has_op x t ≡ false → place_of x t ≡ None
    no_place (op h rs) e = no_place_regions h.id 0 rs (neither (eqb h.id x) (has_regions x rs) e).1

    pub no_place_regions : (p r : ℕ) (rs : Regions) → has_regions x rs ≡ false → regions_place x p r rs ≡ None
    no_place_regions p r no_regions e = refl
    no_place_regions p r (region g rs) e = let b = neither (has_region x g) (has_regions x rs) e in rw (no_place_region p r g b.0) (no_place_regions p (r + 1) rs b.1)

    no_place_region : (p r : ℕ) (g : Region) → has_region x g ≡ false → region_place x p r g ≡ None
    no_place_region p r empty e = refl
    no_place_region p r (block args os) e = no_place_ops p r os e

    no_place_ops : (p r : ℕ) (os : Ops) → has_ops x os ≡ false → ops_place x p r os ≡ None
    no_place_ops p r no_ops e = refl
    no_place_ops p r (next (op h rs) os) e =
        let b = neither (has_op x (op h rs)) (has_ops x os) e in
        let c = neither (eqb h.id x) (has_regions x rs) b.0 in
        rw c.0 (rw (no_place (op h rs) b.0) (no_place_ops p r os b.1))

has_last : (preceding : List ℕ) (j : ℕ) (ks : List ℕ) → has j (preceding ++ j ∷ ks) ≡ true
has_last [] j ks = or_left (eqb j j) (has j ks) (eq-eqb j j refl)
has_last (f ∷ preceding) j ks = ap (λ b. eqb f j || b) (has_last preceding j ks) ∙ at_last (eqb f j)
  where
    at_last : (a : Bool) → (a || true) ≡ true
    at_last true = refl
    at_last false = refl

-- the nodes after a node of a list
after_preceding : (preceding : List ℕ) (j : ℕ) (ks : List ℕ) → Once (preceding ++ j ∷ ks) → after j (preceding ++ j ∷ ks) ≡ slice_get ks 0
after_preceding [] j ks o = cond-true (eqb j j) (slice_get ks 0) (after j ks) (eq-eqb j j refl)
after_preceding (f ∷ preceding) j ks o = ⊎_elim
    (λ y. absurd (false≢true (sym o.0 ∙ ap (λ z. has z (preceding ++ j ∷ ks)) (eqb-true f j y) ∙ has_last preceding j ks)))
    (λ n. cond-false (eqb f j) (slice_get (preceding ++ j ∷ ks) 0) (after j (preceding ++ j ∷ ks)) n ∙ after_preceding preceding j ks o.1)
    (cases_Bool (eqb f j))

module _ (slots : List Row) (keys : ℕ → Option ℕ) (sibs : Lists) (root : ℕ) (t : Op) (r : Right slots keys sibs root t) (s : SpellsOp slots sibs.lists root t) (laws : Laws sibs.lists sibs.homes) where
  first_of_list : (ks : List ℕ) (os : Ops) → SpellsOps slots sibs.lists ks os → first_id os ≡ option_map (id_in slots) (slice_get ks 0)
  first_of_list [] no_ops z = refl
  first_of_list [] (next o os) z = absurd z
  first_of_list (k ∷ ks) no_ops z = absurd z
  first_of_list (k ∷ ks) (next o os) z = ap Some (head_id slots sibs.lists k o z.0)

  module _ (x k : ℕ) (one : (q : ℕ) → Live slots q → (row_at slots q).head.id ≡ x → q ≡ k) where
    abbrev place : Place
    place = slot_place slots sibs.lists sibs.homes k

    abbrev PlaceIs : Option Place → Type 0
    PlaceIs None = ⊥
    PlaceIs (Some p) = p ≡ slot_place slots sibs.lists sibs.homes k

    left_is : (a b : Option Place) → PlaceIs a → PlaceIs (first_of a b)
    left_is None b p = absurd p
    left_is (Some a) b p = p

    none_left : (a b : Option Place) → a ≡ None → PlaceIs b → PlaceIs (first_of a b)
    none_left a b e p = subst (λ z. PlaceIs (first_of z b)) (sym e) p

    here : (q : ℕ) → Live slots q → (n : ℕ) (a : List ℕ × ℕ) → slice_get (row_at slots q).shapes n ≡ Some (Some a) → (preceding : List ℕ) (j : ℕ) (ks : List ℕ) → preceding ++ j ∷ ks ≡ list_at sibs.lists a.1 → (os : Ops) → SpellsOps slots sibs.lists ks os
        → ◌≡◌ {A = Place} (record { parent = (row_at slots q).head.id; region = n; before = first_id os }) (slot_place slots sibs.lists sibs.homes j)
    here q l n a f preceding j ks w os z =
        let b = r.blocks q n a (r.live_used q l) f in
        let home : home_at sibs.homes j ≡ a.1 = (laws.members a.1 j (ap (has j) (sym w) ∙ has_last preceding j ks)).0 in
        let e1 : (row_at slots q).head.id ≡ id_in slots (row_at slots (home_at sibs.homes j)).owner = ap (id_in slots) (sym b.owner ∙ ap (λ v. (row_at slots v).owner) (sym home)) in
        let e2 : n ≡ (row_at slots (home_at sibs.homes j)).region = sym b.region ∙ ap (λ v. (row_at slots v).region) (sym home) in
        let e3 : first_id os ≡ option_map (id_in slots) (after j (list_at sibs.lists (home_at sibs.homes j))) = first_of_list ks os z ∙ ap (option_map (id_in slots))
        (sym (after_preceding preceding j ks (subst Once (sym w) (laws.once a.1))) ∙ ap (after j) w ∙ ap (λ v. after j (list_at sibs.lists v)) (sym home)) in
        λ i. record { parent = e1 i; region = e2 i; before = e3 i }

    mutual
      op_place : (q : ℕ) (u : Op) → SpellsOp slots sibs.lists q u → eqb (head u).id x ≡ false → has_op x u ≡ true → PlaceIs (place_of x u)
      op_place q (op h rs) z m e0 = let e = either (eqb h.id x) (has_regions x rs) e0 m in subst (λ p. PlaceIs (regions_place x p 0 rs)) (ap (λ w. w.id) z.1.0) (regions_at q (record { live = z.0 }) 0 (row_at slots q).shapes rs (λ i. ap (slice_get (row_at slots q).shapes) (omega arith)) z.1.1 e)

      regions_at : (q : ℕ) → Live slots q → (n : ℕ) (xs : List RegionShape) (rs : Regions) → ((i : ℕ) → slice_get xs i ≡ slice_get (row_at slots q).shapes (i + n)) → SpellsRegions slots sibs.lists xs rs → has_regions x rs ≡ true → PlaceIs (regions_place x (row_at slots q).head.id n rs)
      regions_at q l n xs no_regions f z e = absurd (false≢true e)
      regions_at q l n [] (region g rs) f z e = absurd z
      regions_at q l n (a ∷ xs) (region g rs) f z e = ⊎_elim
          (λ y. left_is (region_place x (row_at slots q).head.id n g) (regions_place x (row_at slots q).head.id (n + 1) rs) (region_at q l n a g (ap (slice_get (row_at slots q).shapes) (omega arith) ∙ sym (f 0)) z.0 y))
          (λ m. none_left (region_place x (row_at slots q).head.id n g) (regions_place x (row_at slots q).head.id (n + 1) rs) (no_place_region x (row_at slots q).head.id n g m)
          (regions_at q l (n + 1) xs rs (λ i. f (suc i) ∙ ap (slice_get (row_at slots q).shapes) (omega arith)) z.1 (either (has_region x g) (has_regions x rs) e m)))
          (cases_Bool (has_region x g))

      region_at : (q : ℕ) → Live slots q → (n : ℕ) (a : RegionShape) (g : Region) → slice_get (row_at slots q).shapes n ≡ Some a → SpellsRegion slots sibs.lists a g → has_region x g ≡ true → PlaceIs (region_place x (row_at slots q).head.id n g)
      region_at q l n a empty f z e = absurd (false≢true e)
      region_at q l n None (block args os) f z e = absurd z
      region_at q l n (Some a) (block args os) f z e = ops_at q l n a f [] (list_at sibs.lists a.1) refl os z.1 e

      ops_at : (q : ℕ) → Live slots q → (n : ℕ) (a : List ℕ × ℕ) → slice_get (row_at slots q).shapes n ≡ Some (Some a) → (preceding ks : List ℕ) → preceding ++ ks ≡ list_at sibs.lists a.1 → (os : Ops) → SpellsOps slots sibs.lists ks os → has_ops x os ≡ true
          → PlaceIs (ops_place x (row_at slots q).head.id n os)
      ops_at q l n a f preceding ks w no_ops z e = absurd (false≢true e)
      ops_at q l n a f preceding [] w (next o os) z e = absurd z
      ops_at q l n a f preceding (j ∷ ks) w (next (op h rs) os) z e = ⊎_elim
          (λ y.
          let same : j ≡ k = one j (live_of slots sibs.lists j (op h rs) z.0) (sym (head_id slots sibs.lists j (op h rs) z.0) ∙ eqb-true h.id x y) in
          subst PlaceIs (sym (cond-true (eqb h.id x) (Some (record { parent = (row_at slots q).head.id; region = n; before = first_id os })) (first_of (place_of x (op h rs)) (ops_place x (row_at slots q).head.id n os)) y))
          (here q l n a f preceding j ks w os z.1 ∙ ap (slot_place slots sibs.lists sibs.homes) same))
          (λ m. subst PlaceIs (sym (cond-false (eqb h.id x) (Some (record { parent = (row_at slots q).head.id; region = n; before = first_id os })) (first_of (place_of x (op h rs)) (ops_place x (row_at slots q).head.id n os)) m))
          (⊎_elim
          (λ y. left_is (place_of x (op h rs)) (ops_place x (row_at slots q).head.id n os) (op_place j (op h rs) z.0 m y))
          (λ v. none_left (place_of x (op h rs)) (ops_place x (row_at slots q).head.id n os) (no_place x (op h rs) v)
          (ops_at q l n a f (preceding ++ j ∷ []) ks (append_assoc preceding (j ∷ []) ks ∙ w) os z.1 (either (has_op x (op h rs)) (has_ops x os) e v)))
          (cases_Bool (has_op x (op h rs)))))
          (cases_Bool (eqb h.id x))

  pub some_place : (x k : ℕ) → Found slots x k → (k ≡ root → ⊥) → place_of x t ≡ Some (slot_place slots sibs.lists sibs.homes k)
  some_place x k f ne = answer (place_of x t) (go t s (there slots keys sibs root t r s x k f))
    where
      one : (q : ℕ) → Live slots q → (row_at slots q).head.id ≡ x → q ≡ k
      one = only slots keys sibs root t r s x k f.live f.id

      go : (u : Op) → SpellsOp slots sibs.lists root u → has_op x u ≡ true → PlaceIs x k one (place_of x u)
      go (op h rs) z e = ⊎_elim
          (λ y. absurd (ne (sym (one root (record { live = z.0 }) (ap (λ w. w.id) z.1.0 ∙ eqb-true h.id x y)))))
          (λ n. op_place x k one root (op h rs) z n e)
          (cases_Bool (eqb h.id x))

      answer : (o : Option Place) → PlaceIs x k one o → o ≡ Some (slot_place slots sibs.lists sibs.homes k)
      answer None p = absurd p
      answer (Some p) e = ap Some e

  pub root_placeless : HasDistinctIds t → (x : ℕ) → Found slots x root → place_of x t ≡ None
  root_placeless d x f = go t s d
    where
      go : (u : Op) → SpellsOp slots sibs.lists root u → HasDistinctIds u → place_of x u ≡ None
      go (op h rs) z d =
          let e : h.id ≡ x = ap (λ w. w.id) (sym z.1.0) ∙ f.id in
          let out : has_regions x rs ≡ false = has_is_regions x rs ∙ subst (λ y. list_any (λ z. eqb z y) (regions_ids rs) ≡ false) e (absent_first h.id (regions_ids rs) d) in
          no_place_regions x h.id 0 rs out

  -- the place of an operation
  pub place_found : HasDistinctIds t → (x k : ℕ) → live_slot slots keys x ≡ Some k → (root' : Bool) → eqb k root ≡ root' → place_of x t ≡ (if root' then None else Some (slot_place slots sibs.lists sibs.homes k))
  place_found d x k e true f = root_placeless d x (subst (Found slots x) (eqb-true k root f) (found slots keys sibs root t r s x k e))
  place_found d x k e false f = some_place x k (found slots keys sibs root t r s x k e) (λ z. false≢true (sym f ∙ eq-eqb k root z))

  pub place_missing : (x : ℕ) → live_slot slots keys x ≡ None → place_of x t ≡ None
  place_missing x e = no_place x t (missing slots keys sibs root t r s x e)
