-- The neighbours of an operation, in slots and in the tree.
use Rattle.std.proofs.Common.{◌≡◌, ℕ, zero, suc, ◌<◌, List, [], ◌∷◌, ◌++◌, refl, sym, ap, ◌∙◌, subst, length, Bool, true, false, eqb, cond, ◌||◌, ⊎_elim, Option, Some, None, slice_get, arith}
use Rattle.std.specs.Prelude.{option_map, option_and_then}
use Rattle.std.proofs.lemmas.Bool.{cases_eq, eq-eqb, ne_eqb, or_left, or_right}
use Rattle.std.proofs.lemmas.List.{get_or_past}
use Rattle.ir_store_reads.specs.Lists.{Lists, Laws, has, before, last_of, list_at, home_at, free, IsHead}
use Rattle.ir_store_reads.specs.Labels.{goes_before as slot_before}
use Rattle.ir_store_reads.specs.trees.declared.place.Place.{Place}
use Rattle.ir_store_reads.specs.trees.Tree.{Op, op, Regions, no_regions, region, empty, block, Ops, no_ops, next, head, regions, ops_of, op_list}
use Rattle.ir_store_reads.specs.trees.Ids.{HasDistinctIds, first_of}
use Rattle.ir_store_reads.specs.trees.Places.{place_of, first_id}
use Rattle.ir_store_reads.specs.tree_laws.Members.{In}
use Rattle.ir_store_reads.specs.tree_laws.Values.{region_at}
use Rattle.ir_store_reads.specs.tree_laws.Stands.{StepOf, OpWithPathOf, op_with_path_id, stands, place_in}
use Rattle.ir_store_reads.specs.tree_laws.Reads.{ops_in, ops_at, last_id, is_among, goes_before, id_before, list_of, in_list, is_before}
use Rattle.ir_store_reads.proofs.of_tree_laws.Members.{stand}
use Rattle.ir_store_reads.proofs.of_tree_laws.Around.{member_of_place}
use Rattle.ir_store_reads.proofs.of_tree_laws.Neighbours.{list_there}
use Rattle.ir_store_reads.specs.Rows.{Row, RegionShape, row_at, live_slot, head_in}
use Rattle.ir_store_reads.specs.Spells.{SpellsOp, SpellsRegions, SpellsOps}
use Rattle.ir_store_reads.specs.Points.{id_in, slot_place}
use Rattle.ir_store_reads.specs.Right.{Live, Right}
use Rattle.ir_store_reads.specs.Heading.{block_in, CanBeItem}
use Rattle.ir_store_reads.proofs.SlotLaws.{Found, found, found_op, none_found, only, slot_of_live}
use Rattle.ir_store.proofs.Cut.{head_id, live_of}
use Rattle.ir_store.proofs.Standing.{some_place, root_placeless, place_missing}
use Rattle.ir_store_reads.proofs.of_trees.of_types.Truths.{both_false}

later : (a : Option ℕ) (x : ℕ) (b : Option ℕ) → first_of (first_of a (Some x)) b ≡ first_of a (Some x)
later None x b = refl
later (Some a) x b = refl

alone : (a : Option ℕ) → first_of a None ≡ a
alone None = refl
alone (Some a) = refl

cond_map : {X Y : Type 0} (b : Bool) (f : X → Y) (x y : X) → cond b (f x) (f y) ≡ f (cond b x y)
cond_map true f x y = refl
cond_map false f x y = refl

-- operations of a list, and their slots
module _ (slots : List Row) (lists : List (List ℕ)) where
  pub first_spelt : (ks : List ℕ) (os : Ops) → SpellsOps slots lists ks os → option_map (id_in slots) (slice_get ks 0) ≡ first_id os
  first_spelt [] no_ops z = refl
  first_spelt [] (next o os) z = absurd z
  first_spelt (k ∷ ks) no_ops z = absurd z
  first_spelt (k ∷ ks) (next o os) z = ap Some (sym (head_id slots lists k o z.0))

  last_after : (last : Option ℕ) (ks : List ℕ) (os : Ops) → SpellsOps slots lists ks os → first_of (last_id os) (option_map (id_in slots) last) ≡ option_map (id_in slots) (last_of last ks)
  last_after last [] no_ops z = refl
  last_after last [] (next o os) z = absurd z
  last_after last (k ∷ ks) no_ops z = absurd z
  last_after last (k ∷ ks) (next o os) z =
      later (last_id os) (head o).id (option_map (id_in slots) last) ∙ ap (λ i. first_of (last_id os) (Some i)) (head_id slots lists k o z.0) ∙ last_after (Some k) ks os z.1

  pub last_spelt : (ks : List ℕ) (os : Ops) → SpellsOps slots lists ks os → option_map (id_in slots) (last_of None ks) ≡ last_id os
  last_spelt ks os z = sym (last_after None ks os z) ∙ alone (last_id os)

  -- if x is the operation of one slot
  module _ (x k : ℕ) (id : (row_at slots k).head.id ≡ x) (one : (q : ℕ) → Live slots q → (row_at slots q).head.id ≡ x → q ≡ k) where
    same_test : (q : ℕ) (o : Op) → SpellsOp slots lists q o → eqb (head o).id x ≡ eqb q k
    same_test q o z = ⊎_elim
        (λ e. eq-eqb (head o).id x (head_id slots lists q o z ∙ ap (λ y. (row_at slots y).head.id) e ∙ id) ∙ sym (eq-eqb q k e))
        (λ n. ne_eqb (head o).id x (λ y. n (one q (live_of slots lists q o z) (sym (head_id slots lists q o z) ∙ y))) ∙ sym (ne_eqb q k n))
        (cases_eq q k)

    pub before_spelt : (last : Option ℕ) (ks : List ℕ) (os : Ops) → SpellsOps slots lists ks os → id_before x (option_map (id_in slots) last) os ≡ option_map (id_in slots) (before k last ks)
    before_spelt last [] no_ops z = refl
    before_spelt last [] (next o os) z = absurd z
    before_spelt last (q ∷ ks) no_ops z = absurd z
    before_spelt last (q ∷ ks) (next o os) z =
        (λ i. cond (same_test q o z.0 i) (option_map (id_in slots) last) (id_before x (Some (head_id slots lists q o z.0 i)) os))
        ∙ ap (cond (eqb q k) (option_map (id_in slots) last)) (before_spelt (Some q) ks os z.1)
        ∙ cond_map (eqb q k) (option_map (id_in slots)) last (before k (Some q) ks)

    pub among_spelt : (ks : List ℕ) (os : Ops) → SpellsOps slots lists ks os → is_among x os ≡ has k ks
    among_spelt [] no_ops z = refl
    among_spelt [] (next o os) z = absurd z
    among_spelt (q ∷ ks) no_ops z = absurd z
    among_spelt (q ∷ ks) (next o os) z = λ i. same_test q o z.0 i || among_spelt ks os z.1 i

    -- if y is the operation of another slot
    pub goes_spelt : (y j : ℕ) → ((ks : List ℕ) (os : Ops) → SpellsOps slots lists ks os → is_among y os ≡ has j ks) → (ks : List ℕ) (os : Ops) → SpellsOps slots lists ks os → goes_before x y os ≡ slot_before k j ks
    goes_spelt y j among [] no_ops z = refl
    goes_spelt y j among [] (next o os) z = absurd z
    goes_spelt y j among (q ∷ ks) no_ops z = absurd z
    goes_spelt y j among (q ∷ ks) (next o os) z = λ i. cond (same_test q o z.0 i) (among ks os z.1 i) (goes_spelt y j among ks os z.1 i)

  -- if x has no slot
  module _ (x : ℕ) (none : (q : ℕ) → Live slots q → (row_at slots q).head.id ≡ x → ⊥) where
    never_among : (ks : List ℕ) (os : Ops) → SpellsOps slots lists ks os → is_among x os ≡ false
    never_among [] no_ops z = refl
    never_among [] (next o os) z = absurd z
    never_among (k ∷ ks) no_ops z = absurd z
    never_among (k ∷ ks) (next o os) z = ap (λ b. b || is_among x os) (ne_eqb (head o).id x (λ e. none k (live_of slots lists k o z.0) (sym (head_id slots lists k o z.0) ∙ e))) ∙ never_among ks os z.1

    pub never_after : (y : ℕ) (ks : List ℕ) (os : Ops) → SpellsOps slots lists ks os → goes_before y x os ≡ false
    never_after y [] no_ops z = refl
    never_after y [] (next o os) z = absurd z
    never_after y (k ∷ ks) no_ops z = absurd z
    never_after y (k ∷ ks) (next o os) z = (λ i. cond (eqb (head o).id y) (never_among ks os z.1 i) (never_after y ks os z.1 i)) ∙ both_false (eqb (head o).id y)

among_there : (x : ℕ) (preceding : List Op) (o : Op) (rest : List Op) → (head o).id ≡ x → is_among x (ops_of (preceding ++ o ∷ rest)) ≡ true
among_there x [] o rest e = or_left (eqb (head o).id x) (is_among x (ops_of rest)) (eq-eqb (head o).id x e)
among_there x (f ∷ preceding) o rest e = or_right (eqb (head f).id x) (is_among x (ops_of (preceding ++ o ∷ rest))) (among_there x preceding o rest e)

-- the head of a list, if there is one, and the operations of the list
abbrev pub ListIs : List Row → Lists → Option ℕ → Option Ops → Type 0
ListIs slots sibs None None = Unit {0}
ListIs slots sibs None (Some os) = ⊥
ListIs slots sibs (Some h) None = ⊥
ListIs slots sibs (Some h) (Some os) = IsHead sibs.homes h × SpellsOps slots sibs.lists (list_at sibs.lists h) os

module _ (slots : List Row) (keys : ℕ → Option ℕ) (sibs : Lists) (root : ℕ) (t : Op) (r : Right slots keys sibs root t) (s : SpellsOp slots sibs.lists root t) where
  regions_list : (n : ℕ) (xs : List RegionShape) (rs : Regions) → ((i : ℕ) (a : List ℕ × ℕ) → slice_get xs i ≡ Some (Some a) → IsHead sibs.homes a.1) → SpellsRegions slots sibs.lists xs rs
      → ListIs slots sibs (option_and_then head_in (slice_get xs n)) (option_and_then ops_in (region_at n rs))
  regions_list n [] no_regions f z = tt
  regions_list n [] (region g rs) f z = absurd z
  regions_list n (a ∷ xs) no_regions f z = absurd z
  regions_list zero (None ∷ xs) (region empty rs) f z = tt
  regions_list zero (None ∷ xs) (region (block args os) rs) f z = absurd z.0
  regions_list zero (Some a ∷ xs) (region empty rs) f z = absurd z.0
  regions_list zero (Some a ∷ xs) (region (block args os) rs) f z = (f 0 a refl, z.0.1)
  regions_list (suc n) (a ∷ xs) (region g rs) f z = regions_list n xs rs (λ i. f (suc i)) z.1

  -- the operations of a block are those of its list
  pub block_is : (p n : ℕ) → ListIs slots sibs (block_in slots (live_slot slots keys) p n) (ops_at p n t)
  block_is p n = go (live_slot slots keys p) refl
    where
      in_op : (q : ℕ) → Live slots q → (o : Op) → SpellsOp slots sibs.lists q o → ListIs slots sibs (option_and_then head_in (slice_get (row_at slots q).shapes n)) (option_and_then ops_in (region_at n (regions o)))
      in_op q l (op h rs) z = regions_list n (row_at slots q).shapes rs (λ i a e. (r.blocks q i a (r.live_used q l) e).head) z.1.1

      go : (o : Option ℕ) → live_slot slots keys p ≡ o → ListIs slots sibs (option_and_then (λ k. option_and_then head_in (slice_get (row_at slots k).shapes n)) o) (ops_at p n t)
      go None e = rw (none_found slots keys sibs root t r s p e) tt
      go (Some q) e =
          let fd = found slots keys sibs root t r s p q e in
          let o = found_op slots keys sibs root t r s p q fd in
          rw o.1.0 (in_op q fd.live o.0 o.1.1)

  pub no_block : (p n : ℕ) → None ≡ block_in slots (live_slot slots keys) p n → ops_at p n t ≡ None
  no_block p n e = go (ops_at p n t) (subst (λ b. ListIs slots sibs b (ops_at p n t)) (sym e) (block_is p n))
    where
      go : (os : Option Ops) → ListIs slots sibs None os → os ≡ None
      go None l = refl
      go (Some os) l = absurd l

  pub some_block : (p n h : ℕ) → Some h ≡ block_in slots (live_slot slots keys) p n → (os : Ops) × ((ops_at p n t ≡ Some os) × (IsHead sibs.homes h × SpellsOps slots sibs.lists (list_at sibs.lists h) os))
  some_block p n h e = go (ops_at p n t) refl (subst (λ b. ListIs slots sibs b (ops_at p n t)) (sym e) (block_is p n))
    where
      go : (o : Option Ops) → ops_at p n t ≡ o → ListIs slots sibs (Some h) o → (os : Ops) × ((ops_at p n t ≡ Some os) × (IsHead sibs.homes h × SpellsOps slots sibs.lists (list_at sibs.lists h) os))
      go None f l = absurd l
      go (Some os) f l = (os, (f, l))

  alone_there : (x k : ℕ) → Found slots x k → (q : ℕ) → Live slots q → (row_at slots q).head.id ≡ x → q ≡ k
  alone_there x k f q l e = only slots keys sibs root t r s x k f.live f.id q l e

  pub stands_alone : (k : ℕ) → Live slots k → CanBeItem sibs.homes k
  stands_alone k l = ⊎_elim
      (λ e. record { inside = subst (λ z. z < length sibs.homes) (sym e) r.top.inside; other = λ z. (let i = r.top.inside in let u = r.top.unlinked in let few = r.few in let h : free ≡ root = sym u ∙ ap (home_at sibs.homes) (sym e) ∙ z ∙ e in absurd (omega (arith, i, h, few))) })
      (λ n. let p = (r.items k l n).item in record { inside = p.inside; other = p.other })
      (cases_eq k root)

  module _ (laws : Laws sibs.lists sibs.homes) (d : HasDistinctIds t) where
    -- the list that has the operation
    pub record NextTo (x k : ℕ) : Type 0 where
      pub list : Ops
      pub is : list_of x t ≡ Some list
      pub spelt : SpellsOps slots sibs.lists (list_at sibs.lists (home_at sibs.homes k)) list
      pub owner : Live slots (row_at slots (home_at sibs.homes k)).owner

    pub next_to : (x k : ℕ) → Found slots x k → (k ≡ root → ⊥) → NextTo x k
    next_to x k f n =
        let m = member_of_place x place t put in
        at_path m.0 m.1 m.2 m.0.path refl m.3
      where
        place : Place
        place = slot_place slots sibs.lists sibs.homes k

        put : place_of x t ≡ Some (slot_place slots sibs.lists sibs.homes k)
        put = some_place slots keys sibs root t r s laws x k f n

        in_list_of : (os : Ops) → list_of x t ≡ Some os → is_among x os ≡ true → (h : Option ℕ) → ListIs slots sibs h (Some os) → h ≡ block_in slots (live_slot slots keys) place.parent place.region → NextTo x k
        in_list_of os e a None l w = absurd l
        in_list_of os e a (Some h) l w =
            let here : has k (list_at sibs.lists h) ≡ true = sym (among_spelt slots sibs.lists x k f.id (alone_there x k f) (list_at sibs.lists h) os l.1) ∙ a in
            let home = (laws.members h k here).0 in
            record { list = os; is = e; spelt = subst (λ y. SpellsOps slots sibs.lists (list_at sibs.lists y) os) (sym home) l.1; owner = owned h w home }
          where
            owned : (h : ℕ) → Some h ≡ block_in slots (live_slot slots keys) place.parent place.region → home_at sibs.homes k ≡ h → Live slots (row_at slots (home_at sibs.homes k)).owner
            owned h w home = go (live_slot slots keys place.parent) refl w
              where
                in_shapes : (q : ℕ) → Live slots q → (o : Option RegionShape) → slice_get (row_at slots q).shapes place.region ≡ o → Some h ≡ option_and_then head_in o → Live slots (row_at slots (home_at sibs.homes k)).owner
                in_shapes q l None e w = absurd cc
                in_shapes q l (Some None) e w = absurd cc
                in_shapes q l (Some (Some a)) e w =
                    let own : h ≡ a.1 = cc in
                    subst (Live slots) (sym (r.blocks q place.region a (r.live_used q l) e).owner ∙ ap (λ y. (row_at slots y).owner) (sym own ∙ sym home)) l

                go : (o : Option ℕ) → live_slot slots keys place.parent ≡ o → Some h ≡ option_and_then (λ k. option_and_then head_in (slice_get (row_at slots k).shapes place.region)) o → Live slots (row_at slots (home_at sibs.homes k)).owner
                go None e w = absurd cc
                go (Some q) e w = let fd = found slots keys sibs root t r s place.parent q e in in_shapes q fd.live (slice_get (row_at slots q).shapes place.region) refl w

        at_path : (u : OpWithPathOf ℕ ℕ ℕ) → In u (stands [] t) → op_with_path_id u ≡ x → (path : List (StepOf ℕ ℕ ℕ)) → u.path ≡ path → place_in u.path ≡ Some place → NextTo x k
        at_path u h id [] e w = (let bad : None ≡ Some place = sym (ap place_in e) ∙ w in absurd cc)
        at_path u h id (a ∷ q) e w =
            let there : In (stand u.here (a ∷ q)) (stands [] t) = subst (λ l. In (stand u.here l) (stands [] t)) e h in
            let os = ops_of (a.preceding ++ u.here ∷ op_list a.rest) in
            let is : list_of x t ≡ Some os = ap (λ y. list_of y t) (sym id) ∙ list_there t d u.here a q there in
            let at : ops_at place.parent place.region t ≡ Some os = ap (option_and_then (λ p. ops_at p.parent p.region t)) (sym put) ∙ is in
            in_list_of os is (among_there x a.preceding u.here (op_list a.rest) id) (block_in slots (live_slot slots keys) place.parent place.region) (subst (ListIs slots sibs (block_in slots (live_slot slots keys) place.parent place.region)) at (block_is place.parent place.region)) refl

    root_listless : (x : ℕ) → Found slots x root → list_of x t ≡ None
    root_listless x f = ap (option_and_then (λ p. ops_at p.parent p.region t)) (root_placeless slots keys sibs root t r s laws d x f)

    pub missing_listless : (x : ℕ) → live_slot slots keys x ≡ None → list_of x t ≡ None
    missing_listless x e = ap (option_and_then (λ p. ops_at p.parent p.region t)) (place_missing slots keys sibs root t r s laws x e)

    pub root_list : (x k : ℕ) → Found slots x k → k ≡ root → list_of x t ≡ None
    root_list x k f e = root_listless x (subst (Found slots x) e f)

    pub prev_found : (x k : ℕ) → Found slots x k → (k ≡ root → ⊥) → option_map (id_in slots) (before k None (list_at sibs.lists (home_at sibs.homes k))) ≡ option_and_then (id_before x None) (list_of x t)
    prev_found x k f n =
        let b = next_to x k f n in
        sym (ap (option_and_then (id_before x None)) b.is ∙ before_spelt slots sibs.lists x k f.id (alone_there x k f) None (list_at sibs.lists (home_at sibs.homes k)) b.list b.spelt)

    root_bare : list_at sibs.lists (home_at sibs.homes root) ≡ []
    root_bare =
        let few = laws.few in
        let counted = laws.counted in
        ap (list_at sibs.lists) r.top.unlinked ∙ get_or_past sibs.lists free [] (omega (arith, few, counted))

    pub before_found : (x k y j : ℕ) → Found slots x k → Found slots y j → slot_before k j (list_at sibs.lists (home_at sibs.homes k)) ≡ is_before x y t
    before_found x k y j f g = ⊎_elim
        (λ e. ap (λ z. slot_before k j (list_at sibs.lists (home_at sibs.homes z))) e ∙ ap (slot_before k j) root_bare ∙ sym (ap (in_list (goes_before x y)) (root_list x k f e)))
        (λ n. let b = next_to x k f n in
        sym (ap (in_list (goes_before x y)) b.is
        ∙ goes_spelt slots sibs.lists x k f.id (alone_there x k f) y j (among_spelt slots sibs.lists y j g.id (alone_there y j g)) (list_at sibs.lists (home_at sibs.homes k)) b.list b.spelt))
        (cases_eq k root)

    pub before_missing : (x k y : ℕ) → Found slots x k → live_slot slots keys y ≡ None → is_before x y t ≡ false
    before_missing x k y f e = ⊎_elim
        (λ z. ap (in_list (goes_before x y)) (root_list x k f z))
        (λ n. let b = next_to x k f n in
        ap (in_list (goes_before x y)) b.is
        ∙ never_after slots sibs.lists y (λ q l i. let z : None ≡ Some q = sym e ∙ slot_of_live slots keys sibs root t r s y q l i in absurd cc) x (list_at sibs.lists (home_at sibs.homes k)) b.list b.spelt)
        (cases_eq k root)
