-- The values and the places of the tree, in slots.
use Rattle.std.proofs.Common.{◌≡◌, ℕ, zero, suc, ◌+◌, List, [], ◌∷◌, refl, sym, ap, ◌∙◌, subst, length, Bool, true, false, eqb, not, ◌&&◌, ⊎_elim, arith, Option, Some, None, slice_get}
use Rattle.std.specs.Prelude.{option_and_then, nat_lt, is_some, if◌then◌else◌}
use Rattle.std.proofs.lemmas.Bool.{eq-eqb, ne_eqb, eqb-true, cases_Bool, false≢true, or_cases, or_left, or_right}
use Rattle.std.proofs.lemmas.Bool.Decides.{nat_tests}
use Rattle.ir_store_reads.specs.Lists.{Lists, Laws, has, list_at, home_at, free, IsHead, IsItem}
use Rattle.ir_store_reads.specs.trees.declared.value.Value.{Value}
use Rattle.ir_store_reads.specs.trees.declared.value.Value.TheVariants.{Result, Arg}
use Rattle.ir_store_reads.specs.trees.declared.place.Place.{Place}
use Rattle.ir_store_reads.specs.trees.Tree.{Op, op, Regions, no_regions, region, empty, block, Ops, no_ops, next, head, regions}
use Rattle.ir_store_reads.specs.tree_laws.Values.{region_at, arguments_of, arguments_at, type_of_value, has_value}
use Rattle.ir_store_reads.specs.tree_laws.Reads.{ops_in, is_among}
use Rattle.ir_store_reads.specs.tree_laws.Reasons.{is_in_list, has_place}
use Rattle.ir_store_reads.specs.Rows.{Row, RegionShape, row_at, live_slot, head_in}
use Rattle.ir_store_reads.specs.Spells.{SpellsOp, SpellsRegions, SpellsOps}
use Rattle.ir_store_reads.specs.Points.{point_in, before_in, at_slot, stands}
use Rattle.ir_store_reads.specs.Right.{Live, Right}
use Rattle.ir_store_reads.specs.Index.{slot_head, result_head, argument_head, value_head, shape_type, slot_type, type_in}
use Rattle.ir_store_reads.proofs.SlotLaws.{found, found_op, none_found, slot_of_live}
use Rattle.ir_store.proofs.Cut.{head_id, live_of}
use Rattle.ir_store.proofs.Spotted.{item_of}
use Rattle.ir_store_reads.proofs.of_tree_laws.Neighbours.{some_got}

some_test : (b : Bool) (k : ℕ) → is_some (if b then Some k else None) ≡ b
some_test true k = refl
some_test false k = refl

module _ (slots : List Row) (keys : ℕ → Option ℕ) (sibs : Lists) (root : ℕ) (t : Op) (r : Right slots keys sibs root t) (s : SpellsOp slots sibs.lists root t) where
  args_are : (i n : ℕ) (xs : List RegionShape) (rs : Regions) → SpellsRegions slots sibs.lists xs rs → is_some (option_and_then (argument_head slots i) (slice_get xs n)) ≡ is_some (option_and_then (λ args. slice_get args i) (option_and_then arguments_of (region_at n rs)))
  args_are i n [] no_regions z = refl
  args_are i n [] (region g rs) z = absurd z
  args_are i n (a ∷ xs) no_regions z = absurd z
  args_are i zero (None ∷ xs) (region empty rs) z = refl
  args_are i zero (None ∷ xs) (region (block args os) rs) z = absurd z.0
  args_are i zero (Some a ∷ xs) (region empty rs) z = absurd z.0
  args_are i zero (Some a ∷ xs) (region (block args os) rs) z = some_test (nat_lt i (length a.0)) ((row_at slots a.1).values + i) ∙ sym (some_got a.0 i) ∙ ap (λ l. is_some (slice_get l i)) z.0.0
  args_are i (suc n) (a ∷ xs) (region g rs) z = args_are i n xs rs z.1

  -- whether the tree has a value
  pub value_is : (v : Value) → is_some (value_head slots (live_slot slots keys) v) ≡ has_value v t
  value_is (Result x i) = go (live_slot slots keys x) refl
    where
      in_op : (q : ℕ) (o : Op) → SpellsOp slots sibs.lists q o → is_some (result_head i (row_at slots q)) ≡ is_some (slice_get (head o).results i)
      in_op q (op h rs) z = some_test (nat_lt i (length (row_at slots q).head.results)) ((row_at slots q).values + i) ∙ sym (some_got (row_at slots q).head.results i) ∙ ap (λ l. is_some (slice_get l.results i)) z.1.0

      go : (o : Option ℕ) → live_slot slots keys x ≡ o → is_some (option_and_then (slot_head slots (Result x i)) o) ≡ has_value (Result x i) t
      go None e = rw (none_found slots keys sibs root t r s x e) refl
      go (Some q) e = let o = found_op slots keys sibs root t r s x q (found slots keys sibs root t r s x q e) in rw o.1.0 (in_op q o.0 o.1.1)
  value_is (Arg x n i) = go (live_slot slots keys x) refl
    where
      in_op : (q : ℕ) (o : Op) → SpellsOp slots sibs.lists q o → is_some (option_and_then (argument_head slots i) (slice_get (row_at slots q).shapes n)) ≡ is_some (option_and_then (λ args. slice_get args i) (arguments_at n o))
      in_op q (op h rs) z = args_are i n (row_at slots q).shapes rs z.1.1

      go : (o : Option ℕ) → live_slot slots keys x ≡ o → is_some (option_and_then (slot_head slots (Arg x n i)) o) ≡ has_value (Arg x n i) t
      go None e = rw (none_found slots keys sibs root t r s x e) refl
      go (Some q) e = let o = found_op slots keys sibs root t r s x q (found slots keys sibs root t r s x q e) in rw o.1.0 (in_op q o.0 o.1.1)

  arg_types : (i n : ℕ) (xs : List RegionShape) (rs : Regions) → SpellsRegions slots sibs.lists xs rs → option_and_then (shape_type i) (slice_get xs n) ≡ option_and_then (λ args. slice_get args i) (option_and_then arguments_of (region_at n rs))
  arg_types i n [] no_regions z = refl
  arg_types i n [] (region g rs) z = absurd z
  arg_types i n (a ∷ xs) no_regions z = absurd z
  arg_types i zero (None ∷ xs) (region empty rs) z = refl
  arg_types i zero (None ∷ xs) (region (block args os) rs) z = absurd z.0
  arg_types i zero (Some a ∷ xs) (region empty rs) z = absurd z.0
  arg_types i zero (Some a ∷ xs) (region (block args os) rs) z = ap (λ l. slice_get l i) z.0.0
  arg_types i (suc n) (a ∷ xs) (region g rs) z = arg_types i n xs rs z.1

  -- the type of a value
  pub type_is : (v : Value) → type_in slots (live_slot slots keys) v ≡ type_of_value v t
  type_is (Result x i) = go (live_slot slots keys x) refl
    where
      in_op : (q : ℕ) (o : Op) → SpellsOp slots sibs.lists q o → slice_get (row_at slots q).head.results i ≡ slice_get (head o).results i
      in_op q (op h rs) z = ap (λ l. slice_get l.results i) z.1.0

      go : (o : Option ℕ) → live_slot slots keys x ≡ o → option_and_then (slot_type slots (Result x i)) o ≡ type_of_value (Result x i) t
      go None e = rw (none_found slots keys sibs root t r s x e) refl
      go (Some q) e = let o = found_op slots keys sibs root t r s x q (found slots keys sibs root t r s x q e) in rw o.1.0 (in_op q o.0 o.1.1)
  type_is (Arg x n i) = go (live_slot slots keys x) refl
    where
      in_op : (q : ℕ) (o : Op) → SpellsOp slots sibs.lists q o → option_and_then (shape_type i) (slice_get (row_at slots q).shapes n) ≡ option_and_then (λ args. slice_get args i) (arguments_at n o)
      in_op q (op h rs) z = arg_types i n (row_at slots q).shapes rs z.1.1

      go : (o : Option ℕ) → live_slot slots keys x ≡ o → option_and_then (slot_type slots (Arg x n i)) o ≡ type_of_value (Arg x n i) t
      go None e = rw (none_found slots keys sibs root t r s x e) refl
      go (Some q) e = let o = found_op slots keys sibs root t r s x q (found slots keys sibs root t r s x q e) in rw o.1.0 (in_op q o.0 o.1.1)

  -- operations of a list, and their slots
  among_slot : (x : ℕ) (ks : List ℕ) (os : Ops) → SpellsOps slots sibs.lists ks os → is_among x os ≡ true → (q : ℕ) × ((has q ks ≡ true) × (Live slots q × ((row_at slots q).head.id ≡ x)))
  among_slot x ks no_ops z e = absurd (false≢true e)
  among_slot x [] (next o os) z e = absurd z
  among_slot x (k ∷ ks) (next o os) z e = ⊎_elim
      (λ f. (k, (or_left (eqb k k) (has k ks) (eq-eqb k k refl), (live_of slots sibs.lists k o z.0, sym (head_id slots sibs.lists k o z.0) ∙ eqb-true (head o).id x f))))
      (λ f. let w = among_slot x ks os z.1 f in (w.0, (or_right (eqb k w.0) (has w.0 ks) w.1.0, w.1.1)))
      (or_cases (eqb (head o).id x) (is_among x os) e)

  slot_among : (x q : ℕ) (ks : List ℕ) (os : Ops) → SpellsOps slots sibs.lists ks os → has q ks ≡ true → (row_at slots q).head.id ≡ x → is_among x os ≡ true
  slot_among x q [] os z e f = absurd (false≢true e)
  slot_among x q (k ∷ ks) no_ops z e f = absurd z
  slot_among x q (k ∷ ks) (next o os) z e f = ⊎_elim
      (λ g. or_left (eqb (head o).id x) (is_among x os) (eq-eqb (head o).id x (head_id slots sibs.lists k o z.0 ∙ ap (λ y. (row_at slots y).head.id) (eqb-true k q g) ∙ f)))
      (λ g. or_right (eqb (head o).id x) (is_among x os) (slot_among x q ks os z.1 g f))
      (or_cases (eqb k q) (has q ks) e)

  module _ (laws : Laws sibs.lists sibs.homes) where
    stands_true : (h q : ℕ) → IsItem sibs.homes q → home_at sibs.homes q ≡ h → stands sibs.homes h q ≡ true
    stands_true h q i e = rw (ne_eqb (home_at sibs.homes q) free i.linked, eq-eqb (home_at sibs.homes q) h e) refl

    points_of : (h : ℕ) (b : Option ℕ) (os : Ops) → IsHead sibs.homes h → SpellsOps slots sibs.lists (list_at sibs.lists h) os → is_some (before_in slots keys sibs.homes b h) ≡ is_in_list b (Some os)
    points_of h None os p z = refl
    points_of h (Some x) os p z = go (live_slot slots keys x) refl
      where
        slot_here : is_among x os ≡ true → (q : ℕ) × ((live_slot slots keys x ≡ Some q) × (stands sibs.homes h q ≡ true))
        slot_here e =
            let w = among_slot x (list_at sibs.lists h) os z e in
            let m = laws.members h w.0 w.1.0 in
            (w.0, (slot_of_live slots keys sibs root t r s x w.0 w.1.1.0 w.1.1.1, stands_true h w.0 (item_of slots keys sibs root t r s w.0 h w.1.1.0 p m.0) m.0))

        some_q : (a b : ℕ) → Some a ≡ Some b → a ≡ b
        some_q a b e = cc

        test : (q : ℕ) → live_slot slots keys x ≡ Some q → (b : Bool) → stands sibs.homes h q ≡ b → is_some {T = ℕ × Option ℕ} (if b then Some (h, Some q) else None) ≡ is_among x os
        test q e true f =
            let c = halves (not (eqb (home_at sibs.homes q) free)) (eqb (home_at sibs.homes q) h) f in
            let fd = found slots keys sibs root t r s x q e in
            let home = eqb-true (home_at sibs.homes q) h c.1 in
            let it = item_of slots keys sibs root t r s q h fd.live p home in
            sym (slot_among x q (list_at sibs.lists h) os z (subst (λ y. has q (list_at sibs.lists y) ≡ true) home (laws.covers q it)) fd.id)
          where
            halves : (a b : Bool) → (a && b) ≡ true → (a ≡ true) × (b ≡ true)
            halves true b e = (refl, e)
            halves false b e = absurd (false≢true e)
        test q e false f = ⊎_elim
            (λ y. let w = slot_here y in absurd (false≢true (sym f ∙ ap (stands sibs.homes h) (some_q q w.0 (sym e ∙ w.1.0)) ∙ w.1.1)))
            (λ n. sym n)
            (cases_Bool (is_among x os))

        go : (o : Option ℕ) → live_slot slots keys x ≡ o → is_some (option_and_then (at_slot sibs.homes h) o) ≡ is_among x os
        go None e = ⊎_elim
            (λ y. let w = slot_here y in let f : None ≡ Some w.0 = sym e ∙ w.1.0 in absurd cc)
            (λ n. sym n)
            (cases_Bool (is_among x os))
        go (Some q) e = test q e (stands sibs.homes h q) refl

    regions_point : (b : Option ℕ) (n : ℕ) (xs : List RegionShape) (rs : Regions) → ((i : ℕ) (a : List ℕ × ℕ) → slice_get xs i ≡ Some (Some a) → IsHead sibs.homes a.1) → SpellsRegions slots sibs.lists xs rs
        → is_some (option_and_then (λ a. option_and_then (before_in slots keys sibs.homes b) (head_in a)) (slice_get xs n)) ≡ is_in_list b (option_and_then ops_in (region_at n rs))
    regions_point b n [] no_regions f z = refl
    regions_point b n [] (region g rs) f z = absurd z
    regions_point b n (a ∷ xs) no_regions f z = absurd z
    regions_point b zero (None ∷ xs) (region empty rs) f z = refl
    regions_point b zero (None ∷ xs) (region (block args os) rs) f z = absurd z.0
    regions_point b zero (Some a ∷ xs) (region empty rs) f z = absurd z.0
    regions_point b zero (Some a ∷ xs) (region (block args os) rs) f z = points_of a.1 b os (f 0 a refl) z.0.1
    regions_point b (suc n) (a ∷ xs) (region g rs) f z = regions_point b n xs rs (λ i. f (suc i)) z.1

    -- whether the tree has a place
    pub place_is : (place : Place) → is_some (point_in slots keys sibs.homes place) ≡ has_place place t
    place_is place = go (live_slot slots keys place.parent) refl
      where
        in_op : (q : ℕ) → Live slots q → (o : Op) → SpellsOp slots sibs.lists q o → is_some (option_and_then (λ a. option_and_then (before_in slots keys sibs.homes place.before) (head_in a)) (slice_get (row_at slots q).shapes place.region)) ≡ is_in_list place.before (option_and_then ops_in (region_at place.region (regions o)))
        in_op q l (op h rs) z = regions_point place.before place.region (row_at slots q).shapes rs (λ i a e. (r.blocks q i a (r.live_used q l) e).head) z.1.1

        go : (o : Option ℕ) → live_slot slots keys place.parent ≡ o → is_some (option_and_then (λ p. option_and_then (λ a. option_and_then (before_in slots keys sibs.homes place.before) (head_in a)) (slice_get (row_at slots p).shapes place.region)) o) ≡ has_place place t
        go None e = rw (none_found slots keys sibs root t r s place.parent e) refl
        go (Some q) e =
            let fd = found slots keys sibs root t r s place.parent q e in
            let o = found_op slots keys sibs root t r s place.parent q fd in
            rw o.1.0 (in_op q fd.live o.0 o.1.1)
