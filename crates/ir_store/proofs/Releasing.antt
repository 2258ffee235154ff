-- How the slots change when all held operations from an id on are released.
use Rattle.std.proofs.Common.{◌≡◌, ℕ, ◌+◌, ◌<◌, List, [], ◌∷◌, map, refl, sym, ap, ◌∙◌, subst, length, Bool, true, false, not, ◌&&◌, eqb, cond, arith, Option, Some, None, slice_get}
use Rattle.std.specs.Prelude.{option_and_then, option_map, is_some, if◌then◌else◌, nat_lt}
use Rattle.std.specs.Ordering.{nat_cmp, eq_by_cmp}
use Rattle.std.specs.Cmp.{nat_cmp_total}
use Rattle.std.specs.FinMap as finmap
use Rattle.std.proofs.lemmas.Bool.{false≢true}
use Rattle.std.proofs.lemmas.Bool.Decides.{nat_tests}
use Rattle.ir_store_reads.specs.Lists.{Lists, list_at, home_at}
use Rattle.ir_store_reads.specs.trees.declared.value.Value.{Value}
use Rattle.ir_store_reads.specs.trees.declared.value.Value.TheVariants.{Result, Arg}
use Rattle.ir_store_reads.specs.trees.Frames.{owner_of}
use Rattle.ir_store_reads.specs.trees.Tree.{Head, Op, op, Regions, no_regions, region, Region, empty, block, Ops, no_ops, next}
use Rattle.ir_store_reads.specs.trees.Ids.{has_id, op_count, HasDistinctIds}
use Rattle.ir_store.specs.declared.store.Store.TheInside.{Inside}
use Rattle.ir_store_reads.specs.Stored.{Gone, none_gone}
use Rattle.ir_store.specs.Calls.{Releases, gone_left}
use Rattle.ir_store_reads.specs.Releases.{is_given, released, key_left}
use Rattle.ir_store_reads.specs.Rows.{Row, RegionShape, row_at, vacated, held_in, gone_in, bare, if_live}
use Rattle.ir_store_reads.specs.Spells.{SpellsOp, SpellsRegions, SpellsRegion, SpellsOps, Represented, rendered_is}
use Rattle.ir_store.specs.Holds.{HoldsOf, GoneOf, map_is}
use Rattle.ir_store_reads.specs.Right.{Live, Used, Right}
use Rattle.ir_store_reads.specs.Index.{operand_at, cell_at, LinkedTo, argument_head, slot_head, value_head, Index, Celled, Fits, lives, HasOwners, HasIdsBelow, cells_of}
use Rattle.ir_store.proofs.Called.{rows_in, keys_in, stored}
use Rattle.ir_store_reads.specs.Marks.{Marked}
use Rattle.ir_store_reads.proofs.Celled.{celled_same}
use Rattle.ir_store_reads.proofs.SlotLaws.{in_tree_is}
use Rattle.ir_store.proofs.Tally.{live_stays, some_live}
use Rattle.ir_store.proofs.Whole.{Whole}
use Rattle.ir_store_reads.proofs.Items.{some_same}

abbrev result_with : ℕ → Head → ℕ → Option ℕ
result_with i h b = if nat_lt i (length h.results) then Some (b + i) else None

abbrev argument_with : ℕ → ℕ → List ℕ × ℕ → Option ℕ
argument_with b i a = if nat_lt i (length a.0) then Some (b + i) else None

-- the values of a map, each changed by f
pub find_mapped : {X Y : Type 0} (f : X → Y) (q : ℕ) (es : List (ℕ × X)) → finmap.find nat_cmp q (map (λ e. (e.0, f e.1)) es) ≡ option_map f (finmap.find nat_cmp q es)
find_mapped {X} {Y} f q [] = refl
find_mapped {X} {Y} f q (e ∷ es) = here (eq_by_cmp nat_cmp q e.0) (find_mapped f q es)
  where
    here : (b : Bool) → finmap.find nat_cmp q (map (λ e. (e.0, f e.1)) es) ≡ option_map f (finmap.find nat_cmp q es)
        → cond b (Some (f e.1)) (finmap.find nat_cmp q (map (λ e. (e.0, f e.1)) es)) ≡ option_map f (cond b (Some e.1) (finmap.find nat_cmp q es))
    here true g = refl
    here false g = g

pub all_changed : {X Y : Type 0} → (X → Y) → finmap.FinMap nat_cmp X → finmap.FinMap nat_cmp Y
all_changed f m = finmap.from_entries (map (λ e. (e.0, f e.1)) (finmap.entries m))

pub get-changed : {X Y : Type 0} (f : X → Y) (m : finmap.FinMap nat_cmp X) (q : ℕ) → finmap.get (all_changed f m) q ≡ option_map f (finmap.get m q)
unfolding all_changed
get-changed f m q = finmap.get-from_entries nat_cmp_total (map (λ e. (e.0, f e.1)) (finmap.entries m)) q ∙ find_mapped f q (finmap.entries m) ∙ ap (option_map f) (sym (finmap.get-entries m q))

-- a map without the keys that fail a test
pub get-retained : {X : Type 0} (m : finmap.FinMap nat_cmp X) (p : ℕ → Bool) (q : ℕ) → finmap.get (finmap.retain_keys m p) q ≡ cond (p q) (finmap.get m q) None
get-retained m p q = finmap.get-retain_keys m p q (λ x e. ap p (sym (finmap.nat_cmp-IsAntisymmetric q x e)))

both_of : (c d : Bool) → (not c && d) ≡ true → (c ≡ false) × (d ≡ true)
both_of true d e = absurd (false≢true e)
both_of false d e = (refl, e)

-- a field of a row that neither freeing the slot nor dropping its removed keys changes
pub any_field : {A : Type 0} (f : Row → A) (b : Row) → f (vacated b) ≡ f b → f (record b { gone = none_gone }) ≡ f b
    → (c d : Bool) → f (if c then vacated b else (if d then record b { gone = none_gone } else b)) ≡ f b
any_field f b e g true d = e
any_field f b e g false true = g
any_field f b e g false false = refl

used_field : (b : Row) (c d : Bool) → (if c then vacated b else (if d then record b { gone = none_gone } else b)).used ≡ (not c && b.used)
used_field b true d = refl
used_field b false true = refl
used_field b false false = refl

live_given : (u l w : Bool) → l ≡ true → (u && (not l && w)) ≡ false
live_given true true w e = refl
live_given false true w e = refl
live_given u false w e = absurd (false≢true e)

pub live_not_given : (from : ℕ) (b : Row) → b.live ≡ true → is_given from b ≡ false
live_not_given from b e = live_given b.used b.live (not (nat_lt b.head.id from)) e

-- a tree is represented by other rows too, if the live rows have the same heads and shapes
module _ (slots slots' : List Row) (lists : List (List ℕ)) (live : (k : ℕ) → (row_at slots' k).live ≡ (row_at slots k).live) (heads : (k : ℕ) → Live slots k → (row_at slots' k).head ≡ (row_at slots k).head) (shapes : (k : ℕ) → Live slots k → (row_at slots' k).shapes ≡ (row_at slots k).shapes) where
  mutual
    pub still_spells : (k : ℕ) (t : Op) → SpellsOp slots lists k t → SpellsOp slots' lists k t
    still_spells k (op h rs) s =
        let l : Live slots k = record { live = s.0 } in
        (live k ∙ s.0, (heads k l ∙ s.1.0, subst (λ z. SpellsRegions slots' lists z rs) (sym (shapes k l)) (still_regions (row_at slots k).shapes rs s.1.1)))

    still_regions : (xs : List RegionShape) (rs : Regions) → SpellsRegions slots lists xs rs → SpellsRegions slots' lists xs rs
    still_regions [] no_regions s = tt
    still_regions [] (region g rs) s = absurd s
    still_regions (a ∷ xs) no_regions s = absurd s
    still_regions (a ∷ xs) (region g rs) s = (still_region a g s.0, still_regions xs rs s.1)

    still_region : (a : RegionShape) (g : Region) → SpellsRegion slots lists a g → SpellsRegion slots' lists a g
    still_region None empty s = tt
    still_region None (block args os) s = absurd s
    still_region (Some a) empty s = absurd s
    still_region (Some a) (block args os) s = (s.0, still_ops (list_at lists a.1) os s.1)

    still_ops : (ks : List ℕ) (os : Ops) → SpellsOps slots lists ks os → SpellsOps slots' lists ks os
    still_ops [] no_ops s = tt
    still_ops [] (next o os) s = absurd s
    still_ops (k ∷ ks) no_ops s = absurd s
    still_ops (k ∷ ks) (next o os) s = (still_spells k o s.0, still_ops ks os s.1)

module _ (from : ℕ) (slots : List Row) (keys : ℕ → Option ℕ) (sibs : Lists) (root : ℕ) (t : Op) (r : Right slots keys sibs root t) (s : SpellsOp slots sibs.lists root t)
    (slots' : List Row) (long' : length slots' ≡ length slots) (all : (q : ℕ) → row_at slots' q ≡ released from (row_at slots q))
    (keys' : ℕ → Option ℕ) (left : (y : ℕ) → keys' y ≡ key_left from slots (keys y)) where
  kept : {A : Type 0} (f : Row → A) → ((b : Row) → f (vacated b) ≡ f b) → ((b : Row) → f (record b { gone = none_gone }) ≡ f b) → (q : ℕ) → f (row_at slots' q) ≡ f (row_at slots q)
  kept f e g q = let b = row_at slots q in ap f (all q) ∙ any_field f b (e b) (g b) (is_given from b) (b.live && eqb from 0)

  -- a row that isn't freed keeps everything but its removed keys
  kept_in : {A : Type 0} (f : Row → A) → ((b : Row) → f (record b { gone = none_gone }) ≡ f b) → (q : ℕ) → is_given from (row_at slots q) ≡ false → f (row_at slots' q) ≡ f (row_at slots q)
  kept_in f g q n =
      let b = row_at slots q in
      ap f (all q) ∙ ap (λ c. f (if c then vacated b else (if b.live && eqb from 0 then record b { gone = none_gone } else b))) n ∙ test (b.live && eqb from 0) (g b)
    where
      test : (d : Bool) → f (record (row_at slots q) { gone = none_gone }) ≡ f (row_at slots q) → f (if d then record (row_at slots q) { gone = none_gone } else row_at slots q) ≡ f (row_at slots q)
      test true e = e
      test false e = refl

  live_was : (q : ℕ) → Live slots' q → Live slots q
  live_was q l = record { live = sym (kept (λ z. z.live) (λ b. refl) (λ b. refl) q) ∙ l.live }

  left_in : (q : ℕ) → Used slots' q → (is_given from (row_at slots q) ≡ false) × Used slots q
  left_in q u =
      let b = row_at slots q in
      let w = both_of (is_given from b) b.used (sym (used_field b (is_given from b) (b.live && eqb from 0)) ∙ sym (ap (λ z. z.used) (all q)) ∙ u.used) in
      (w.0, record { used = w.1 })

  used_still : (q : ℕ) → is_given from (row_at slots q) ≡ false → Used slots q → Used slots' q
  used_still q n u =
      let b = row_at slots q in
      record { used = ap (λ z. z.used) (all q) ∙ used_field b (is_given from b) (b.live && eqb from 0) ∙ ap (λ c. not c && b.used) n ∙ u.used }

  key_was : (y q : ℕ) → keys' y ≡ Some q → (keys y ≡ Some q) × (is_given from (row_at slots q) ≡ false)
  key_was y q e = go (keys y) refl (sym (left y) ∙ e)
    where
      test : (k : ℕ) (b : Bool) → is_given from (row_at slots k) ≡ b → (if b then None else Some k) ≡ Some q → (◌≡◌ {A = Option ℕ} (Some k) (Some q)) × (is_given from (row_at slots q) ≡ false)
      test k true f g = absurd cc
      test k false f g = (g, subst (λ z. is_given from (row_at slots z) ≡ false) (some_same k q g) f)

      go : (o : Option ℕ) → keys y ≡ o → key_left from slots o ≡ Some q → (keys y ≡ Some q) × (is_given from (row_at slots q) ≡ false)
      go None f g = absurd cc
      go (Some k) f g = let w = test k (is_given from (row_at slots k)) refl g in (f ∙ w.0, w.1)

  key_still : (y q : ℕ) → keys y ≡ Some q → is_given from (row_at slots q) ≡ false → keys' y ≡ Some q
  key_still y q e n = left y ∙ ap (key_left from slots) e ∙ ap {A = Bool} {B = Option ℕ} (λ b. if b then None else Some q) n

  live_key : (y q : ℕ) → keys y ≡ Some q → Live slots q → keys' y ≡ Some q
  live_key y q e l = key_still y q e (live_not_given from (row_at slots q) l.live)

  live_out : (q : ℕ) → Live slots q → is_given from (row_at slots q) ≡ false
  live_out q l = live_not_given from (row_at slots q) l.live

  pub release_spells : SpellsOp slots' sibs.lists root t
  release_spells = still_spells slots slots' sibs.lists (kept (λ z. z.live) (λ b. refl) (λ b. refl)) (λ q l. kept_in (λ z. z.head) (λ b. refl) q (live_out q l)) (λ q l. kept_in (λ z. z.shapes) (λ b. refl) q (live_out q l)) root t s

  shapes_same : (q i : ℕ) → is_given from (row_at slots q) ≡ false → slice_get (row_at slots' q).shapes i ≡ slice_get (row_at slots q).shapes i
  shapes_same q i n = ap (λ z. slice_get z i) (kept_in (λ z. z.shapes) (λ b. refl) q n)

  pub release_right : Right slots' keys' sibs root t
  release_right = record {
    few = r.few;
    long = long' ∙ r.long;
    live_used = λ q l. let w = live_was q l in used_still q (live_not_given from (row_at slots q) w.live) (r.live_used q w);
    keyed = λ q u.
        let w = left_in q u in
        ap keys' (kept (λ z. z.head.id) (λ b. refl) (λ b. refl) q) ∙ key_still (row_at slots q).head.id q (r.keyed q w.1) w.0;
    known = λ y q e.
        let w = key_was y q e in
        let h = r.known y q w.0 in
        record { used = used_still q w.1 h.used; id = kept (λ z. z.head.id) (λ b. refl) (λ b. refl) q ∙ h.id };
    top = r.top;
    blocks = λ q i a u e.
        let old = r.blocks q i a (left_in q u).1 (sym (shapes_same q i (left_in q u).0) ∙ e) in
        record { head = old.head; owner = kept (λ z. z.owner) (λ b. refl) (λ b. refl) a.1 ∙ old.owner; region = kept (λ z. z.region) (λ b. refl) (λ b. refl) a.1 ∙ old.region };
    items = λ q l ne. r.items q (live_was q l) ne;
    held = λ q u e.
        let old = r.held q (left_in q u).1 (sym (kept (λ z. z.live) (λ b. refl) (λ b. refl) q) ∙ e) in
        record { out = old.out; bare = λ i a f. old.bare i a (sym (shapes_same q i (left_in q u).0) ∙ f) };
    covers = λ q l. ap (λ z. has_id z t) (kept (λ z. z.head.id) (λ b. refl) (λ b. refl) q) ∙ r.covers q (live_was q l);
  }

  -- the held operations
  no_none : {X : Type 0} (b : Bool) → ◌≡◌ {A = Option X} (cond b None None) None
  no_none true = refl
  no_none false = refl

  pub release_holds : (m : finmap.FinMap nat_cmp Op) → ((y : ℕ) → finmap.get m y ≡ held_in slots (keys y)) → (y : ℕ) → finmap.get (finmap.retain_keys m (λ x. nat_lt x from)) y ≡ held_in slots' (keys' y)
  release_holds m h y = get-retained m (λ x. nat_lt x from) y ∙ ap (λ o. cond (nat_lt y from) o None) (h y) ∙ go (keys y) refl ∙ ap (held_in slots') (sym (left y))
    where
      test : (k : ℕ) (u l b : Bool) → u ≡ true → cond b (if l then None else Some (bare (row_at slots k))) None ≡ (if u && (not l && not b) then None else (if l then None else Some (bare (row_at slots k))))
      test k true true b e = no_none b
      test k true false true e = refl
      test k true false false e = refl
      test k false l b e = absurd (false≢true e)

      pass : (k : ℕ) (c : Bool) → is_given from (row_at slots k) ≡ c → (if c then None else held_in slots (Some k)) ≡ held_in slots' (if c then None else Some k)
      pass k true n = refl
      pass k false n =
          let e = kept_in bare (λ b. refl) k n in
          let f = kept (λ z. z.live) (λ b. refl) (λ b. refl) k in
          λ i. if sym f i then None else Some (sym e i)

      go : (o : Option ℕ) → keys y ≡ o → cond (nat_lt y from) (held_in slots o) None ≡ held_in slots' (key_left from slots o)
      go None e = no_none (nat_lt y from)
      go (Some k) e =
          let w = r.known y k e in
          let b = row_at slots k in
          test k b.used b.live (nat_lt y from) w.used.used
          ∙ ap (λ z. if b.used && (not b.live && not (nat_lt z from)) then None else held_in slots (Some k)) (sym w.id)
          ∙ pass k (is_given from b) refl

  -- the removed keys
  abbrev pub lack : Gone → Gone
  lack g = if eqb from 0 then none_gone else g

  abbrev pub lacks_left : finmap.FinMap nat_cmp Gone → finmap.FinMap nat_cmp Gone
  lacks_left m = finmap.retain_keys (all_changed lack m) (λ y. is_some (keys' y))

  none_below : (x : ℕ) → eqb from 0 ≡ true → nat_lt x from ≡ false
  none_below x e = grind (arith, nat_tests)

  gone_was : (k : ℕ) → Used slots k → is_given from (row_at slots k) ≡ false → (row_at slots' k).gone ≡ lack (row_at slots k).gone
  gone_was k u n =
      let b = row_at slots k in
      ap (λ z. z.gone) (all k) ∙ ap (λ c. (if c then vacated b else (if b.live && eqb from 0 then record b { gone = none_gone } else b)).gone) n
      ∙ test b.used b.live (eqb from 0) (nat_lt b.head.id from) u.used n (none_below b.head.id)
    where
      test : (u l z b : Bool) → u ≡ true → (u && (not l && not b)) ≡ false → (z ≡ true → b ≡ false)
          → (if l && z then record (row_at slots k) { gone = none_gone } else row_at slots k).gone ≡ (if z then none_gone else (row_at slots k).gone)
      test false l z b e f g = absurd (false≢true e)
      test true true true b e f g = refl
      test true true false b e f g = refl
      test true false true true e f g = absurd (false≢true (sym (g refl)))
      test true false true false e f g = absurd (false≢true (sym f))
      test true false false b e f g = refl

  pub release_gone : (m : finmap.FinMap nat_cmp Gone) → ((y : ℕ) → finmap.get m y ≡ gone_in slots (keys y)) → (y : ℕ) → finmap.get (lacks_left m) y ≡ gone_in slots' (keys' y)
  release_gone m h y = get-retained (all_changed lack m) (λ z. is_some (keys' z)) y ∙ ap (λ o. cond (is_some (keys' y)) o None) (get-changed lack m y ∙ ap (option_map lack) (h y)) ∙ go (keys' y) refl
    where
      go : (o : Option ℕ) → keys' y ≡ o → cond (is_some o) (option_map lack (gone_in slots (keys y))) None ≡ gone_in slots' o
      go None e = refl
      go (Some k) e = let w = key_was y k e in ap (λ z. option_map lack (gone_in slots z)) w.0 ∙ ap Some (sym (gone_was k (r.known y k w.0).used w.1))

  -- the removed keys, as the contract describes them
  pub gone_is : (x : ℕ) → gone_in slots' (keys' x) ≡ (if has_id x t then gone_left from (gone_in slots (keys x)) else (if nat_lt x from then gone_in slots (keys x) else None))
  gone_is x = go (keys x) refl ∙ ap (λ b. if b then gone_left from (gone_in slots (keys x)) else (if nat_lt x from then gone_in slots (keys x) else None)) (in_tree_is slots keys sibs root t r s x)
    where
      nothing : (a b : Bool) → ◌≡◌ {A = Option Gone} None (if a then None else (if b then None else None))
      nothing true b = refl
      nothing false true = refl
      nothing false false = refl

      held_gone : (k : ℕ) → Used slots k → (l b : Bool) → (row_at slots k).live ≡ l → nat_lt (row_at slots k).head.id from ≡ b
          → gone_in slots' (if is_given from (row_at slots k) then None else Some k) ≡ (if l then Some (lack (row_at slots k).gone) else (if b then Some (row_at slots k).gone else None))
      held_gone k u true b f g =
          let n = live_not_given from (row_at slots k) f in
          ap (λ c. gone_in slots' (if c then None else Some k)) n ∙ ap Some (gone_was k u n)
      held_gone k u false false f g = ap (λ c. gone_in slots' (if c then None else Some k)) (λ i. u.used i && (not (f i) && not (g i)))
      held_gone k u false true f g =
          let b = row_at slots k in
          let n : is_given from b ≡ false = λ i. u.used i && (not (f i) && not (g i)) in
          ap (λ c. gone_in slots' (if c then None else Some k)) n
          ∙ ap Some (ap (λ z. z.gone) (all k) ∙ ap (λ c. (if c then vacated b else (if b.live && eqb from 0 then record b { gone = none_gone } else b)).gone) n
          ∙ ap (λ c. (if c && eqb from 0 then record b { gone = none_gone } else b).gone) f)

      go : (o : Option ℕ) → keys x ≡ o → gone_in slots' (keys' x) ≡ (if is_some (if_live slots (keys x)) then gone_left from (gone_in slots (keys x)) else (if nat_lt x from then gone_in slots (keys x) else None))
      go None e = ap (gone_in slots') (left x ∙ ap (key_left from slots) e) ∙ nothing (is_some (if_live slots None)) (nat_lt x from)
          ∙ ap (λ o. if is_some (if_live slots o) then gone_left from (gone_in slots o) else (if nat_lt x from then gone_in slots o else None)) (sym e)
      go (Some k) e =
          let w = r.known x k e in
          let b = row_at slots k in
          ap (gone_in slots') (left x ∙ ap (key_left from slots) e)
          ∙ shown k b.live (nat_lt x from) (held_gone k w.used b.live (nat_lt x from) refl (ap (λ z. nat_lt z from) w.id))
          ∙ ap (λ o. if is_some (if_live slots o) then gone_left from (gone_in slots o) else (if nat_lt x from then gone_in slots o else None)) (sym e)
        where
          shown : (k : ℕ) (l b : Bool) {X : Option Gone} → X ≡ (if l then Some (lack (row_at slots k).gone) else (if b then Some (row_at slots k).gone else None))
              → X ≡ (if is_some (if l then Some k else None) then gone_left from (Some (row_at slots k).gone) else (if b then Some (row_at slots k).gone else None))
          shown k true b e = e
          shown k false b e = e

  -- the heads of values are unchanged
  argument_same : (i : ℕ) (a : RegionShape) → argument_head slots' i a ≡ argument_head slots i a
  argument_same i None = refl
  argument_same i (Some a) = ap (λ z. argument_with z i a) (kept (λ z. z.values) (λ b. refl) (λ b. refl) a.1)

  slot_same : (v : Value) (q : ℕ) → is_given from (row_at slots q) ≡ false → slot_head slots' v q ≡ slot_head slots v q
  slot_same (Result y i) q g = λ j. result_with i (kept_in (λ z. z.head) (λ b. refl) q g j) (kept (λ z. z.values) (λ b. refl) (λ b. refl) q j)
  slot_same (Arg y n i) q g = ap (λ z. option_and_then (argument_head slots' i) z) (shapes_same q n g) ∙ arguments_same (slice_get (row_at slots q).shapes n)
    where
      arguments_same : (o : Option RegionShape) → option_and_then (argument_head slots' i) o ≡ option_and_then (argument_head slots i) o
      arguments_same None = refl
      arguments_same (Some a) = argument_same i a

  head_was : (v : Value) (h : ℕ) → value_head slots' keys' v ≡ Some h → value_head slots keys v ≡ Some h
  head_was v h e = go (keys' (owner_of v).0) refl e
    where
      go : (o : Option ℕ) → keys' (owner_of v).0 ≡ o → option_and_then (slot_head slots' v) o ≡ Some h → value_head slots keys v ≡ Some h
      go None f g = absurd cc
      go (Some q) f g = let w = key_was (owner_of v).0 q f in ap (option_and_then (slot_head slots v)) w.0 ∙ sym (slot_same v q w.1) ∙ g

  head_still : (v : Value) (q : ℕ) → keys (owner_of v).0 ≡ Some q → Live slots q → value_head slots' keys' v ≡ value_head slots keys v
  head_still v q e l = ap (option_and_then (slot_head slots' v)) (live_key (owner_of v).0 q e l) ∙ slot_same v q (live_out q l) ∙ sym (ap (option_and_then (slot_head slots v)) e)

  operand_same : (q j : ℕ) → is_given from (row_at slots q) ≡ false → operand_at slots' q j ≡ operand_at slots q j
  operand_same q j n = ap (λ z. slice_get z.operands j) (kept_in (λ z. z.head) (λ b. refl) q n)

  uses_same : (q : ℕ) → (row_at slots' q).uses ≡ (row_at slots q).uses
  uses_same q = kept (λ z. z.uses) (λ b. refl) (λ b. refl) q

  module _ (homes : List ℕ) (cells : List (ℕ × ℕ)) (ix : Index slots keys homes cells (lives slots)) (owned : HasOwners slots keys) where
    pub release_index : Index slots' keys' homes cells (lives slots')
    release_index = record {
      counted = ix.counted;
      cell = λ q j v u e.
          let old = ix.cell q j v (left_in q u).1 (sym (operand_same q j (left_in q u).0) ∙ e) in
          let at : (row_at slots' q).uses ≡ (row_at slots q).uses = uses_same q in
          record { inside = omega (arith, old.inside, at); cell = ap (λ z. cell_of (z + j)) at ∙ old.cell };
      linked = λ q j v u e o.
          let l = live_was q (record { live = o }) in
          let f = sym (operand_same q j (left_in q u).0) ∙ e in
          let old = ix.linked q j v (left_in q u).1 f l.live in
          let w = some_live slots keys (owner_of v).0 (owned q j v l f) in
          subst (λ z. LinkedTo slots' keys' homes (z + j) v) (sym (uses_same q))
          (record { item = old.item; home = head_still v w.0 w.1.0 w.1.1 ∙ old.home });
      unlinked_home = λ q j v u e o.
          ap (λ z. home_at homes (z + j)) (uses_same q) ∙ ix.unlinked_home q j v (left_in q u).1 (sym (operand_same q j (left_in q u).0) ∙ e) (sym (kept (λ z. z.live) (λ b. refl) (λ b. refl) q) ∙ o);
      users = λ u i.
          let s = ix.users u i in
          let n = live_not_given from (row_at slots s.row) s.put in
          record {
            row = s.row;
            place = s.place;
            value = s.value;
            use_of = record { used = used_still s.row n s.use_of.used; operand = operand_same s.row s.place n ∙ s.use_of.operand; node = ap (λ z. z + s.place) (uses_same s.row) ∙ s.use_of.node };
            put = kept (λ z. z.live) (λ b. refl) (λ b. refl) s.row ∙ s.put;
          };
      heads = λ v h e. ix.heads v h (head_was v h e);
      one = λ v w h e f. ix.one v w h (head_was v h e) (head_was w h f);
    }
      where
        cell_of : ℕ → ℕ × ℕ
        cell_of = cell_at cells

    pub release_owned : HasOwners slots' keys'
    release_owned q j v l e =
        live_stays slots slots' keys keys' (owner_of v).0 (λ p g lp. (live_key (owner_of v).0 p g lp, record { live = kept (λ z. z.live) (λ b. refl) (λ b. refl) p ∙ lp.live }))
        (owned q j v (live_was q l) (sym (operand_same q j (live_out q (live_was q l))) ∙ e))

  pub release_celled : (cells : List (ℕ × ℕ)) → Celled slots cells → Celled slots' cells
  release_celled cells c = celled_same slots slots' cells c (λ q u. (left_in q u).1) (λ q u. kept_in (λ z. z.head.results) (λ b. refl) q (left_in q u).0) (λ q u. kept_in (λ z. z.shapes) (λ b. refl) q (left_in q u).0) (kept (λ z. z.values) (λ b. refl) (λ b. refl))

  pub release_below : (n : ℕ) → HasIdsBelow n slots → HasIdsBelow n slots'
  release_below n b q l = subst (λ z. z < n) (sym (kept (λ z. z.head.id) (λ b. refl) (λ b. refl) q)) (b q (live_was q l))

-- the same, in the form of the call's contract
module _ (a : Inside) (w : Whole a) (from : ℕ) (slots' : List Row) (long : length slots' ≡ length (rows_in a)) (all : (q : ℕ) → row_at slots' q ≡ released from (row_at (rows_in a) q))
    (keys' : ℕ → Option ℕ) (left : (y : ℕ) → keys' y ≡ key_left from (rows_in a) (keys_in a y)) where
  spells : SpellsOp slots' a.sibs.lists a.root a.represented.0
  spells = release_spells from (rows_in a) (keys_in a) a.sibs a.root a.represented.0 w.right a.represented.1 slots' long all keys' left

  holds : (y : ℕ) → finmap.get (finmap.retain_keys a.holds.0 (λ x. nat_lt x from)) y ≡ held_in slots' (keys' y)
  holds = release_holds from (rows_in a) (keys_in a) a.sibs a.root a.represented.0 w.right a.represented.1 slots' long all keys' left a.holds.0 a.holds.1

  abbrev lacked : finmap.FinMap nat_cmp Gone
  lacked = lacks_left from (rows_in a) (keys_in a) a.sibs a.root a.represented.0 w.right a.represented.1 slots' long all keys' left a.lacks.0

  lacks : (y : ℕ) → finmap.get lacked y ≡ gone_in slots' (keys' y)
  lacks = release_gone from (rows_in a) (keys_in a) a.sibs a.root a.represented.0 w.right a.represented.1 slots' long all keys' left a.lacks.0 a.lacks.1

  pub release_given : Represented slots' a.sibs.lists a.root × (HoldsOf slots' keys' × (GoneOf slots' keys' × Unit {0}))
  release_given = ((a.represented.0, spells), ((finmap.retain_keys a.holds.0 (λ x. nat_lt x from), holds), ((lacked, lacks), tt)))

  pub release_fits : (s : Represented slots' a.sibs.lists a.root) (marks : List ℕ) → Marked slots' marks → Fits slots' keys' a.sibs a.root s.0 a.uses.homes (cells_of a.cells.items) a.count a.next marks
  release_fits s marks m =
      let e = rendered_is slots' a.sibs.lists a.root s a.represented.0 spells in
      record {
        right = subst (Right slots' keys' a.sibs a.root) (sym e) (release_right from (rows_in a) (keys_in a) a.sibs a.root a.represented.0 w.right a.represented.1 slots' long all keys' left);
        few = w.few;
        index = release_index from (rows_in a) (keys_in a) a.sibs a.root a.represented.0 w.right a.represented.1 slots' long all keys' left a.uses.homes (cells_of a.cells.items) w.index w.owned;
        distinct = subst HasDistinctIds (sym e) w.distinct;
        counted = w.counted ∙ ap op_count (sym e);
        below = release_below from (rows_in a) (keys_in a) a.sibs a.root a.represented.0 w.right a.represented.1 slots' long all keys' left a.next w.below;
        owned = release_owned from (rows_in a) (keys_in a) a.sibs a.root a.represented.0 w.right a.represented.1 slots' long all keys' left a.uses.homes (cells_of a.cells.items) w.index w.owned;
        marked = m;
        celled = release_celled from (rows_in a) (keys_in a) a.sibs a.root a.represented.0 w.right a.represented.1 slots' long all keys' left (cells_of a.cells.items) w.celled;
      }

  pub release_done : (s : Represented slots' a.sibs.lists a.root) (h : HoldsOf slots' keys') (g : GoneOf slots' keys')
      → Releases from (stored a) (record { module_of = record { tree = s.0; next = a.next }; held = h.0; gone = g.0 })
  release_done s h g =
      let e = rendered_is slots' a.sibs.lists a.root s a.represented.0 spells in
      record {
        module_of = λ i. record { tree = e i; next = a.next };
        held = map_is (λ y. held_in slots' (keys' y)) h (finmap.retain_keys a.holds.0 (λ x. nat_lt x from)) holds;
        gone = λ x. g.1 x ∙ gone_is from (rows_in a) (keys_in a) a.sibs a.root a.represented.0 w.right a.represented.1 slots' long all keys' left x
            ∙ ap (λ o. if has_id x a.represented.0 then gone_left from o else (if nat_lt x from then o else None)) (sym (a.lacks.1 x));
      }
