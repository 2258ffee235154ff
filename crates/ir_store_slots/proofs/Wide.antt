-- Invariants that added slots keep.
use Rattle.std.proofs.Common.{◌≡◌, ℕ, ◌+◌, ◌<◌, List, [], ◌∷◌, refl, sym, ap, ◌∙◌, subst, length, ⊎_elim, inl, inr, arith, Option, Some, None, slice_get}
use Rattle.std.specs.Prelude.{option_and_then, nat_lt, if◌then◌else◌}
use Rattle.std.proofs.lemmas.Bool.{cases_lt, false≢true}
use Rattle.std.proofs.lemmas.List.{get_or_past}
use Rattle.ir_store_lists.specs.Lists.{Lists, IsHead, IsItem, IsFree, list_at, home_at, free}
use Rattle.ir_store_arena.specs.trees.declared.value.Value.{Value}
use Rattle.ir_store_arena.specs.trees.declared.value.Value.TheVariants.{Result, Arg}
use Rattle.ir_store_arena.specs.trees.Frames.{owner_of}
use Rattle.ir_store_arena.specs.trees.Ids.{has_id}
use Rattle.ir_store_arena.specs.trees.Tree.{Op, op, Regions, no_regions, region, Region, empty, block, Ops, no_ops, next}
use Rattle.ir_store_slots.specs.Rows.{Row, RegionShape, row_at, no_row, held_in, gone_in, bare}
use Rattle.ir_store_slots.specs.Spells.{SpellsOp, SpellsRegions, SpellsRegion, SpellsOps}
use Rattle.ir_store_slots.specs.Right.{Live, Used, HoldsId, BlockOf, Right}
use Rattle.ir_store_slots.specs.Index.{operand_at, use_at, argument_head, slot_head, value_head, CellOf, LinkedTo, Index, lives}
use Rattle.ir_store_slots.specs.Grows.{Parts, IsEven, Wider, NewHead, NewUse, NewBlock, AreBlocks}
use Rattle.ir_store_slots.proofs.SlotLaws.{live_inside, used_inside}

-- nothing is added
pub wide_same : (p : Parts) → IsEven p → Wider p p
wide_same p e = record {
  even = e;
  more = omega arith;
  row = λ k l. refl;
  spare = λ k l. record { used = ap (λ z. z.used) (get_or_past p.slots k no_row l); live = ap (λ z. z.live) (get_or_past p.slots k no_row l) };
  lists = λ k. refl;
  home = λ k l. refl;
  uses_more = omega arith;
  use_home = λ u l. refl;
  use_new = λ u l. inl (get_or_past p.homes u free l);
  cell = λ u l. refl;
}

pub wide_then : (p q r : Parts) → Wider p q → Wider q r → Wider p r
wide_then p q r a b = record {
  even = b.even;
  more = omega (arith, a.more, b.more);
  row = λ k l. b.row k (omega (arith, l, a.more)) ∙ a.row k l;
  spare = λ k l. ⊎_elim
      (λ i. let s = a.spare k l in record { used = ap (λ z. z.used) (b.row k i) ∙ s.used; live = ap (λ z. z.live) (b.row k i) ∙ s.live })
      (λ g. b.spare k g)
      (cases_lt k (length q.slots));
  lists = λ k. b.lists k ∙ a.lists k;
  home = λ k l. b.home k (omega (arith, l, a.more)) ∙ a.home k l;
  uses_more = omega (arith, a.uses_more, b.uses_more);
  use_home = λ u l. b.use_home u (omega (arith, l, a.uses_more)) ∙ a.use_home u l;
  use_new = λ u l. ⊎_elim
      (λ i. ⊎_elim (λ e. inl (b.use_home u i ∙ e)) (λ e. inr (b.use_home u i ∙ e)) (a.use_new u l))
      (λ g. b.use_new u g)
      (cases_lt u (length q.homes));
  cell = λ u l. b.cell u (omega (arith, l, a.uses_more)) ∙ a.cell u l;
}

-- new nodes stay new
pub head_stays : (q r : Parts) → Wider q r → (bound n i h : ℕ) → NewHead q bound n i h → NewHead r bound n i h
head_stays q r w bound n i h f = record {
  head = record { inside = omega (arith, f.head.inside, w.uses_more); own = w.use_home h f.head.inside ∙ f.head.own };
  cell = w.cell h f.head.inside ∙ f.cell;
  new = f.new;
}

pub use_stays : (q r : Parts) → Wider q r → (k j u : ℕ) → NewUse q k j u → NewUse r k j u
use_stays q r w k j u f = record { inside = omega (arith, f.inside, w.uses_more); cell = w.cell u f.inside ∙ f.cell; unlinked_home = w.use_home u f.inside ∙ f.unlinked_home }

pub block_stays : (q r : Parts) → IsEven q → Wider q r → (bound k i : ℕ) (a : List ℕ × ℕ) → NewBlock q bound k i a → NewBlock r bound k i a
block_stays q r e w bound k i a f =
    let l : a.1 < length q.slots = omega (arith, f.head.inside, e.long) in
    let same = w.row a.1 l in
    record {
      head = record { inside = omega (arith, l, w.more, w.even.long); own = w.home a.1 l ∙ f.head.own };
      owner = ap (λ z. z.owner) same ∙ f.owner;
      region = ap (λ z. z.region) same ∙ f.region;
      bare = w.lists a.1 ∙ f.bare;
      arguments = λ j m. head_stays q r w bound a.1 j ((row_at r.slots a.1).values + j) (subst (λ z. NewHead q bound a.1 j (z + j)) (sym (ap (λ z. z.values) same)) (f.arguments j m));
    }

pub blocks_stay : (q r : Parts) → IsEven q → Wider q r → (bound k : ℕ) (xs : List RegionShape) → AreBlocks q bound k xs → AreBlocks r bound k xs
blocks_stay q r e w bound k xs f = λ i a g. block_stays q r e w bound k i a (f i a g)

-- a tree is represented by equal rows and lists
module _ (slots slots' : List Row) (lists lists' : List (List ℕ)) (same : (k : ℕ) → Live slots k → row_at slots' k ≡ row_at slots k) (same_list : (h : ℕ) → list_at lists' h ≡ list_at lists h) where
  mutual
    pub same_spells : (k : ℕ) (t : Op) → SpellsOp slots lists k t → SpellsOp slots' lists' k t
    same_spells k (op h rs) s =
        let e = same k (record { live = s.0 }) in
        (ap (λ z. z.live) e ∙ s.0, (ap (λ z. z.head) e ∙ s.1.0, subst (λ z. SpellsRegions slots' lists' z rs) (sym (ap (λ z. z.shapes) e)) (same_regions (row_at slots k).shapes rs s.1.1)))

    same_regions : (xs : List RegionShape) (rs : Regions) → SpellsRegions slots lists xs rs → SpellsRegions slots' lists' xs rs
    same_regions [] no_regions s = tt
    same_regions [] (region g rs) s = absurd s
    same_regions (a ∷ xs) no_regions s = absurd s
    same_regions (a ∷ xs) (region g rs) s = (same_region a g s.0, same_regions xs rs s.1)

    same_region : (a : RegionShape) (g : Region) → SpellsRegion slots lists a g → SpellsRegion slots' lists' a g
    same_region None empty s = tt
    same_region None (block args os) s = absurd s
    same_region (Some a) empty s = absurd s
    same_region (Some a) (block args os) s = (s.0, subst (λ l. SpellsOps slots' lists' l os) (sym (same_list a.1)) (same_ops (list_at lists a.1) os s.1))

    same_ops : (ks : List ℕ) (os : Ops) → SpellsOps slots lists ks os → SpellsOps slots' lists' ks os
    same_ops [] no_ops s = tt
    same_ops [] (next o os) s = absurd s
    same_ops (k ∷ ks) no_ops s = absurd s
    same_ops (k ∷ ks) (next o os) s = (same_spells k o s.0, same_ops ks os s.1)

-- the table maps ids to their slots, and blocks have slots
pub record Keyed (slots : List Row) (keys : ℕ → Option ℕ) (sibs : Lists) : Type 0 where
  pub long : length slots ≡ length sibs.homes
  pub keyed : (k : ℕ) → Used slots k → keys (row_at slots k).head.id ≡ Some k
  pub known : (x k : ℕ) → keys x ≡ Some k → HoldsId slots x k
  pub blocks : (k r : ℕ) (a : List ℕ × ℕ) → Used slots k → slice_get (row_at slots k).shapes r ≡ Some (Some a) → BlockOf slots sibs.homes k r a

pub keyed_of : (slots : List Row) (keys : ℕ → Option ℕ) (sibs : Lists) (root : ℕ) (t : Op) → Right slots keys sibs root t → Keyed slots keys sibs
keyed_of slots keys sibs root t r = record { long = r.long; keyed = r.keyed; known = r.known; blocks = r.blocks }

-- slots are added
module _ (p q : Parts) (w : Wider p q) (keys : ℕ → Option ℕ) (r : Keyed p.slots keys p.sibs) where
  was_used : (k : ℕ) → Used q.slots k → k < length p.slots
  was_used k u = ⊎_elim (λ l. l) (λ g. absurd (false≢true (sym (w.spare k g).used ∙ u.used))) (cases_lt k (length p.slots))

  was_live : (k : ℕ) → Live q.slots k → k < length p.slots
  was_live k u = ⊎_elim (λ l. l) (λ g. absurd (false≢true (sym (w.spare k g).live ∙ u.live))) (cases_lt k (length p.slots))

  used_was : (k : ℕ) → Used q.slots k → Used p.slots k
  used_was k u = record { used = sym (ap (λ z. z.used) (w.row k (was_used k u))) ∙ u.used }

  live_was : (k : ℕ) → Live q.slots k → Live p.slots k
  live_was k u = record { live = sym (ap (λ z. z.live) (w.row k (was_live k u))) ∙ u.live }

  same_used : (k : ℕ) → Used p.slots k → row_at q.slots k ≡ row_at p.slots k
  same_used k u = w.row k (used_inside p.slots k u)

  inside_rows : (k : ℕ) → k < length p.sibs.homes → k < length p.slots
  inside_rows k l = omega (arith, l, r.long)

  head_to : (k : ℕ) → IsHead p.sibs.homes k → IsHead q.sibs.homes k
  head_to k h = record { inside = omega (arith, inside_rows k h.inside, w.more, w.even.long); own = w.home k (inside_rows k h.inside) ∙ h.own }

  free_to : (k : ℕ) → IsFree p.sibs.homes k → IsFree q.sibs.homes k
  free_to k h = record { inside = omega (arith, inside_rows k h.inside, w.more, w.even.long); unlinked = w.home k (inside_rows k h.inside) ∙ h.unlinked }

  item_to : (k : ℕ) → IsItem p.sibs.homes k → IsItem q.sibs.homes k
  item_to k h =
      let e = w.home k (inside_rows k h.inside) in
      record { inside = omega (arith, inside_rows k h.inside, w.more, w.even.long); linked = λ f. h.linked (sym e ∙ f); other = λ f. h.other (sym e ∙ f) }

  pub wide_head : (v : Value) → value_head q.slots keys v ≡ value_head p.slots keys v
  wide_head v = go (keys (owner_of v).0) refl
    where
      arg : (i q' j : ℕ) → Used p.slots q' → (o : Option RegionShape) → slice_get (row_at p.slots q').shapes j ≡ o → option_and_then (argument_head q.slots i) o ≡ option_and_then (argument_head p.slots i) o
      arg i k j u None e = refl
      arg i k j u (Some None) e = refl
      arg i k j u (Some (Some a)) e = ap (λ z. if nat_lt i (length a.0) then Some (z.values + i) else None) (w.row a.1 (inside_rows a.1 (r.blocks k j a u e).head.inside))

      in_slot : (v : Value) (k : ℕ) → Used p.slots k → slot_head q.slots v k ≡ slot_head p.slots v k
      in_slot (Result x i) k u = ap (λ z. if nat_lt i (length z.head.results) then Some (z.values + i) else None) (same_used k u)
      in_slot (Arg x j i) k u = ap (λ z. option_and_then (argument_head q.slots i) (slice_get z.shapes j)) (same_used k u) ∙ arg i k j u (slice_get (row_at p.slots k).shapes j) refl

      go : (o : Option ℕ) → keys (owner_of v).0 ≡ o → option_and_then (slot_head q.slots v) o ≡ option_and_then (slot_head p.slots v) o
      go None e = refl
      go (Some k) e = in_slot v k (r.known (owner_of v).0 k e).used

  module _ (ix : Index p.slots keys p.homes p.cells (lives p.slots)) where
    use_was : (k : ℕ) (u : Used q.slots k) (j : ℕ) (v : Value) → operand_at q.slots k j ≡ Some v → operand_at p.slots k j ≡ Some v
    use_was k u j v e = sym (ap (λ z. slice_get z.head.operands j) (w.row k (was_used k u))) ∙ e

    node_was : (k : ℕ) → Used q.slots k → (j : ℕ) → use_at q.slots k j ≡ use_at p.slots k j
    node_was k u j = ap (λ z. z.uses + j) (w.row k (was_used k u))

    live_is : (k : ℕ) → Used q.slots k → (row_at q.slots k).live ≡ (row_at p.slots k).live
    live_is k u = ap (λ z. z.live) (w.row k (was_used k u))

    use_item : (u : ℕ) → IsItem p.homes u → IsItem q.homes u
    use_item u h =
        let e = w.use_home u h.inside in
        record { inside = omega (arith, h.inside, w.uses_more); linked = λ f. h.linked (sym e ∙ f); other = λ f. h.other (sym e ∙ f) }

    item_was : (u : ℕ) → IsItem q.homes u → IsItem p.homes u
    item_was u h = ⊎_elim
        (λ l. let e = w.use_home u l in record { inside = l; linked = λ f. h.linked (e ∙ f); other = λ f. h.other (e ∙ f) })
        (λ g. ⊎_elim (λ e. absurd (h.linked e)) (λ e. absurd (h.other e)) (w.use_new u g))
        (cases_lt u (length p.homes))

    use_head : (u : ℕ) → IsHead p.homes u → IsHead q.homes u
    use_head u h = record { inside = omega (arith, h.inside, w.uses_more); own = w.use_home u h.inside ∙ h.own }

    pub wide_index : Index q.slots keys q.homes q.cells (lives q.slots)
    wide_index = record {
      counted = w.even.counted;
      cell = λ k j v u e.
          let c = ix.cell k j v (used_was k u) (use_was k u j v e) in
          subst (λ z. CellOf q.homes q.cells z k j) (sym (node_was k u j)) (record { inside = omega (arith, c.inside, w.uses_more); cell = w.cell (use_at p.slots k j) c.inside ∙ c.cell });
      linked = λ k j v u e o.
          let l = ix.linked k j v (used_was k u) (use_was k u j v e) (sym (live_is k u) ∙ o) in
          subst (λ z. LinkedTo q.slots keys q.homes z v) (sym (node_was k u j))
          (record { item = use_item (use_at p.slots k j) l.item; home = wide_head v ∙ l.home ∙ ap Some (sym (w.use_home (use_at p.slots k j) l.item.inside)) });
      unlinked_home = λ k j v u e o.
          let c = ix.cell k j v (used_was k u) (use_was k u j v e) in
          ap (home_at q.homes) (node_was k u j) ∙ w.use_home (use_at p.slots k j) c.inside ∙ ix.unlinked_home k j v (used_was k u) (use_was k u j v e) (sym (live_is k u) ∙ o);
      users = λ u it.
          let st = ix.users u (item_was u it) in
          let same = same_used st.row st.use_of.used in
          record {
            row = st.row;
            place = st.place;
            value = st.value;
            use_of = record {
              used = record { used = ap (λ z. z.used) same ∙ st.use_of.used.used };
              operand = ap (λ z. slice_get z.head.operands st.place) same ∙ st.use_of.operand;
              node = ap (λ z. z.uses + st.place) same ∙ st.use_of.node;
            };
            put = ap (λ z. z.live) same ∙ st.put;
          };
      heads = λ v h e. use_head h (ix.heads v h (sym (wide_head v) ∙ e));
      one = λ v u h e f. ix.one v u h (sym (wide_head v) ∙ e) (sym (wide_head u) ∙ f);
    }

    -- the heads of values are unchanged
    pub wide_bound : (v : Value) (h : ℕ) → value_head q.slots keys v ≡ Some h → h < length p.homes
    wide_bound v h e = (ix.heads v h (sym (wide_head v) ∙ e)).inside

module _ (p q : Parts) (w : Wider p q) (keys : ℕ → Option ℕ) (root : ℕ) (t : Op) (r : Right p.slots keys p.sibs root t) where
  kd : Keyed p.slots keys p.sibs
  kd = keyed_of p.slots keys p.sibs root t r

  pub wide_spells : (s : SpellsOp p.slots p.sibs.lists root t) → SpellsOp q.slots q.sibs.lists root t
  wide_spells s = same_spells p.slots q.slots p.sibs.lists q.sibs.lists (λ k l. w.row k (live_inside p.slots k l)) w.lists root t s

  pub wide_right : (few : length q.sibs.homes < free) → Right q.slots keys q.sibs root t
  wide_right few = record {
    few = few;
    long = w.even.long;
    live_used = λ k l. let u = r.live_used k (live_was p q w keys kd k l) in record { used = ap (λ z. z.used) (w.row k (was_live p q w keys kd k l)) ∙ u.used };
    keyed = λ k u. ap (λ z. keys z.head.id) (w.row k (was_used p q w keys kd k u)) ∙ r.keyed k (used_was p q w keys kd k u);
    known = λ x k e.
        let h = r.known x k e in
        let f = same_used p q w keys kd k h.used in
        record { used = record { used = ap (λ z. z.used) f ∙ h.used.used }; id = ap (λ z. z.head.id) f ∙ h.id };
    top = free_to p q w keys kd root r.top;
    blocks = λ k i a u e.
        let v = used_was p q w keys kd k u in
        let b = r.blocks k i a v (sym (ap (λ z. slice_get z.shapes i) (w.row k (was_used p q w keys kd k u))) ∙ e) in
        let f = w.row a.1 (inside_rows p q w keys kd a.1 b.head.inside) in
        record { head = head_to p q w keys kd a.1 b.head; owner = ap (λ z. z.owner) f ∙ b.owner; region = ap (λ z. z.region) f ∙ b.region };
    items = λ k l ne.
        let o = r.items k (live_was p q w keys kd k l) ne in
        record { item = item_to p q w keys kd k o.item; head = subst (IsHead q.sibs.homes) (sym (w.home k (was_live p q w keys kd k l))) (head_to p q w keys kd (home_at p.sibs.homes k) o.head) };
    held = λ k u e.
        let f = w.row k (was_used p q w keys kd k u) in
        let h = r.held k (used_was p q w keys kd k u) (sym (ap (λ z. z.live) f) ∙ e) in
        record { out = free_to p q w keys kd k h.out; bare = λ i a g. w.lists a.1 ∙ h.bare i a (sym (ap (λ z. slice_get z.shapes i) f) ∙ g) };
    covers = λ k l. ap (λ z. has_id z.head.id t) (w.row k (was_live p q w keys kd k l)) ∙ r.covers k (live_was p q w keys kd k l);
  }

  pub wide_holds : (y : ℕ) → held_in p.slots (keys y) ≡ held_in q.slots (keys y)
  wide_holds y = go (keys y) refl
    where
      go : (o : Option ℕ) → keys y ≡ o → held_in p.slots o ≡ held_in q.slots o
      go None e = refl
      go (Some k) e = ap (λ z. if z.live then None else Some (bare z)) (sym (same_used p q w keys kd k (r.known y k e).used))

  pub wide_gone : (y : ℕ) → gone_in p.slots (keys y) ≡ gone_in q.slots (keys y)
  wide_gone y = go (keys y) refl
    where
      go : (o : Option ℕ) → keys y ≡ o → gone_in p.slots o ≡ gone_in q.slots o
      go None e = refl
      go (Some k) e = ap (λ z. Some z.gone) (sym (same_used p q w keys kd k (r.known y k e).used))
