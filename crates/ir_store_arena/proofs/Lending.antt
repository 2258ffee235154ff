-- A part of the data under one key was changed: the new contents, and all other contents unchanged.
use Rattle.std.proofs.Common.{◌≡◌, ℕ, Option, Some, None, is_some, option_map, true, refl, sym, ap, ◌∙◌, subst}
use Rattle.std.proofs.lemmas.Bool.{false≢true}
use Rattle.slab.specs.Slab.{Slab, get}
use Rattle.slab.proofs.SlabLemmas.{Updates-with_value}
use Rattle.ir_store_arena.specs.trees.declared.place.Part.{Part}
use Rattle.ir_store_arena.specs.trees.declared.place.Part.TheVariants.{Props, Attrs}
use Rattle.ir_store_arena.specs.declared.op_data.Entries.{Entries}
use Rattle.ir_store_arena.specs.declared.op_data.WithEntries.{WithEntries}
use Rattle.ir_store_arena.specs.declared.op_data.FullData.{FullData}
use Rattle.ir_store_arena.specs.Slots.{Slots}
use Rattle.ir_store_arena.specs.Contents.{Contents, dictionary_in, with_dictionary, entries_at, with_part}
use Rattle.ir_store_arena.specs.Made.{entered_contents, whole_contents}
use Rattle.ir_store_arena.specs.declared.slot_kind.SlotKind.{SlotKind}
use Rattle.ir_store_arena.specs.declared.slot_kind.SlotKind.TheVariants.{Free, BlockHead as Leading, InlineOp, ListOp, OpWithEntries, FullOp}
use Rattle.ir_store_arena.specs.declared.op_arena.OpArena.{OpArena}
use Rattle.ir_store_arena.specs.Registry.{found, or_none, contents_at, entries_found, Swaps}
use Rattle.ir_store_arena.specs.Lending.{changed_from, changed_at, keyed_by, full_by, enter_at}

-- one key of a slab
module _ {X : Type 0} (tells : X → Contents) (f : X → X) (g : Contents → Contents) (alike : (it : X) → tells (f it) ≡ g (tells it)) (s : Slab X) (k : ℕ) where
  own_reported : is_some (get s k) ≡ true → option_map tells (get (changed_at f s k) k) ≡ Some (g (or_none (option_map tells (get s k))))
  own_reported there = go (get s k) refl there
    where
      go : (o : Option X) → get s k ≡ o → is_some o ≡ true → option_map tells (get (changed_from f s k o) k) ≡ Some (g (or_none (option_map tells o)))
      go None e l = absurd (false≢true l)
      go (Some it) e l = ap (option_map tells) (Updates-with_value s k (f it) (ap is_some e)).changed ∙ ap Some (alike it)

  other_reported : (q : ℕ) → (q ≡ k → ⊥) → option_map tells (get (changed_at f s k) q) ≡ option_map tells (get s q)
  other_reported q ne = go (get s k) refl
    where
      go : (o : Option X) → get s k ≡ o → option_map tells (get (changed_from f s k o) q) ≡ option_map tells (get s q)
      go None e = refl
      go (Some it) e = ap (option_map tells) ((Updates-with_value s k (f it) (ap is_some e)).others q ne)

-- only the data of one slot is changed
swaps_own : (s t : OpArena) (h : SlotKind) (c : Contents) → found t h ≡ Some c → ((q : SlotKind) → (q ≡ h → ⊥) → found t q ≡ found s q) → Swaps s t h h c
swaps_own s t h c own same = record {
  own = own;
  others = λ q key there ne. (same q ne, ne);
  kept = λ q key there ne. (ne, sym (ap is_some (same q ne)) ∙ there);
}

entered_apart : (s : OpArena) (k : ℕ) (u : Slab WithEntries) → ((q : ℕ) → (q ≡ k → ⊥) → option_map entered_contents (get u q) ≡ option_map entered_contents (get s.entered q)) → (q : SlotKind) → (q ≡ OpWithEntries k → ⊥) → found (record s { entered = u }) q ≡ found s q
entered_apart s k u same (Free n) ne = refl
entered_apart s k u same (Leading owner number) ne = refl
entered_apart s k u same (InlineOp j) ne = refl
entered_apart s k u same (ListOp j) ne = refl
entered_apart s k u same (OpWithEntries j) ne = same j (λ z. ne (ap OpWithEntries z))
entered_apart s k u same (FullOp j) ne = refl

whole_apart : (s : OpArena) (k : ℕ) (u : Slab FullData) → ((q : ℕ) → (q ≡ k → ⊥) → option_map whole_contents (get u q) ≡ option_map whole_contents (get s.whole q)) → (q : SlotKind) → (q ≡ FullOp k → ⊥) → found (record s { whole = u }) q ≡ found s q
whole_apart s k u same (Free n) ne = refl
whole_apart s k u same (Leading owner number) ne = refl
whole_apart s k u same (InlineOp j) ne = refl
whole_apart s k u same (ListOp j) ne = refl
whole_apart s k u same (OpWithEntries j) ne = refl
whole_apart s k u same (FullOp j) ne = same j (λ z. ne (ap FullOp z))

-- dictionaries
abbrev with_both : Entries → Contents → Contents
with_both w c = record c { properties = w.props; attributes = w.attrs }

abbrev both_of : Contents → Entries
both_of c = record { props = c.properties; attrs = c.attributes }

abbrev entries_or : Entries → Option Entries → Entries
entries_or d None = d
entries_or d (Some e) = e

module _ {X : Type 0} (tells : X → Contents) (its : X → Entries) (reported : (it : X) → its it ≡ both_of (tells it)) (e : Entries) where
  entries_there : (o : Option X) → option_map its o ≡ Some e → is_some o ≡ true
  entries_there None is = absurd (false≢true (ap is_some is))
  entries_there (Some it) is = refl

  entries_reported : (o : Option X) → option_map its o ≡ Some e → e ≡ both_of (or_none (option_map tells o))
  entries_reported None is = absurd (false≢true (ap is_some is))
  entries_reported (Some it) is = sym (ap (entries_or e) is) ∙ reported it

-- the dictionaries are those of the contents
entries_are : (s : OpArena) (h : SlotKind) (e : Entries) → entries_found s h ≡ Some e → e ≡ both_of (contents_at s h)
entries_are s (Free n) e is = absurd (false≢true (ap is_some is))
entries_are s (Leading owner number) e is = absurd (false≢true (ap is_some is))
entries_are s (InlineOp k) e is = absurd (false≢true (ap is_some is))
entries_are s (ListOp k) e is = absurd (false≢true (ap is_some is))
entries_are s (OpWithEntries k) e is = entries_reported entered_contents (λ (it : WithEntries). it.entries) (λ it. refl) e (get s.entered k) is
entries_are s (FullOp k) e is = entries_reported whole_contents (λ (it : FullData). it.entries) (λ it. refl) e (get s.whole k) is

-- the dictionaries were changed
entries_put : (s : OpArena) (h : SlotKind) (e w : Entries) → entries_found s h ≡ Some e → Swaps s (enter_at s h w) h h (with_both w (contents_at s h))
entries_put s (Free n) e w is = absurd (false≢true (ap is_some is))
entries_put s (Leading owner number) e w is = absurd (false≢true (ap is_some is))
entries_put s (InlineOp k) e w is = absurd (false≢true (ap is_some is))
entries_put s (ListOp k) e w is = absurd (false≢true (ap is_some is))
entries_put s (OpWithEntries k) e w is =
    swaps_own s (enter_at s (OpWithEntries k) w) (OpWithEntries k) (with_both w (contents_at s (OpWithEntries k)))
    (own_reported entered_contents (keyed_by w) (with_both w) (λ it. refl) s.entered k (entries_there entered_contents (λ (it : WithEntries). it.entries) (λ it. refl) e (get s.entered k) is))
    (entered_apart s k (changed_at (keyed_by w) s.entered k) (other_reported entered_contents (keyed_by w) (with_both w) (λ it. refl) s.entered k))
entries_put s (FullOp k) e w is =
    swaps_own s (enter_at s (FullOp k) w) (FullOp k) (with_both w (contents_at s (FullOp k)))
    (own_reported whole_contents (full_by w) (with_both w) (λ it. refl) s.whole k (entries_there whole_contents (λ (it : FullData). it.entries) (λ it. refl) e (get s.whole k) is))
    (whole_apart s k (changed_at (full_by w) s.whole k) (other_reported whole_contents (full_by w) (with_both w) (λ it. refl) s.whole k))

part_of_both : (part : Part) (c : Contents) → entries_at part (both_of c) ≡ dictionary_in part c
part_of_both Props c = refl
part_of_both Attrs c = refl

with_part_of_both : (part : Part) (x : Slots) (c : Contents) → with_both (with_part part x (both_of c)) c ≡ with_dictionary part x c
with_part_of_both Props x c = refl
with_part_of_both Attrs x c = refl

-- one of the dictionaries
part_is : (s : OpArena) (h : SlotKind) (e : Entries) (part : Part) → entries_found s h ≡ Some e → entries_at part e ≡ dictionary_in part (contents_at s h)
part_is s h e part is = ap (entries_at part) (entries_are s h e is) ∙ part_of_both part (contents_at s h)

pub part_put : (s : OpArena) (h : SlotKind) (e : Entries) (part : Part) (f : Slots → Slots) → entries_found s h ≡ Some e
    → Swaps s (enter_at s h (with_part part (f (entries_at part e)) e)) h h (with_dictionary part (f (dictionary_in part (contents_at s h))) (contents_at s h))
part_put s h e part f is =
    let c = contents_at s h in
    subst (Swaps s (enter_at s h (with_part part (f (entries_at part e)) e)) h h)
    ((λ i. with_both (with_part part (f (part_is s h e part is i)) (entries_are s h e is i)) c) ∙ with_part_of_both part (f (dictionary_in part c)) c)
    (entries_put s h e (with_part part (f (entries_at part e)) e) is)
