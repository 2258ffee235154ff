-- Rows keep their contents while the data under other keys changes.
use Rattle.std.proofs.Common.{◌≡◌, ◌⊎◌, inl, inr, ℕ, zero, suc, ◌<◌, ◌≤◌, ◌++◌, List, [], ◌∷◌, map, set, get_or, refl, sym, ap, ◌∙◌, subst, length, Bool, true, false, ⊎_elim, arith, Option, Some, None, is_some, option_map}
use Rattle.std.specs.Prelude.{Result, Ok, Err, MatchResult, OnOk, OnErr}
use Rattle.std.proofs.lemmas.Bool.{cases_eq, cases_lt, cases_Bool, false≢true}
use Rattle.std.proofs.lemmas.List.{get_or-map, get_or_past, get_or-set_same, get_or-set_other, set-get_or, length-map, map-set, map-append}
use Rattle.ir_store_arena.specs.trees.declared.place.Part.{Part}
use Rattle.ir_store_arena.specs.trees.declared.place.Part.TheVariants.{Props, Attrs}
use Rattle.ir_store_arena.specs.Slots.{with_change}
use Rattle.ir_store_arena.specs.declared.slot_kind.SlotKind.{SlotKind}
use Rattle.ir_store_arena.specs.declared.slot_kind.SlotKind.TheVariants.{Free, BlockHead as Leading, InlineOp, ListOp, OpWithEntries, FullOp}
use Rattle.ir_store_arena.specs.declared.slot_kind.Slot.{Slot as Kept}
use Rattle.ir_store_arena.specs.declared.op_data.InlineData.{InlineData}
use Rattle.ir_store_arena.specs.declared.op_data.ListData.{ListData}
use Rattle.ir_store_arena.specs.declared.op_data.WithEntries.{WithEntries}
use Rattle.ir_store_arena.specs.declared.op_data.FullData.{FullData}
use Rattle.ir_store_arena.specs.declared.op_arena.OpArena.{OpArena}
use Rattle.slab.specs.Slab.{Slab, get}
use Rattle.ir_store_arena.specs.Contents.{Contents, no_contents, dictionary_in, with_dictionary}
use Rattle.ir_store_arena.specs.Gone.{none_gone}
use Rattle.ir_store_arena.specs.Made.{short_contents, plain_contents, entered_contents, whole_contents}
use Rattle.ir_store_arena.specs.Registry.{found, or_none, contents_at, is_key, keyless_contents, vacated_held, respared, Adds, Takes, Swaps}
use Rattle.ir_store_arena.specs.Rows.{Row, no_row, no_head, row_like, vacated, row_with, row_in, rows_in, row_at, held_at, IsSound, row_with_entry, slots_in}

-- a slot without a key has the same contents in all slabs
pub keyless : (s t : OpArena) (h : SlotKind) → is_key h ≡ false → found t h ≡ found s h
keyless s t (Free n) e = refl
keyless s t (Leading o r) e = refl
keyless s t (InlineOp k) e = absurd (false≢true (sym e))
keyless s t (ListOp k) e = absurd (false≢true (sym e))
keyless s t (OpWithEntries k) e = absurd (false≢true (sym e))
keyless s t (FullOp k) e = absurd (false≢true (sym e))

-- two mappings of a list agree except at index k
pub map_but : {X Y : Type 0} (f g : X → Y) (d : X) (xs : List X) (k : ℕ) (x : X) (y : Y) → g x ≡ y
    → ((q : ℕ) → q < length xs → (q ≡ k → ⊥) → g (get_or xs q d) ≡ f (get_or xs q d)) → map g (set xs k x) ≡ set (map f xs) k y
map_but {X} {Y} f g d [] k x y e same = refl
map_but {X} {Y} f g d (a ∷ xs) zero x y e same = λ i. e i ∷ all xs (λ q l. same (suc q) (omega (arith, l)) (λ z. absurd (omega (arith, z)))) i
  where
    all : (ys : List X) → ((q : ℕ) → q < length ys → g (get_or ys q d) ≡ f (get_or ys q d)) → map g ys ≡ map f ys
    all [] h = refl
    all (b ∷ ys) h = λ i. h zero (omega arith) i ∷ all ys (λ q l. h (suc q) (omega (arith, l))) i
map_but {X} {Y} f g d (a ∷ xs) (suc k) x y e same =
    λ i. same zero (omega arith) (λ z. absurd (omega (arith, z))) i ∷ map_but f g d xs k x y e (λ q l ne. same (suc q) (omega (arith, l)) (λ z. ne (omega (arith, z)))) i

held_in : (slots : List Kept) (q : ℕ) (d : Kept) → q < length slots → held_at slots q ≡ (get_or slots q d).held
held_in slots q d l = get_or-map (λ n. n.held) slots q d (Free 0) l

-- the key of the written row, and the keys of the others
pub held_own : (slots : List Kept) (k : ℕ) (n : Kept) → k < length slots → held_at (set slots k n) k ≡ n.held
held_own slots k n l = ap (λ z. get_or z k (Free 0)) (map-set (λ m. m.held) slots k n) ∙ get_or-set_same (map (λ m. m.held) slots) k n.held (Free 0) (omega (arith, l, length-map slots (λ m. m.held)))

pub held_other : (slots : List Kept) (k : ℕ) (n : Kept) (q : ℕ) → (q ≡ k → ⊥) → held_at (set slots k n) q ≡ held_at slots q
held_other slots k n q ne = ap (λ z. get_or z q (Free 0)) (map-set (λ m. m.held) slots k n) ∙ get_or-set_other (map (λ m. m.held) slots) k q n.held (Free 0) ne

-- a row is read
pub read_row : (s : OpArena) (slots : List Kept) (k : ℕ) (n : Kept) → k < length slots → n ≡ get_or slots k n → row_at (rows_in s slots) k ≡ row_in s n
read_row s slots k n l e = get_or-map (row_in s) slots k n no_row l ∙ ap (row_in s) (sym e)

-- whether two keys are equal
abbrev kind_of : SlotKind → ℕ
kind_of (Free n) = 0
kind_of (Leading o r) = 0
kind_of (InlineOp k) = 1
kind_of (ListOp k) = 2
kind_of (OpWithEntries k) = 3
kind_of (FullOp k) = 4

abbrev key_of : SlotKind → ℕ
key_of (Free n) = n
key_of (Leading o r) = o
key_of (InlineOp k) = k
key_of (ListOp k) = k
key_of (OpWithEntries k) = k
key_of (FullOp k) = k

abbrev of_kind : ℕ → ℕ → SlotKind
of_kind zero k = Free k
of_kind (suc zero) k = InlineOp k
of_kind (suc (suc zero)) k = ListOp k
of_kind (suc (suc (suc zero))) k = OpWithEntries k
of_kind (suc (suc (suc (suc n)))) k = FullOp k

back : (h : SlotKind) → is_key h ≡ true → of_kind (kind_of h) (key_of h) ≡ h
back (Free n) e = absurd (false≢true e)
back (Leading o r) e = absurd (false≢true e)
back (InlineOp k) e = refl
back (ListOp k) e = refl
back (OpWithEntries k) e = refl
back (FullOp k) e = refl

pub held_cases : (q h : SlotKind) → is_key q ≡ true → (q ≡ h) ⊎ (q ≡ h → ⊥)
held_cases q h e = go (is_key h) refl
  where
    go : (b : Bool) → is_key h ≡ b → (q ≡ h) ⊎ (q ≡ h → ⊥)
    go false f = inr (λ z. false≢true (sym f ∙ sym (ap is_key z) ∙ e))
    go true f = ⊎_elim
        (λ a. ⊎_elim
        (λ b. inl (sym (back q e) ∙ (λ i. of_kind (a i) (b i)) ∙ back h f))
        (λ b. inr (λ z. b (ap key_of z)))
        (cases_eq (key_of q) (key_of h)))
        (λ a. inr (λ z. a (ap kind_of z)))
        (cases_eq (kind_of q) (kind_of h))

-- row k has another key now
module _ (s t : OpArena) (slots : List Kept) (sound : IsSound s slots) (k : ℕ) (inside : k < length slots) (n : Kept) (c : Contents) (w : Swaps s t (held_at slots k) n.held c) where
  stays : (q : ℕ) → (q ≡ k → ⊥) → found t (held_at slots q) ≡ found s (held_at slots q)
  stays q ne = go (is_key (held_at slots q)) refl
    where
      go : (b : Bool) → is_key (held_at slots q) ≡ b → found t (held_at slots q) ≡ found s (held_at slots q)
      go true e = (w.others (held_at slots q) e (sound.stands q) (λ z. ne (sound.apart q k e z))).0
      go false e = keyless s t (held_at slots q) e

  -- no other row has the key
  alone : (q : ℕ) → (q ≡ k → ⊥) → is_key n.held ≡ true → held_at slots q ≡ n.held → ⊥
  alone q ne e z =
      let key : is_key (held_at slots q) ≡ true = ap is_key z ∙ e in
      (w.others (held_at slots q) key (sound.stands q) (λ y. ne (sound.apart q k key y))).1 z

  pub swap_sound : IsSound t (set slots k n)
  swap_sound = record {
    stands = λ q. ⊎_elim
        (λ z. ap (λ y. is_some (found t (held_at (set slots k n) y))) z ∙ ap (λ h. is_some (found t h)) (held_own slots k n inside) ∙ ap is_some w.own)
        (λ z. ap (λ h. is_some (found t h)) (held_other slots k n q z) ∙ ap is_some (stays q z) ∙ sound.stands q)
        (cases_eq q k);
    apart = λ j q e z. ⊎_elim
        (λ a. ⊎_elim
        (λ b. a ∙ sym b)
        (λ b.
        let own : held_at (set slots k n) j ≡ n.held = ap (held_at (set slots k n)) a ∙ held_own slots k n inside in
        absurd (alone q b (sym (ap is_key own) ∙ e) (sym (held_other slots k n q b) ∙ sym z ∙ own)))
        (cases_eq q k))
        (λ a. ⊎_elim
        (λ b.
        let own : held_at (set slots k n) q ≡ n.held = ap (held_at (set slots k n)) b ∙ held_own slots k n inside in
        absurd (alone j a (sym (ap is_key (z ∙ own)) ∙ e) (sym (held_other slots k n j a) ∙ z ∙ own)))
        (λ b. sound.apart j q (sym (ap is_key (held_other slots k n j a)) ∙ e) (sym (held_other slots k n j a) ∙ z ∙ held_other slots k n q b))
        (cases_eq q k))
        (cases_eq j k);
    owned = λ q e f. ⊎_elim
        (λ z. (k, held_own slots k n inside ∙ sym z))
        (λ z.
        let a = w.kept q e f z in
        let o = sound.owned q e a.1 in
        (o.0, held_other slots k n o.0 (λ y. a.0 (sym o.1 ∙ ap (held_at slots) y)) ∙ o.1))
        (held_cases q n.held e);
  }

  pub swap_rows : rows_in t (set slots k n) ≡ set (rows_in s slots) k (row_with n c)
  swap_rows = map_but (row_in s) (row_in t) n slots k n (row_with n c) (ap (λ o. row_with n (or_none o)) w.own)
      (λ q l ne. ap (λ o. row_with (get_or slots q n) (or_none o)) (ap (found t) (sym (held_in slots q n l)) ∙ stays q ne ∙ ap (found s) (held_in slots q n l)))

none_some : (o : Option Contents) → o ≡ None → is_some o ≡ true → ⊥
none_some o e f = false≢true (sym (ap is_some e) ∙ f)

-- a new key replaces an old one, which becomes vacant
pub add_take : (s t u : OpArena) (g h : SlotKind) (c : Contents) → is_some (found s g) ≡ true → Adds s t h c → Takes t u g → Swaps s u g h c
add_take s t u g h c there a k = record {
  own = k.others h (λ e. apart e) ∙ a.own;
  others = λ q e f ne. (k.others q ne ∙ (a.others q e f).0, (a.others q e f).1);
  kept = λ q e f ne.
      let b : q ≡ g → ⊥ = λ z. none_some (found u q) (ap (found u) z ∙ k.vacant (sym (ap is_key z) ∙ e)) f in
      (b, a.kept q e (ap is_some (sym (k.others q b)) ∙ f) ne);
}
  where
    apart : h ≡ g → ⊥
    apart e = (a.others g (ap is_key (sym e) ∙ a.key) there).1 (sym e)

-- the data of a row is unchanged
pub swaps_none : (s : OpArena) (h : SlotKind) → is_some (found s h) ≡ true → Swaps s s h h (contents_at s h)
swaps_none s h e = record {
  own = reported (found s h) e;
  others = λ q k f ne. (refl, ne);
  kept = λ q k f ne. (ne, f);
}
  where
    reported : (o : Option Contents) → is_some o ≡ true → o ≡ Some (or_none o)
    reported None z = absurd (false≢true z)
    reported (Some c) z = refl

-- the data of a row is removed
pub give_swaps : (s t : OpArena) (g : SlotKind) (n : ℕ) → Takes s t g → Swaps s t g (vacated_held n g) (keyless_contents g)
give_swaps s t g n w = record {
  own = reported g;
  others = λ q e f ne. (w.others q ne, λ z. false≢true (sym (keyless_held g) ∙ ap is_key (sym z) ∙ e));
  kept = λ q e f ne.
      let b : q ≡ g → ⊥ = λ z. none_some (found t q) (ap (found t) z ∙ w.vacant (sym (ap is_key z) ∙ e)) f in
      (b, ap is_some (sym (w.others q b)) ∙ f);
}
  where
    reported : (h : SlotKind) → found t (vacated_held n h) ≡ Some (keyless_contents h)
    reported (Free m) = refl
    reported (Leading o r) = refl
    reported (InlineOp k) = refl
    reported (ListOp k) = refl
    reported (OpWithEntries k) = refl
    reported (FullOp k) = refl

    keyless_held : (h : SlotKind) → is_key (vacated_held n h) ≡ false
    keyless_held (Free m) = refl
    keyless_held (Leading o r) = refl
    keyless_held (InlineOp k) = refl
    keyless_held (ListOp k) = refl
    keyless_held (OpWithEntries k) = refl
    keyless_held (FullOp k) = refl

pub give_reported : (s : OpArena) (n : Kept) (m : ℕ) → row_with (record n { used = false; held = vacated_held m n.held }) (keyless_contents n.held) ≡ vacated (row_in s n)
give_reported s n m = go n.held
  where
    row : Contents → Row
    row c = record { used = false; live = n.live; head = record no_head { id = n.id; name = n.name }; gone = none_gone; shapes = []; owner = c.owner; region = c.region; uses = n.uses; values = n.values }

    short_none : (o : Option InlineData) → row no_contents ≡ row (or_none (option_map short_contents o))
    short_none None = refl
    short_none (Some p) = refl

    plain_none : (o : Option ListData) → row no_contents ≡ row (or_none (option_map plain_contents o))
    plain_none None = refl
    plain_none (Some p) = refl

    entered_none : (o : Option WithEntries) → row no_contents ≡ row (or_none (option_map entered_contents o))
    entered_none None = refl
    entered_none (Some p) = refl

    whole_none : (o : Option FullData) → row no_contents ≡ row (or_none (option_map whole_contents o))
    whole_none None = refl
    whole_none (Some p) = refl

    go : (h : SlotKind) → row_like false n.live n.id n.name n.uses n.values (keyless_contents h) ≡ vacated (row_with n (contents_at s h))
    go (Free k) = refl
    go (Leading o r) = refl
    go (InlineOp k) = short_none (get s.short k)
    go (ListOp k) = plain_none (get s.simple k)
    go (OpWithEntries k) = entered_none (get s.entered k)
    go (FullOp k) = whole_none (get s.whole k)

-- the link of the free list is written, and nothing else changes
pub spare_swaps : (s : OpArena) (g : SlotKind) (n : ℕ) → is_some (found s g) ≡ true → Swaps s s g (respared n g) (contents_at s g)
spare_swaps s (Free m) n e = record { own = refl; others = λ q f h ne. (refl, λ z. false≢true (ap is_key (sym z) ∙ f)); kept = λ q f h ne. (λ z. false≢true (sym (ap is_key z) ∙ f), h) }
spare_swaps s (Leading o r) n e = swaps_none s (Leading o r) e
spare_swaps s (InlineOp k) n e = swaps_none s (InlineOp k) e
spare_swaps s (ListOp k) n e = swaps_none s (ListOp k) e
spare_swaps s (OpWithEntries k) n e = swaps_none s (OpWithEntries k) e
spare_swaps s (FullOp k) n e = swaps_none s (FullOp k) e

pub row_inside : (s : OpArena) (slots : List Kept) (old : List Row) (k : ℕ) → rows_in s slots ≡ old → k < length old → k < length slots
row_inside s slots old k e l = omega (arith, l, ap length e, length-map slots (row_in s))

-- row k is written, in the form of a call's contract
module _ (s t : OpArena) (slots : List Kept) (sound : IsSound s slots) (k : ℕ) (n m : Kept) (inside : k < length slots) (is : n ≡ get_or slots k n) (c : Contents) (w : Swaps s t n.held m.held c) where
  swaps_at : Swaps s t (held_at slots k) m.held c
  swaps_at = subst (λ h. Swaps s t h m.held c) (ap (λ z. z.held) is ∙ sym (held_in slots k n inside)) w

  pub written_sound : IsSound t (set slots k m)
  written_sound = swap_sound s t slots sound k inside m c swaps_at

  pub written_rows : (old : List Row) → rows_in s slots ≡ old → (r : Row) → row_with m c ≡ r → rows_in t (set slots k m) ≡ set old k r
  written_rows old e r g = swap_rows s t slots sound k inside m c swaps_at ∙ (λ i. set (e i) k (g i))

-- the row is unchanged, and the data under its key is changed
module _ (s t : OpArena) (slots : List Kept) (sound : IsSound s slots) (k : ℕ) (n : Kept) (inside : k < length slots) (is : n ≡ get_or slots k n) (c : Contents) (w : Swaps s t n.held n.held c) where
  same : set slots k n ≡ slots
  same = ap (set slots k) is ∙ set-get_or slots k n

  pub kept_sound : IsSound t slots
  kept_sound = subst (IsSound t) same (written_sound s t slots sound k n n inside is c w)

  pub kept_rows : (old : List Row) → rows_in s slots ≡ old → (r : Row) → row_with n c ≡ r → rows_in t slots ≡ set old k r
  kept_rows old e r g = sym (ap (rows_in t) same) ∙ written_rows s t slots sound k n n inside is c w old e r g

-- there is data under the key of a row that is read
pub row_stands : (s : OpArena) (slots : List Kept) → IsSound s slots → (k : ℕ) (n : Kept) → k < length slots → n ≡ get_or slots k n → is_some (found s n.held) ≡ true
row_stands s slots sound k n l e = ap (λ z. is_some (found s z.held)) e ∙ sym (ap (λ h. is_some (found s h)) (held_in slots k n l)) ∙ sound.stands k

-- the contents of a row before the call
pub old_row : (s : OpArena) (slots : List Kept) (old : List Row) (k : ℕ) (n : Kept) → rows_in s slots ≡ old → k < length slots → n ≡ get_or slots k n → row_at old k ≡ row_in s n
old_row s slots old k n e l is = sym (ap (λ z. row_at z k) e) ∙ read_row s slots k n l is

-- a slot whose operation has an operand exists
pub operand_inside : (old : List Row) (k j : ℕ) → j < length (row_at old k).head.operands → k < length old
operand_inside old k j l = ⊎_elim (λ y. y) (λ g. absurd (none (row_at old k) (get_or_past old k no_row g) l)) (cases_lt k (length old))
  where
    none : (r : Row) → r ≡ no_row → j < length r.head.operands → ⊥
    none r e m = let z = ap (λ y. length y.head.operands) e in omega (arith, m, z)

-- the last row is removed
held_preceding : (xs : List Kept) (r : Kept) (q : ℕ) → q < length xs → held_at (xs ++ r ∷ []) q ≡ held_at xs q
held_preceding [] r q l = absurd (omega (arith, l))
held_preceding (x ∷ xs) r zero l = refl
held_preceding (x ∷ xs) r (suc q) l = held_preceding xs r q (omega (arith, l))

held_last : (xs : List Kept) (r : Kept) → held_at (xs ++ r ∷ []) (length xs) ≡ r.held
held_last [] r = refl
held_last (x ∷ xs) r = held_last xs r

held_past : (xs : List Kept) (q : ℕ) → length xs ≤ q → held_at xs q ≡ Free 0
held_past xs q l = get_or_past (map (λ m. m.held) xs) q (Free 0) (omega (arith, l, length-map xs (λ m. m.held)))

keyed_last : (xs : List Kept) (r : Kept) (q : ℕ) → length xs ≤ q → is_key (held_at (xs ++ r ∷ []) q) ≡ true → r.held ≡ held_at (xs ++ r ∷ []) q
keyed_last [] r zero l e = refl
keyed_last [] r (suc q) l e = absurd (false≢true e)
keyed_last (x ∷ xs) r zero l e = absurd (omega (arith, l))
keyed_last (x ∷ xs) r (suc q) l e = keyed_last xs r q (omega (arith, l)) e

-- each row has the same contents
rows_same : (s t : OpArena) (xs : List Kept) → ((q : ℕ) → q < length xs → found t (held_at xs q) ≡ found s (held_at xs q)) → rows_in t xs ≡ rows_in s xs
rows_same s t [] same = refl
rows_same s t (x ∷ xs) same = λ i. row_with x (or_none (same zero (omega arith) i)) ∷ rows_same s t xs (λ q l. same (suc q) (omega (arith, l))) i

module _ (s t : OpArena) (xs : List Kept) (r : Kept) (sound : IsSound s (xs ++ r ∷ [])) (w : Takes s t r.held) where
  preceding : (q : ℕ) → q < length xs → found t (held_at xs q) ≡ found s (held_at xs q)
  preceding q l = go (is_key (held_at xs q)) refl
    where
      go : (b : Bool) → is_key (held_at xs q) ≡ b → found t (held_at xs q) ≡ found s (held_at xs q)
      go true e = w.others (held_at xs q) (λ z.
          let at : q ≡ length xs = sound.apart q (length xs) (ap is_key (held_preceding xs r q l) ∙ e) (held_preceding xs r q l ∙ z ∙ sym (held_last xs r)) in
          absurd (omega (arith, l, at)))
      go false e = keyless s t (held_at xs q) e

  pub popped_sound : IsSound t xs
  popped_sound = record {
    stands = λ q. ⊎_elim
        (λ l. ap is_some (preceding q l) ∙ sym (ap (λ h. is_some (found s h)) (held_preceding xs r q l)) ∙ sound.stands q)
        (λ g. ap (λ h. is_some (found t h)) (held_past xs q g))
        (cases_lt q (length xs));
    apart = λ j q e z. ⊎_elim
        (λ l. ⊎_elim
        (λ m. sound.apart j q (ap is_key (held_preceding xs r j l) ∙ e) (held_preceding xs r j l ∙ z ∙ sym (held_preceding xs r q m)))
        (λ g. absurd (false≢true (sym (ap is_key (z ∙ held_past xs q g)) ∙ e)))
        (cases_lt q (length xs)))
        (λ g. absurd (false≢true (sym (ap is_key (held_past xs j g)) ∙ e)))
        (cases_lt j (length xs));
    owned = λ q e f.
        let b : q ≡ r.held → ⊥ = λ z. none_some (found t q) (ap (found t) z ∙ w.vacant (sym (ap is_key z) ∙ e)) f in
        let o = sound.owned q e (ap is_some (sym (w.others q b)) ∙ f) in
        ⊎_elim
        (λ l. (o.0, sym (held_preceding xs r o.0 l) ∙ o.1))
        (λ g. absurd (b (sym o.1 ∙ sym (keyed_last xs r o.0 g (ap is_key o.1 ∙ e)))))
        (cases_lt o.0 (length xs));
  }

  pub popped_rows : rows_in t xs ≡ rows_in s xs
  popped_rows = rows_same s t xs preceding

-- the remaining list is the old list without its last row
last_off : {X : Type 0} (xs ys : List X) (x y : X) → xs ++ x ∷ [] ≡ ys ++ y ∷ [] → xs ≡ ys
last_off [] [] x y e = refl
last_off [] (b ∷ ys) x y e = absurd (none ys y (ap length e))
  where
    none : {X : Type 0} (zs : List X) (z : X) → 1 ≡ suc (length (zs ++ z ∷ [])) → ⊥
    none [] z f = omega (arith, f)
    none (c ∷ zs) z f = omega (arith, f)
last_off (a ∷ xs) [] x y e = absurd (none xs x (sym (ap length e)))
  where
    none : {X : Type 0} (zs : List X) (z : X) → 1 ≡ suc (length (zs ++ z ∷ [])) → ⊥
    none [] z f = omega (arith, f)
    none (c ∷ zs) z f = omega (arith, f)
last_off (a ∷ xs) (b ∷ ys) x y e =
    let h : a ≡ b = cc in
    let r : xs ++ x ∷ [] ≡ ys ++ y ∷ [] = cc in
    λ i. h i ∷ last_off xs ys x y r i

pub popped_is : (s t : OpArena) (items xs : List Kept) (r : Kept) (old : List Row) → items ≡ xs ++ r ∷ [] → IsSound s items → Takes s t r.held → rows_in s items ≡ old
    → (before : List Row) (last : Row) → old ≡ before ++ last ∷ [] → rows_in t xs ≡ before
popped_is s t items xs r old e sound w view before last f =
    popped_rows s t xs r (subst (IsSound s) e sound) w
    ∙ last_off (rows_in s xs) before (row_in s r) last (sym (map-append (row_in s) xs (r ∷ [])) ∙ sym (ap (rows_in s) e) ∙ view ∙ f)

-- an entry of a dictionary is changed, in the row and in the data
pub entry_reported : (n : Kept) (before : ℕ → ℕ → Bool) (part : Part) (k : ℕ) (a : Option ℕ) (c : Contents)
    → row_with n (with_dictionary part (with_change before k a (dictionary_in part c)) c) ≡ row_with_entry before part k a (row_with n c)
entry_reported n before Props k a c = refl
entry_reported n before Attrs k a c = refl

-- one dictionary of a row
pub slots_reported : (n : Kept) (part : Part) (c : Contents) → slots_in part (row_with n c) ≡ dictionary_in part c
slots_reported n Props c = refl
slots_reported n Attrs c = refl

-- a conclusion that follows in both cases
pub in_both : {A E : Type 0} (r : Result A E) (P Q X : Type 0) → MatchResult r (λ _. P) (λ _. Q) → (P → X) → (Q → X) → X
in_both (Ok a) P Q X m f g = f m
in_both (Err e) P Q X m f g = g m

pub where_ok : {A E : Type 0} (r : Result A E) (P Q X : Type 0) → MatchResult r (λ _. P) (λ _. Q) → (P → X) → OnOk r X
where_ok (Ok a) P Q X m f = f m
where_ok (Err e) P Q X m f = tt

pub where_err : {A E : Type 0} (r : Result A E) (P Q X : Type 0) → MatchResult r (λ _. P) (λ _. Q) → (Q → X) → OnErr r X
where_err (Ok a) P Q X m f = tt
where_err (Err e) P Q X m f = f m

pub in_each : {A E : Type 0} (r : Result A E) (P Q X Y : Type 0) → MatchResult r (λ _. P) (λ _. Q) → (P → X) → (Q → Y) → MatchResult r (λ _. X) (λ _. Y)
in_each (Ok a) P Q X Y m f g = f m
in_each (Err e) P Q X Y m f g = g m

-- the data of h is changed
pub swap_swap : (s t u : OpArena) (g h : SlotKind) (c d : Contents) → Swaps s t g h c → Swaps t u h h d → Swaps s u g h d
swap_swap s t u g h c d v w = record {
  own = w.own;
  others = λ q e f ne.
      let a = v.others q e f ne in
      let b = w.others q e (ap is_some a.0 ∙ f) a.1 in
      (b.0 ∙ a.0, a.1);
  kept = λ q e f ne.
      let b = w.kept q e f ne in
      v.kept q e b.1 ne;
}

-- no slots, and empty slabs
pub none_sound : (s : OpArena) → s.short.slots ≡ [] → s.simple.slots ≡ [] → s.entered.slots ≡ [] → s.whole.slots ≡ [] → IsSound s []
none_sound s a b c d = record {
  stands = λ k. refl;
  apart = λ j k e z. absurd (false≢true e);
  owned = λ h e f. absurd (none h e f);
}
  where
    empty : {X : Type 0} (tells : X → Contents) (t : Slab X) (k : ℕ) → t.slots ≡ [] → is_some (option_map tells (get t k)) ≡ true → ⊥
    empty tells t k z f = false≢true (sym (ap (λ y. is_some (option_map tells (get_or y k None))) z) ∙ f)

    none : (h : SlotKind) → is_key h ≡ true → is_some (found s h) ≡ true → ⊥
    none (Free n) e f = false≢true e
    none (Leading o r) e f = false≢true e
    none (InlineOp k) e f = empty short_contents s.short k a f
    none (ListOp k) e f = empty plain_contents s.simple k b f
    none (OpWithEntries k) e f = empty entered_contents s.entered k c f
    none (FullOp k) e f = empty whole_contents s.whole k d f

-- one more slot, without a key
pub pushed_sound : (s : OpArena) (xs : List Kept) (r : Kept) → IsSound s xs → is_key r.held ≡ false → IsSound s (xs ++ r ∷ [])
pushed_sound s xs r sound less = record {
  stands = λ q. ⊎_elim
      (λ l. ap (λ h. is_some (found s h)) (held_preceding xs r q l) ∙ sound.stands q)
      (λ g. ⊎_elim (λ z. absurd (false≢true (sym less ∙ ap is_key (keyed_last xs r q g z) ∙ z))) (λ z. located (held_at (xs ++ r ∷ []) q) z) (cases_Bool (is_key (held_at (xs ++ r ∷ []) q))))
      (cases_lt q (length xs));
  apart = λ j q e z. ⊎_elim
      (λ l. ⊎_elim
      (λ m. sound.apart j q (sym (ap is_key (held_preceding xs r j l)) ∙ e) (sym (held_preceding xs r j l) ∙ z ∙ held_preceding xs r q m))
      (λ g. let y : is_key (held_at (xs ++ r ∷ []) q) ≡ true = sym (ap is_key z) ∙ e in absurd (false≢true (sym less ∙ ap is_key (keyed_last xs r q g y) ∙ y)))
      (cases_lt q (length xs)))
      (λ g. absurd (false≢true (sym less ∙ ap is_key (keyed_last xs r j g e) ∙ e)))
      (cases_lt j (length xs));
  owned = λ q e f.
      let o = sound.owned q e f in
      ⊎_elim (λ l. (o.0, held_preceding xs r o.0 l ∙ o.1)) (λ g. absurd (false≢true (sym (ap is_key (held_past xs o.0 g)) ∙ ap is_key o.1 ∙ e))) (cases_lt o.0 (length xs));
}
  where
    located : (h : SlotKind) → is_key h ≡ false → is_some (found s h) ≡ true
    located (Free n) e = refl
    located (Leading o t) e = refl
    located (InlineOp k) e = absurd (false≢true (sym e))
    located (ListOp k) e = absurd (false≢true (sym e))
    located (OpWithEntries k) e = absurd (false≢true (sym e))
    located (FullOp k) e = absurd (false≢true (sym e))
