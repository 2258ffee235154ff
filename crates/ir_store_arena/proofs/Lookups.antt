-- Loops that look for a key.
use Rattle.std.proofs.Common.{◌≡◌, ℕ, ◌+◌, ◌<◌, ◌≤◌, List, [], ◌∷◌, ◌++◌, set, Some, refl, sym, ap, ◌∙◌, length, Bool, true, false, eqb, ◌||◌, arith, append_assoc}
use Rattle.std.proofs.lemmas.Bool.{cond-true, cond-false}
use Rattle.std.proofs.lemmas.List.{length_push, map-append}
use Rattle.std.specs.List.{insert, remove}
use Rattle.ir_tree_laws.specs.trees.Edits.{put_entry, drop_entry, entry_at, same_key}
use Rattle.ir_tree_laws.specs.trees.Meaning.{rises}
use Rattle.ir_store_arena.specs.Slots.{has_key, is_gone, keep_gone, keys}
use Rattle.ir_store_arena.proofs.Orders.{Order, apart, apart', none_after, rises_rest}
use Rattle.ir_store_arena.proofs.Splits.{Cut, cut_insert, cut_set, cut_remove, cut_long}

abbrev cut_step : {X : Type 0} (at : ℕ) (e : X) (tail all : List X) → Cut at (e ∷ tail) all → Cut (at + 1) tail all
cut_step at e tail all c = record { preceding = c.preceding ++ e ∷ []; split = append_assoc c.preceding (e ∷ []) tail ∙ c.split; count = ap (λ n. n + 1) c.count ∙ sym (length_push c.preceding e) }

abbrev cut_start : {X : Type 0} (all : List X) → Cut 0 all all
cut_start all = record { preceding = []; split = refl; count = refl }

-- the insertion index of a key, so far
pub record Point (before : ℕ → ℕ → Bool) (k at : ℕ) (rest all : List (ℕ × ℕ)) : Type 0 where
  pub cut : Cut at rest all
  pub put : (a : ℕ) → put_entry before k a all ≡ cut.preceding ++ put_entry before k a rest
  pub absent : has_key k rest ≡ false → has_key k all ≡ false
  pub sorted : rises before all ≡ true → rises before rest ≡ true

-- the key was found, with its index
abbrev pub Found : (ℕ → ℕ → Bool) → ℕ → ℕ → List (ℕ × ℕ) → Type 0
Found before k at all = (at < length all) × ((a : ℕ) → put_entry before k a all ≡ set all at (k, a))

-- only the insertion index was found
abbrev pub Free : (ℕ → ℕ → Bool) → ℕ → ℕ → List (ℕ × ℕ) → Type 0
Free before k at all = (at ≤ length all) × ((a : ℕ) → put_entry before k a all ≡ insert all at (k, a)) × (rises before all ≡ true → has_key k all ≡ false)

pub point_start : (before : ℕ → ℕ → Bool) (k : ℕ) (all : List (ℕ × ℕ)) → Point before k 0 all all
point_start before k all = record { cut = cut_start all; put = λ a. refl; absent = λ e. e; sorted = λ e. e }

module _ (before : ℕ → ℕ → Bool) (o : Order before) (k at : ℕ) (all : List (ℕ × ℕ)) where
  pub point_step : (e : ℕ × ℕ) (tail : List (ℕ × ℕ)) → before k e.0 ≡ false → before e.0 k ≡ true → Point before k at (e ∷ tail) all → Point before k (at + 1) tail all
  point_step e tail n l s = record {
    cut = cut_step at e tail all s.cut;
    put = λ a.
        s.put a
        ∙ ap (λ z. s.cut.preceding ++ z) (cond-false (before k e.0) ((k, a) ∷ e ∷ tail) _ n ∙ cond-true (before e.0 k) (e ∷ put_entry before k a tail) ((k, a) ∷ tail) l)
        ∙ sym (append_assoc s.cut.preceding (e ∷ []) (put_entry before k a tail));
    absent = λ z. s.absent (ap (λ b. b || has_key k tail) (apart before o k e.0 l) ∙ z);
    sorted = λ z. rises_rest before e tail (s.sorted z);
  }

  pub point_less : (e : ℕ × ℕ) (tail : List (ℕ × ℕ)) → before k e.0 ≡ true → Point before k at (e ∷ tail) all → Free before k at all
  point_less e tail l s = (
    omega (arith, cut_long at all (e ∷ tail) s.cut),
    (λ a. s.put a ∙ ap (λ z. s.cut.preceding ++ z) (cond-true (before k e.0) ((k, a) ∷ e ∷ tail) _ l) ∙ sym (cut_insert at all (e ∷ tail) (k, a) s.cut)),
    (λ z. s.absent (ap (λ b. b || has_key k tail) (apart' before o k e.0 l) ∙ none_after before o k e.0 tail l (s.sorted z))),
  )

  pub point_equal : (e : ℕ × ℕ) (tail : List (ℕ × ℕ)) → before k e.0 ≡ false → before e.0 k ≡ false → Point before k at (e ∷ tail) all → Found before k at all
  point_equal e tail n m s = (
    omega (arith, cut_long at all (e ∷ tail) s.cut),
    (λ a.
        s.put a
        ∙ ap (λ z. s.cut.preceding ++ z) (cond-false (before k e.0) ((k, a) ∷ e ∷ tail) _ n ∙ cond-false (before e.0 k) (e ∷ put_entry before k a tail) ((k, a) ∷ tail) m)
        ∙ sym (cut_set at all e (k, a) tail s.cut)),
  )

  pub point_end : Point before k at [] all → Free before k at all
  point_end s = (
    omega (arith, cut_long at all [] s.cut),
    (λ a. s.put a ∙ sym (cut_insert at all [] (k, a) s.cut)),
    (λ z. s.absent refl),
  )

-- the index of a key, so far
pub record Sought (before : ℕ → ℕ → Bool) (k at : ℕ) (rest all : List (ℕ × ℕ)) : Type 0 where
  pub cut : Cut at rest all
  pub left : drop_entry before k all ≡ cut.preceding ++ drop_entry before k rest
  pub value : entry_at before k all ≡ entry_at before k rest

pub sought_start : (before : ℕ → ℕ → Bool) (k : ℕ) (all : List (ℕ × ℕ)) → Sought before k 0 all all
sought_start before k all = record { cut = cut_start all; left = refl; value = refl }

module _ (before : ℕ → ℕ → Bool) (o : Order before) (k at : ℕ) (all : List (ℕ × ℕ)) where
  pub sought_step : (e : ℕ × ℕ) (tail : List (ℕ × ℕ)) → same_key before k e.0 ≡ false → Sought before k at (e ∷ tail) all → Sought before k (at + 1) tail all
  sought_step e tail n s = record {
    cut = cut_step at e tail all s.cut;
    left = s.left ∙ ap (λ z. s.cut.preceding ++ z) (cond-false (same_key before k e.0) tail (e ∷ drop_entry before k tail) n) ∙ sym (append_assoc s.cut.preceding (e ∷ []) (drop_entry before k tail));
    value = s.value ∙ cond-false (same_key before k e.0) (Some e.1) (entry_at before k tail) n;
  }

  pub sought_found : (e : ℕ × ℕ) (tail : List (ℕ × ℕ)) → same_key before k e.0 ≡ true → Sought before k at (e ∷ tail) all → (at < length all) × (drop_entry before k all ≡ remove all at)
  sought_found e tail n s = (
    omega (arith, cut_long at all (e ∷ tail) s.cut),
    s.left ∙ ap (λ z. s.cut.preceding ++ z) (cond-true (same_key before k e.0) tail (e ∷ drop_entry before k tail) n) ∙ sym (cut_remove at all e tail s.cut),
  )

-- the index of a key among the removed keys, so far
pub record Fled (k at : ℕ) (rest all : List (ℕ × ℕ)) : Type 0 where
  pub cut : Cut at rest all
  pub kept : keep_gone k (keys all) ≡ keys cut.preceding ++ keep_gone k (keys rest)
  pub absent : is_gone k (keys rest) ≡ false → is_gone k (keys all) ≡ false

pub fled_start : (k : ℕ) (all : List (ℕ × ℕ)) → Fled k 0 all all
fled_start k all = record { cut = cut_start all; kept = refl; absent = λ e. e }

keys_push : (preceding : List (ℕ × ℕ)) (e : ℕ × ℕ) (ls : List ℕ) → keys preceding ++ e.0 ∷ ls ≡ keys (preceding ++ e ∷ []) ++ ls
keys_push preceding e ls = sym (append_assoc (keys preceding) (e.0 ∷ []) ls) ∙ ap (λ z. z ++ ls) (sym (map-append (λ x. x.0) preceding (e ∷ [])))

module _ (k at : ℕ) (all : List (ℕ × ℕ)) where
  pub fled_step : (e : ℕ × ℕ) (tail : List (ℕ × ℕ)) → eqb e.0 k ≡ false → Fled k at (e ∷ tail) all → Fled k (at + 1) tail all
  fled_step e tail n s = record {
    cut = cut_step at e tail all s.cut;
    kept = s.kept ∙ ap (λ z. keys s.cut.preceding ++ z) (cond-false (eqb e.0 k) (keys tail) (e.0 ∷ keep_gone k (keys tail)) n) ∙ keys_push s.cut.preceding e (keep_gone k (keys tail));
    absent = λ z. s.absent (ap (λ b. b || is_gone k (keys tail)) n ∙ z);
  }

  pub fled_found : (e : ℕ × ℕ) (tail : List (ℕ × ℕ)) → eqb e.0 k ≡ true → Fled k at (e ∷ tail) all → (at < length all) × (keep_gone k (keys all) ≡ keys (remove all at))
  fled_found e tail n s = (
    omega (arith, cut_long at all (e ∷ tail) s.cut),
    s.kept ∙ ap (λ z. keys s.cut.preceding ++ z) (cond-true (eqb e.0 k) (keys tail) (e.0 ∷ keep_gone k (keys tail)) n)
        ∙ sym (map-append (λ x. x.0) s.cut.preceding tail) ∙ ap keys (sym (cut_remove at all e tail s.cut)),
  )

  pub fled_end : Fled k at [] all → (is_gone k (keys all) ≡ false) × (keep_gone k (keys all) ≡ keys all)
  fled_end s = (s.absent refl, s.kept ∙ sym (map-append (λ x. x.0) s.cut.preceding []) ∙ ap keys s.cut.split)
