-- Dictionaries with rising keys are sorted by distinct keys.
use Rattle.std.proofs.Common.{◌≡◌, ℕ, true, false, List, [], ◌∷◌, ◌++◌, refl, sym, ap, ◌∙◌}
use Rattle.std.specs.List.{AllByRecursion}
use Rattle.std.specs.Str.{bytes_eq}
use Rattle.std.proofs.Common.{Ordering}
use Rattle.std.specs.Ordering.{is_lt, is_eq, nat_cmp}
use Rattle.std.specs.declared.cmp.Ordering.TheVariants.{Less, Equal, Greater}
use Rattle.std.specs.Cmp.Lexicographic.{slice_cmp}
use Rattle.std.proofs.lemmas.Cmp.{nat_list_cmp_total}
use Rattle.std.proofs.lemmas.Map.Text.{is_eq-slice_cmp}
use Rattle.ir_types.specs.Terms.{AttrTerm, EntryTerms, no_entries, next_entry}
use Rattle.ir_tree.specs.Meaning.{key_before, rises, rises_after}
use Rattle.ir_text_attributes.specs.AttrGrammar.{EntryTerm, entries_of}
use Rattle.ir_text_attributes.specs.Keyed.{has_key, insert_sorted, in_order}
use Rattle.ir_text_modules.specs.WrittenAttributes.{entries_list}
use Rattle.std.proofs.lemmas.Bool.{and_parts}
use Rattle.ir_types.proofs.AcceptedCalls.{less_from}

less_apart : (o : Ordering) → is_lt o ≡ true → is_eq o ≡ false
less_apart Less e = refl
less_apart Equal e = absurd cc
less_apart Greater e = absurd cc

before_trans : (k l m : List ℕ) → key_before k l ≡ true → key_before l m ≡ true → key_before k m ≡ true
before_trans k l m p q = ap is_lt (nat_list_cmp_total.trans k l m (less_from (slice_cmp nat_cmp k l) p) (less_from (slice_cmp nat_cmp l m) q))

apart : (k l : List ℕ) → key_before k l ≡ true → bytes_eq k l ≡ false
apart k l p = sym (is_eq-slice_cmp k l) ∙ less_apart (slice_cmp nat_cmp k l) p

module _ {A : Type 0} where
  -- every key of the entries is less than the key
  abbrev pub AreBefore : List (List ℕ × A) → List ℕ → Type 0
  AreBefore es k = AllByRecursion (λ e. key_before e.0 k ≡ true) es

  pub still_before : (es : List (List ℕ × A)) (k l : List ℕ) (a : A) → AreBefore es k → key_before k l ≡ true → AreBefore (es ++ (k, a) ∷ []) l
  still_before [] k l a h p = (p, tt)
  still_before (e ∷ es) k l a h p = (before_trans e.0 k l h.0 p, still_before es k l a h.1 p)

pub rises_next : {A : Type 0} (e f : List ℕ × A) (es : List (List ℕ × A)) → rises key_before (e ∷ f ∷ es) ≡ true → (key_before e.0 f.0 ≡ true) × (rises key_before (f ∷ es) ≡ true)
rises_next e f es h = and_parts (key_before e.0 f.0) (rises_after key_before f.0 es) h

-- every key of the first list is less than the first key of the second
abbrev pub AreBeforeFirst : List (List ℕ × AttrTerm) → List (List ℕ × AttrTerm) → Type 0
AreBeforeFirst preceding [] = Unit {0}
AreBeforeFirst preceding (e ∷ es) = AreBefore preceding e.0

pub next_before : (preceding : List (List ℕ × AttrTerm)) (e : List ℕ × AttrTerm) (es : List (List ℕ × AttrTerm)) → AreBefore preceding e.0 → rises key_before (e ∷ es) ≡ true → AreBeforeFirst (preceding ++ e ∷ []) es × (rises key_before es ≡ true)
next_before preceding e [] b r = (tt, refl)
next_before preceding e (f ∷ es) b r = let p = rises_next e f es r in (still_before preceding e.0 f.0 e.1 b p.0, p.1)

pub no_key : (es : List EntryTerm) (k : List ℕ) → AreBefore es k → has_key bytes_eq k es ≡ false
no_key [] k h = refl
no_key (e ∷ es) k h = rw (apart e.0 k h.0) (no_key es k h.1)

pub in_order_again : (es : List EntryTerm) → rises key_before es ≡ true → in_order key_before es ≡ es
in_order_again [] h = refl
in_order_again (e ∷ []) h = refl
in_order_again (e ∷ f ∷ es) h =
    let p = rises_next e f es h in
    ap (insert_sorted key_before e) (in_order_again (f ∷ es) p.1) ∙ rw p.0 refl

pub entries_again : (es : EntryTerms) → entries_of (entries_list es) ≡ es
entries_again no_entries = refl
entries_again (next_entry key a es) = ap (next_entry key a) (entries_again es)
