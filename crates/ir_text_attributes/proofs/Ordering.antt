-- Sorting permutes the entries, and the keys rise if they are distinct.
use Rattle.std.proofs.Common.{◌≡◌, refl, sym, ap, ◌∙◌, ℕ, Bool, true, false, true≢false, ◌&&◌, List, [], ◌∷◌, map, arith}
use Rattle.std.specs.Prelude.{IsPermutation, if◌then◌else◌}
use Rattle.std.specs.List.{AllByRecursion, IsDistinct}
use Rattle.std.specs.Str.{bytes_eq}
use Rattle.std.specs.Ordering.{is_lt, is_eq, nat_cmp, ordering_reverse}
use Rattle.std.specs.declared.cmp.Ordering.{Ordering}
use Rattle.std.specs.declared.cmp.Ordering.TheVariants.{Less, Equal, Greater}
use Rattle.std.specs.Cmp.Lexicographic.{slice_cmp}
use Rattle.std.proofs.lemmas.Cmp.{nat_list_cmp_total}
use Rattle.std.proofs.lemmas.Map.Text.{is_eq-slice_cmp}
use Rattle.std.proofs.lemmas.List.Sorted.{IsPermutation-refl, IsPermutation-trans, IsPermutation-swap, IsPermutation-cons}
use Rattle.ir_tree.specs.Meaning.{key_before, rises, rises_after}
use Rattle.ir_text_attributes.specs.Keyed.{insert_sorted, in_order, IsInOrder}
use Rattle.std.proofs.lemmas.Bool.{and_parts, and_from}

-- ---- the same entries

module _ {K A : Type 0} (before : K → K → Bool) where
  put_moves : (e : K × A) (fs : List (K × A)) → IsPermutation (e ∷ fs) (insert_sorted before e fs)
  put_moves e [] = IsPermutation-refl (e ∷ [])
  put_moves e (f ∷ fs) = go (before e.0 f.0) refl (put_moves e fs)
    where
      go : (b : Bool) → before e.0 f.0 ≡ b → IsPermutation (e ∷ fs) (insert_sorted before e fs) → IsPermutation (e ∷ f ∷ fs) (insert_sorted before e (f ∷ fs))
      go true h rest = rw h (IsPermutation-refl (e ∷ f ∷ fs))
      go false h rest = rw h (IsPermutation-trans (e ∷ f ∷ fs) (f ∷ e ∷ fs) (f ∷ insert_sorted before e fs) (IsPermutation-swap (e ∷ f ∷ fs) (f ∷ e ∷ fs) 0 1 (omega arith) (omega arith) refl) (IsPermutation-cons f (e ∷ fs) (insert_sorted before e fs) rest))

  order_moves : (es : List (K × A)) → IsPermutation es (in_order before es)
  order_moves [] = IsPermutation-refl []
  order_moves (e ∷ es) = IsPermutation-trans (e ∷ es) (e ∷ in_order before es) (in_order before (e ∷ es)) (IsPermutation-cons e es (in_order before es) (order_moves es)) (put_moves e (in_order before es))

  put_keeps : (P : K × A → Type 0) (e : K × A) (fs : List (K × A)) → P e → AllByRecursion P fs → AllByRecursion P (insert_sorted before e fs)
  put_keeps P e [] p all = (p, tt)
  put_keeps P e (f ∷ fs) p all = go (before e.0 f.0) (put_keeps P e fs p all.1)
    where
      go : (b : Bool) → AllByRecursion P (insert_sorted before e fs) → AllByRecursion P (if b then e ∷ f ∷ fs else f ∷ insert_sorted before e fs)
      go true rest = (p, all)
      go false rest = (all.0, rest)

  order_keeps : (P : K × A → Type 0) (es : List (K × A)) → AllByRecursion P es → AllByRecursion P (in_order before es)
  order_keeps P [] all = tt
  order_keeps P (e ∷ es) all = put_keeps P e (in_order before es) all.0 (order_keeps P es all.1)

-- ---- their keys rise

-- of two different keys, one is less than the other
other_way : (k l : List ℕ) → bytes_eq k l ≡ false → key_before k l ≡ false → key_before l k ≡ true
other_way k l differ late = go (slice_cmp nat_cmp k l) refl
  where
    go : (o : Ordering) → slice_cmp nat_cmp k l ≡ o → key_before l k ≡ true
    go Less h = absurd (true≢false (sym (ap is_lt h) ∙ late))
    go Equal h = absurd (true≢false (sym (ap is_eq h) ∙ is_eq-slice_cmp k l ∙ differ))
    go Greater h = ap is_lt (nat_list_cmp_total.antisymm l k ∙ ap ordering_reverse h)

module _ {A : Type 0} where
  abbrev Apart : List ℕ → List (List ℕ × A) → Type 0
  Apart k es = AllByRecursion (λ e. bytes_eq k e.0 ≡ false) es

  put_rises : (k : List ℕ) (e : List ℕ × A) (fs : List (List ℕ × A)) → key_before k e.0 ≡ true → Apart e.0 fs → rises_after key_before k fs ≡ true → rises_after key_before k (insert_sorted key_before e fs) ≡ true
  put_rises k e [] first apart up = and_from (key_before k e.0) true first refl
  put_rises k e (f ∷ fs) first apart up =
      let after = and_parts (key_before k f.0) (rises_after key_before f.0 fs) up in
      go after (λ p. put_rises f.0 e fs p apart.1 after.1) (key_before e.0 f.0) refl
    where
      go : (key_before k f.0 ≡ true) × (rises_after key_before f.0 fs ≡ true) → (key_before f.0 e.0 ≡ true → rises_after key_before f.0 (insert_sorted key_before e fs) ≡ true) → (b : Bool) → key_before e.0 f.0 ≡ b → rises_after key_before k (insert_sorted key_before e (f ∷ fs)) ≡ true
      go after later true h = rw h (and_from (key_before k e.0) (key_before e.0 f.0 && rises_after key_before f.0 fs) first (and_from (key_before e.0 f.0) (rises_after key_before f.0 fs) h after.1))
      go after later false h = rw h (and_from (key_before k f.0) (rises_after key_before f.0 (insert_sorted key_before e fs)) after.0 (later (other_way e.0 f.0 apart.0 h)))

  first_rises : (e : List ℕ × A) (fs : List (List ℕ × A)) → Apart e.0 fs → rises key_before fs ≡ true → rises key_before (insert_sorted key_before e fs) ≡ true
  first_rises e [] apart up = refl
  first_rises e (f ∷ fs) apart up = go (key_before e.0 f.0) refl
    where
      go : (b : Bool) → key_before e.0 f.0 ≡ b → rises key_before (insert_sorted key_before e (f ∷ fs)) ≡ true
      go true h = rw h (and_from (key_before e.0 f.0) (rises_after key_before f.0 fs) h up)
      go false h = rw h (put_rises f.0 e fs (other_way e.0 f.0 apart.0 h) apart.1 up)

  apart_keys : (k : List ℕ) (es : List (List ℕ × A)) → AllByRecursion (λ l. bytes_eq k l ≡ false) (map (λ (e : List ℕ × A). e.0) es) → Apart k es
  apart_keys k [] all = tt
  apart_keys k (e ∷ es) all = (all.0, apart_keys k es all.1)

  order_rises : (es : List (List ℕ × A)) → IsDistinct bytes_eq (map (λ (e : List ℕ × A). e.0) es) → rises key_before (in_order key_before es) ≡ true
  unfolding IsDistinct
  order_rises [] once = refl
  order_rises (e ∷ es) once = first_rises e (in_order key_before es) (order_keeps key_before (λ f. bytes_eq e.0 f.0 ≡ false) es (apart_keys e.0 es once.0)) (order_rises es once.1)

  pub put_in_order : (es : List (List ℕ × A)) → IsInOrder es (in_order key_before es)
  put_in_order es = (order_moves key_before es, order_rises es)
