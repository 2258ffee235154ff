-- Each item of a list of distinct items has one index.
use Rattle.std.proofs.Common.{◌≡◌, ◌≢◌, ◌∙◌, sym, subst, ℕ, Bool, true, false, List, [], ◌∷◌, map, ⊎_elim, arith}
use Rattle.std.specs.Bool.{Decides}
use Rattle.std.specs.List.{AllPairs, AllByRecursion, IsDistinct}
use Rattle.std.specs.Str.{bytes_eq}
use Rattle.std.proofs.lemmas.Bool.{cases_lt}
use Rattle.std.proofs.lemmas.Map.Made.{AllPairs-from_IsDistinct}
use Rattle.std.proofs.lemmas.Option.{get_or_from_slice_get, slice_get_within}
use Rattle.std.proofs.lemmas.Slice.Eq.{bytes_eq-Decides}
use Rattle.ir_types_interner.specs.Interned.{AreApart}

pub apart : {A : Type 0} (xs : List A) → AllPairs (λ x y. x ≢ y) xs → AreApart xs
apart xs h i j x e f =
    let a = get_or_from_slice_get xs i x x e in
    let b = get_or_from_slice_get xs j x x f in
    ⊎_elim (λ l. absurd (h i j x l (slice_get_within xs j x f) (a ∙ sym b)))
    (λ l. ⊎_elim (λ m. absurd (h j i x m (slice_get_within xs i x e) (b ∙ sym a))) (λ m. omega arith) (cases_lt j i))
    (cases_lt i j)

pub apart_from_distinct : {A : Type 0} {E : A → A → Bool} → ((x y : A) → Decides (E x y) (x ≡ y)) → (xs : List A) → IsDistinct E xs → AreApart xs
apart_from_distinct {A} {E} same xs h = apart xs (AllPairs-from_IsDistinct same xs h)

module _ {A B : Type 0} (f : A → B) (E : B → B → Bool) where
  none_mapped : (x : A) (ys : List A) → AllByRecursion (λ y. E (f x) (f y) ≡ false) ys → AllByRecursion (λ y. E (f x) y ≡ false) (map f ys)
  none_mapped x [] all = tt
  none_mapped x (y ∷ ys) all = (all.0, none_mapped x ys all.1)

  pub distinct_map : (xs : List A) → IsDistinct (λ x y. E (f x) (f y)) xs → IsDistinct E (map f xs)
  unfolding IsDistinct
  distinct_map [] h = h
  distinct_map (x ∷ xs) h = (none_mapped x xs h.0, distinct_map xs h.1)

-- names by their bytes
pub bytes_apart : {A : Type 0} (f : A → List ℕ) (xs : List A) → IsDistinct (λ x y. bytes_eq (f x) (f y)) xs → AreApart (map f xs)
bytes_apart f xs h = apart_from_distinct bytes_eq-Decides (map f xs) (distinct_map f bytes_eq xs h)

-- keys that a derived `==` distinguishes, if `==` is true only for equal values
pub apart_by : {A : Type 0} {D E : A → A → Bool} → ((x y : A) → D x y ≡ E x y) → ((x y : A) → E x y ≡ true → x ≡ y) → ((x : A) → E x x ≡ true) → (xs : List A) → IsDistinct D xs → AreApart xs
apart_by {A} {D} {E} one same self xs h =
    apart_from_distinct (λ x y. ((λ t. same x y (sym (one x y) ∙ t)), (λ e. one x y ∙ subst (λ z. E x z ≡ true) e (self x)))) xs h
