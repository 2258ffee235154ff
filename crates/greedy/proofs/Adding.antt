-- Lists that grow.
use Rattle.std.proofs.Common.{◌≡◌, refl, ap, sym, ◌∙◌, subst, ℕ, zero, suc, ◌+◌, ◌-◌, ◌<◌, ◌≤◌, eqb, eq-eqb, eqb-true, true, List, [], ◌∷◌, ◌++◌, append_assoc, append-nil, length, take, drop, inl, inr, ◌⊎◌, Result, Ok, Err, Some, take_all, slice_get, slice_index_or, arith}
use Rattle.std.specs.Prelude.{OnOk, IfOk}
use Rattle.std.proofs.lemmas.List.{drop_all}
use Rattle.ir_event.specs.tree_laws.Members.{In}
use Rattle.ir_event.proofs.of_tree_laws.Listed.{any_one, one_any, in_left, in_right}
use Rattle.greedy.specs.LocalContext.{is_listed}
use Rattle.greedy.specs.Adding.{Adds, Adding, Grown, OneOf}

pub on_ok : {A E : Type 0} (P Q : Type 0) (r : Result A E) → (P → Q) → OnOk r P → OnOk r Q
on_ok P Q (Ok a) f h = f h
on_ok P Q (Err e) f h = tt

pub if_ok : {A E : Type 0} (P Q : A → Type 0) (r : Result A E) → ((a : A) → P a → Q a) → IfOk r P → IfOk r Q
if_ok P Q (Ok a) f h = f a h
if_ok P Q (Err e) f h = tt

-- ---- lists
pub in_listed : (x : ℕ) (ys : List ℕ) → In x ys → is_listed x ys ≡ true
in_listed x ys h = any_one (λ y. eqb y x) ys x h (eq-eqb x x refl)

pub listed_in : (x : ℕ) (ys : List ℕ) → is_listed x ys ≡ true → In x ys
listed_in x ys h = let w = one_any (λ y. eqb y x) ys h in subst (λ z. In z ys) (eqb-true w.0 x w.2) w.1

-- the entry at an index of a list is in the list
pub got_listed : (x : ℕ) (ys : List ℕ) (n : ℕ) → slice_get ys n ≡ Some x → is_listed x ys ≡ true
got_listed x ys n e = in_listed x ys (go ys n e)
  where
    go : (ys : List ℕ) (n : ℕ) → slice_get ys n ≡ Some x → In x ys
    go [] n e = absurd cc
    go (y ∷ ys) zero e = let same : x ≡ y = cc in inl same
    go (y ∷ ys) (suc n) e = inr (go ys n e)

-- a list is its first entry followed by the rest
pub from_item : {X : Type 0} (xs : List X) (x d : X) (n : ℕ) → 1 ≤ length xs → x ≡ slice_index_or xs 0 d → n ≡ length xs → xs ≡ x ∷ take (n - 1) (drop 1 xs)
from_item [] x d n l e m = absurd (omega (arith, l))
from_item (y ∷ ys) x d n l e m = λ i. sym e i ∷ sym (take_all (n - 1) ys (omega (arith, m))) i

-- ---- lists that grow at their end
grown_none : (xs : List ℕ) → Grown xs xs
grown_none xs = ([], sym (append-nil xs))

pub grown_more : (xs ys zs : List ℕ) → Grown xs ys → Grown ys zs → Grown xs zs
grown_more xs ys zs g h = (g.0 ++ h.0, h.1 ∙ ap (λ l. l ++ h.0) g.1 ∙ append_assoc xs g.0 h.0)

-- the entries of the old list from an index on are the entry at that index in the new list and the old entries after
-- it
pub at_place : (xs ys : List ℕ) (n d : ℕ) → Grown xs ys → n < length xs → drop n xs ≡ slice_index_or ys n d ∷ drop (n + 1) xs
at_place xs ys n d g l = go xs n l ∙ (λ i. slice_index_or (sym g.1 i) n d ∷ drop (step i) xs)
  where
    step : suc n ≡ n + 1
    step = omega arith

    go : (xs : List ℕ) (n : ℕ) → n < length xs → drop n xs ≡ slice_index_or (xs ++ g.0) n d ∷ drop (suc n) xs
    go [] n l = absurd (omega (arith, l))
    go (x ∷ xs) zero l = refl
    go (x ∷ xs) (suc n) l = go xs n (omega (arith, l))

-- ---- what is listed
pub adds_nothing : (P : ℕ → Type 0) (xs : List ℕ) → ((x : ℕ) → P x → ⊥) → Adds P xs xs
adds_nothing P xs f = record { grown = grown_none xs; kept = λ x h. h; added = λ x h. absurd (f x h) }

pub adds_as : (P Q : ℕ → Type 0) (xs ys : List ℕ) → ((x : ℕ) → P x → Q x) → Adds Q xs ys → Adds P xs ys
adds_as P Q xs ys f a = record { grown = a.grown; kept = a.kept; added = λ x h. a.added x (f x h) }

pub adds_both : (P R S : ℕ → Type 0) (xs ys zs : List ℕ) → ((x : ℕ) → P x → R x ⊎ S x) → Adds R xs ys → Adds S ys zs → Adds P xs zs
adds_both P R S xs ys zs f a b = record {
  grown = grown_more xs ys zs a.grown b.grown;
  kept = λ x h. b.kept x (a.kept x h);
  added = λ x h. elim (f x h) [ inl r ↦ b.kept x (a.added x r) | inr s ↦ b.added x s ];
}

pub adds_present : (x : ℕ) (xs : List ℕ) → is_listed x xs ≡ true → Adds (λ y. y ≡ x) xs xs
adds_present x xs h = record { grown = grown_none xs; kept = λ y k. k; added = λ y i. ap (λ z. is_listed z xs) i ∙ h }

pub adds_all_present : (P : ℕ → Type 0) (xs : List ℕ) → ((x : ℕ) → P x → is_listed x xs ≡ true) → Adds P xs xs
adds_all_present P xs f = record { grown = grown_none xs; kept = λ x k. k; added = f }

pub adds_pushed : (x : ℕ) (xs ys : List ℕ) → ys ≡ xs ++ x ∷ [] → Adds (λ y. y ≡ x) xs ys
adds_pushed x xs ys e = record {
  grown = (x ∷ [], e);
  kept = λ y h. ap (is_listed y) e ∙ in_listed y (xs ++ x ∷ []) (in_left y xs (x ∷ []) (listed_in y xs h));
  added = λ y i. ap (is_listed y) e ∙ in_listed y (xs ++ x ∷ []) (in_right y xs (x ∷ []) (inl i));
}

-- ---- what is still to be added
pub adding_none : (P Q : ℕ → Type 0) (xs : List ℕ) → ((x : ℕ) → P x → Q x) → Adding P Q xs xs
adding_none P Q xs f = record { grown = grown_none xs; kept = λ x h. h; added = λ x h. inr (f x h) }

pub adding_more : (P Q R S : ℕ → Type 0) (xs ys zs : List ℕ) → ((x : ℕ) → Q x → R x ⊎ S x) → Adding P Q xs ys → Adds R ys zs → Adding P S xs zs
adding_more P Q R S xs ys zs f a b = record {
  grown = grown_more xs ys zs a.grown b.grown;
  kept = λ x h. b.kept x (a.kept x h);
  added = λ x h. elim (a.added x h) [
    | inl i ↦ inl (b.kept x i)
    | inr q ↦ elim (f x q) [ inl r ↦ inl (b.added x r) | inr s ↦ inr s ]
  ];
}

pub adding_done : (P Q : ℕ → Type 0) (xs ys : List ℕ) → ((x : ℕ) → Q x → ⊥) → Adding P Q xs ys → Adds P xs ys
adding_done P Q xs ys f a = record {
  grown = a.grown;
  kept = a.kept;
  added = λ x h. elim (a.added x h) [ inl i ↦ i | inr q ↦ absurd (f x q) ];
}

-- added by a walk over a list
module _ {X : Type 0} (R : X → ℕ → Type 0) (whole : List X) (xs : List ℕ) where
  pub rest_all : Adding (OneOf R whole) (OneOf R whole) xs xs
  rest_all = adding_none (OneOf R whole) (OneOf R whole) xs (λ x h. h)

  pub rest_more : (rest tail : List X) (y : X) (ys zs : List ℕ) → rest ≡ y ∷ tail → Adding (OneOf R whole) (OneOf R rest) xs ys → Adds (R y) ys zs → Adding (OneOf R whole) (OneOf R tail) xs zs
  rest_more rest tail y ys zs e a b =
      adding_more (OneOf R whole) (OneOf R (y ∷ tail)) (R y) (OneOf R tail) xs ys zs
      (λ x q. elim q.1 [
        | inl i ↦ inl (subst (λ u. R u x) i q.2)
        | inr k ↦ inr (q.0, k, q.2)
      ])
      (subst (λ l. Adding (OneOf R whole) (OneOf R l) xs ys) e a) b

  pub rest_done : (rest : List X) (ys : List ℕ) → rest ≡ [] → Adding (OneOf R whole) (OneOf R rest) xs ys → Adds (OneOf R whole) xs ys
  rest_done rest ys e a = adding_done (OneOf R whole) (OneOf R []) xs ys (λ x q. q.1) (subst (λ l. Adding (OneOf R whole) (OneOf R l) xs ys) e a)

-- added by a walk over the entries that a growing list had at first, from an index on
module _ (R : ℕ → ℕ → Type 0) (whole xs : List ℕ) where
  pub place_more : (ys zs : List ℕ) (n x d : ℕ) → n < length xs → x ≡ slice_index_or ys n d → Adding (OneOf R whole) (OneOf R (drop n xs)) xs ys → Adds (R x) ys zs → Adding (OneOf R whole) (OneOf R (drop (n + 1) xs)) xs zs
  place_more ys zs n x d l e a b = rest_more R whole xs (drop n xs) (drop (n + 1) xs) x ys zs (at_place xs ys n d a.grown l ∙ ap (λ y. y ∷ drop (n + 1) xs) (sym e)) a b

  pub place_done : (ys : List ℕ) (n : ℕ) → length xs ≤ n → Adding (OneOf R whole) (OneOf R (drop n xs)) xs ys → Adds (OneOf R whole) xs ys
  place_done ys n l a = rest_done R whole xs (drop n xs) ys (drop_all n xs l) a
