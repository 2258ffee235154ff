-- The meaning of reading a link.
use Rattle.std.proofs.Common.{◌≡◌, ℕ, ◌<◌, List, [], ◌∷◌, get_or, refl, sym, ap, ◌∙◌, length, true, eqb, cond, ⊎_elim, Option, Some, None, slice_get}
use Rattle.std.proofs.lemmas.Bool.{eqb-true, eq-eqb, ne_eqb, cond-true, cond-false, cond_both, false≢true, or_cases}
use Rattle.std.proofs.lemmas.List.{get_or-map}
use Rattle.ir_store_lists.specs.Lists.{free, home_at, has, after, before, last_of}
use Rattle.ir_store_lists.specs.Ring.{Ring, at, nexts, prevs, homes}
use Rattle.ir_store_lists.specs.declared.link.Link.{Link}

pub read_home : (links : List Link) (i : ℕ) (l : Link) → i < length links → l ≡ get_or links i l → home_at (homes links) i ≡ l.home
read_home links i l k e = get_or-map (λ x. x.home) links i l free k ∙ sym (ap (λ x. x.home) e)

pub read_next : (links : List Link) (i : ℕ) (l : Link) → i < length links → l ≡ get_or links i l → at (nexts links) i ≡ l.next
read_next links i l k e = get_or-map (λ x. x.next) links i l 0 k ∙ sym (ap (λ x. x.next) e)

pub read_prev : (links : List Link) (i : ℕ) (l : Link) → i < length links → l ≡ get_or links i l → at (prevs links) i ≡ l.prev
read_prev links i l k e = get_or-map (λ x. x.prev) links i l 0 k ∙ sym (ap (λ x. x.prev) e)

-- a node, unless it is the head of the list
abbrev pub item : ℕ → ℕ → Option ℕ
item h n = cond (eqb n h) None (Some n)

pub no_item : (h n : ℕ) → n ≡ h → item h n ≡ None
no_item h n e = cond-true (eqb n h) None (Some n) (eq-eqb n h e)

pub some_item : (h n : ℕ) → (n ≡ h → ⊥) → item h n ≡ Some n
some_item h n e = cond-false (eqb n h) None (Some n) (ne_eqb n h e)

module _ (nx pv hm : ℕ → ℕ) (h : ℕ) where
  pub first_none : (a n : ℕ) (xs : List ℕ) → nx a ≡ n → n ≡ h → Ring nx pv hm h a xs h → None ≡ slice_get xs 0
  first_none a n [] e f r = refl
  first_none a n (x ∷ xs) e f r = absurd (r.1.0.1 (sym r.0.0 ∙ e ∙ f))

  pub first_some : (a n : ℕ) (xs : List ℕ) → nx a ≡ n → (n ≡ h → ⊥) → Ring nx pv hm h a xs h → Some n ≡ slice_get xs 0
  first_some a n [] e f r = absurd (f (sym e ∙ r.0))
  first_some a n (x ∷ xs) e f r = ap Some (sym e ∙ r.0.0)

  pub after_none : (i n a : ℕ) (xs : List ℕ) → nx i ≡ n → n ≡ h → has i xs ≡ true → Ring nx pv hm h a xs h → None ≡ after i xs
  after_none i n a [] e f t r = absurd (false≢true t)
  after_none i n a (x ∷ xs) e f t r = cond_both (eqb x i) (slice_get xs 0) (after i xs) (λ z. None ≡ z)
      (λ s. first_none x n xs (ap nx (eqb-true x i s) ∙ e) f r.1.1)
      (λ s. after_none i n x xs e f (⊎_elim (λ g. absurd (false≢true (sym s ∙ g))) (λ g. g) (or_cases (eqb x i) (has i xs) t)) r.1.1)

  pub after_some : (i n a : ℕ) (xs : List ℕ) → nx i ≡ n → (n ≡ h → ⊥) → has i xs ≡ true → Ring nx pv hm h a xs h → Some n ≡ after i xs
  after_some i n a [] e f t r = absurd (false≢true t)
  after_some i n a (x ∷ xs) e f t r = cond_both (eqb x i) (slice_get xs 0) (after i xs) (λ z. Some n ≡ z)
      (λ s. first_some x n xs (ap nx (eqb-true x i s) ∙ e) f r.1.1)
      (λ s. after_some i n x xs e f (⊎_elim (λ g. absurd (false≢true (sym s ∙ g))) (λ g. g) (or_cases (eqb x i) (has i xs) t)) r.1.1)

  -- the head's back link leads to the last node
  pub last_read : (a : ℕ) (xs : List ℕ) → Ring nx pv hm h a xs h → last_of (item h a) xs ≡ item h (pv h)
  last_read a [] r = ap (item h) (sym r.1)
  last_read a (x ∷ xs) r = ap (λ z. last_of z xs) (sym (some_item h x r.1.0.1)) ∙ last_read x xs r.1.1

  -- a node's back link leads to the node before
  pub before_read : (i a : ℕ) (xs : List ℕ) → has i xs ≡ true → Ring nx pv hm h a xs h → before i (item h a) xs ≡ item h (pv i)
  before_read i a [] t r = absurd (false≢true t)
  before_read i a (x ∷ xs) t r = cond_both (eqb x i) (item h a) (before i (Some x) xs) (λ z. z ≡ item h (pv i))
      (λ s. ap (item h) (sym r.0.1 ∙ ap pv (eqb-true x i s)))
      (λ s.
      ap (λ z. before i z xs) (sym (some_item h x r.1.0.1))
      ∙ before_read i x xs (⊎_elim (λ g. absurd (false≢true (sym s ∙ g))) (λ g. g) (or_cases (eqb x i) (has i xs) t)) r.1.1)
