-- Which of two items comes first in a list without duplicates.
use Rattle.std.proofs.Common.{◌≡◌, refl, ap, sym, ◌∙◌, subst, ℕ, Bool, true, false, true≢false, cond, ◌||◌, eqb, eq-eqb, eqb-true, List, [], ◌∷◌, ◌++◌, inl, inr}
use Rattle.std.specs.List.{list_any, IsDistinct}
use Rattle.std.proofs.lemmas.List.Folds.{list_any-append}
use Rattle.std.proofs.lemmas.Map.Keys.{IsDistinct-tail}
use Rattle.ir_store_reads.proofs.of_trees.Moves.{Absent}
use Rattle.ir_store_reads.proofs.of_trees.Returns.{Present, halves, absent_first}
use Rattle.ir_store_reads.specs.tree_laws.Reads.{comes_after}
use Rattle.ir_store_reads.proofs.of_tree_laws.Listed.{bool_cases, neither}
use Rattle.ir_store_reads.proofs.of_trees.of_types.Truths.{both_false, or_false}
use Rattle.std.proofs.lemmas.Bool.{or_right}

abbrev pub there : ℕ → List ℕ → Bool
there y xs = list_any (λ z. eqb z y) xs

joined : (y : ℕ) (xs ys : List ℕ) → there y (xs ++ ys) ≡ (there y xs || there y ys)
joined y xs ys = list_any-append (λ z. eqb z y) xs ys

pub in_preceding : (y : ℕ) (xs ys : List ℕ) → Present y xs → Present y (xs ++ ys)
in_preceding y xs ys e = joined y xs ys ∙ ap (λ b. b || there y ys) e

pub in_back : (y : ℕ) (xs ys : List ℕ) → Present y ys → Present y (xs ++ ys)
in_back y xs ys e = joined y xs ys ∙ or_right (there y xs) (there y ys) e

pub skip : (a b : ℕ) (xs ys : List ℕ) → Absent a xs → comes_after a b (xs ++ ys) ≡ comes_after a b ys
skip a b [] ys n = refl
skip a b (x ∷ xs) ys n = let c = neither (eqb x a) (there a xs) n in ap (λ e. cond e (there b (xs ++ ys)) (comes_after a b (xs ++ ys))) c.0 ∙ skip a b xs ys c.1

pub hit : (a b : ℕ) (xs ys : List ℕ) → Present a xs → Absent b xs → comes_after a b (xs ++ ys) ≡ there b ys
hit a b [] ys p n = absurd (true≢false (sym p))
hit a b (x ∷ xs) ys p n =
    let c = neither (eqb x b) (there b xs) n in
    elim (bool_cases (eqb x a)) [
      | inl k ↦ ap (λ e. cond e (there b (xs ++ ys)) (comes_after a b (xs ++ ys))) k ∙ joined b xs ys ∙ ap (λ e. e || there b ys) c.1
      | inr k ↦ ap (λ e. cond e (there b (xs ++ ys)) (comes_after a b (xs ++ ys))) k ∙ hit a b xs ys (sym (ap (λ e. e || there a xs) k) ∙ p) c.1
    ]

pub never_first : (a b : ℕ) (xs : List ℕ) → Absent a xs → comes_after a b xs ≡ false
never_first a b [] n = refl
never_first a b (x ∷ xs) n = let c = neither (eqb x a) (there a xs) n in ap (λ e. cond e (there b xs) (comes_after a b xs)) c.0 ∙ never_first a b xs c.1

pub never_later : (a b : ℕ) (xs : List ℕ) → Absent b xs → comes_after a b xs ≡ false
never_later a b [] n = refl
never_later a b (x ∷ xs) n = let c = neither (eqb x b) (there b xs) n in (λ i. cond (eqb x a) (c.1 i) (never_later a b xs c.1 i)) ∙ both_false (eqb x a)

pub cut_back : (a b : ℕ) (xs ys : List ℕ) → Absent b ys → comes_after a b (xs ++ ys) ≡ comes_after a b xs
cut_back a b [] ys n = never_later a b ys n
cut_back a b (x ∷ xs) ys n = λ i. cond (eqb x a) ((joined b xs ys ∙ ap (λ e. there b xs || e) n ∙ or_false (there b xs)) i) (cut_back a b xs ys n i)

pub not_itself : (a : ℕ) (xs : List ℕ) → IsDistinct eqb xs → comes_after a a xs ≡ false
not_itself a [] d = refl
not_itself a (x ∷ xs) d = elim (bool_cases (eqb x a)) [
  | inl k ↦ ap (λ e. cond e (there a xs) (comes_after a a xs)) k ∙ subst (λ z. Absent z xs) (eqb-true x a k) (absent_first x xs d)
  | inr k ↦ ap (λ e. cond e (there a xs) (comes_after a a xs)) k ∙ not_itself a xs (IsDistinct-tail eqb x xs d)
]

-- a list with a known segment
module _ (all preceding own back : List ℕ) (is : all ≡ preceding ++ (own ++ back)) (d : IsDistinct eqb all) where
  apart : (x : ℕ) → Present x own → Absent x preceding × Absent x back
  apart x p =
      let h = halves preceding (own ++ back) (subst (IsDistinct eqb) is d) in (
        elim (bool_cases (there x preceding)) [ inr k ↦ k | inl k ↦ absurd (true≢false (sym (in_preceding x own back p) ∙ h.disjoint x k)) ],
        (halves own back h.right).disjoint x p,
      )

  after_it : (x y : ℕ) → Present x own → Absent y own → comes_after x y all ≡ there y back
  after_it x y p n = ap (comes_after x y) is ∙ skip x y preceding (own ++ back) (apart x p).0 ∙ hit x y own back p n

  before_it : (x y : ℕ) → Present x own → Absent y own → comes_after y x all ≡ there y preceding
  before_it x y p n = elim (bool_cases (there y preceding)) [
    | inl k ↦ ap (comes_after y x) is ∙ hit y x preceding (own ++ back) k (apart x p).0 ∙ in_preceding x own back p ∙ sym k
    | inr k ↦ ap (comes_after y x) is ∙ skip y x preceding (own ++ back) k ∙ skip y x own back n ∙ never_later y x back (apart x p).1 ∙ sym k
  ]

  -- an item outside of the stretch is before all items of the stretch, or after all of them
  pub same_first : (x p y : ℕ) → Present x own → Present p own → Absent y own → comes_after x y all ≡ comes_after p y all
  same_first x p y h k n = after_it x y h n ∙ sym (after_it p y k n)

  pub same_later : (x p y : ℕ) → Present x own → Present p own → Absent y own → comes_after y x all ≡ comes_after y p all
  same_later x p y h k n = before_it x y h n ∙ sym (before_it p y k n)

  -- two items of the segment have the same order in the whole list
  pub same_within : (x y : ℕ) → Present x own → Present y own → comes_after x y all ≡ comes_after x y own
  same_within x y p q = ap (comes_after x y) is ∙ skip x y preceding (own ++ back) (apart x p).0 ∙ cut_back x y own back (apart y q).1

-- the first item is before the others
pub first_before : (p x : ℕ) (xs : List ℕ) → Present x xs → comes_after p x (p ∷ xs) ≡ true
first_before p x xs h = ap (λ e. cond e (there x xs) (comes_after p x xs)) (eq-eqb p p refl) ∙ h

pub none_before_first : (p x : ℕ) (xs : List ℕ) → IsDistinct eqb (p ∷ xs) → comes_after x p (p ∷ xs) ≡ false
none_before_first p x xs d =
    let n = absent_first p xs d in
    (λ i. cond (eqb p x) (n i) (never_later x p xs n i)) ∙ both_false (eqb p x)

pub past_first : (p x y : ℕ) (xs : List ℕ) → IsDistinct eqb (p ∷ xs) → Present x xs → comes_after x y (p ∷ xs) ≡ comes_after x y xs
past_first p x y xs d h = elim (bool_cases (eqb p x)) [
  | inr k ↦ ap (λ e. cond e (there y xs) (comes_after x y xs)) k
  | inl k ↦ absurd (true≢false (sym h ∙ subst (λ z. Absent z xs) (eqb-true p x k) (absent_first p xs d)))
]
