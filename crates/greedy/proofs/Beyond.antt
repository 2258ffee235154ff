-- Operations after everything inside another operation, and lists of operations that are apart from it.
use Rattle.std.proofs.Common.{◌≡◌, refl, ap, sym, ◌∙◌, subst, ℕ, suc, ◌-◌, Bool, true, true≢false, cond, eqb, eq-eqb, List, [], ◌∷◌, ◌++◌, append_assoc, arith, filter, length, Option, Some, None, inl, inr, slice_get}
use Rattle.std.specs.List.{IsDistinct}
use Rattle.std.proofs.lemmas.Bool.{false_from_ne_true}
use Rattle.std.proofs.lemmas.Option.{same_Some}
use Rattle.ir_event.specs.store.Ends.{ids_in}
use Rattle.ir_event.specs.trees.Tree.{OpOf}
use Rattle.ir_event.specs.trees.Ids.{ids, find, HasDistinctIds}
use Rattle.ir_event.specs.trees.Meaning.{Operation}
use Rattle.ir_event.specs.tree_laws.Reads.{comes_after, is_within, precedes}
use Rattle.ir_event.proofs.of_tree_laws.Members.{found_stands}
use Rattle.ir_event.proofs.of_types.Truths.{append_none}
use Rattle.greedy.specs.Following.{trailing}
use Rattle.greedy.specs.LocalContext.{is_listed}
use Rattle.greedy.specs.Orders.{IsBeyond}
use Rattle.greedy.specs.Work.{AreApart, Falls}
use Rattle.greedy.proofs.Cuts.{apart, crossing, left_in, second}
use Rattle.greedy.proofs.Following.{cut_op}
use Rattle.greedy.proofs.Listed.{first_there, listed_at, listed_more, second_there}
use Rattle.greedy.proofs.Order.{after_from_rank, rises}
use Rattle.greedy.proofs.Works.{falls_preceding, listed_end, not_both, not_itself}

module _ {N T A : Type 0} (t : OpOf N T A) (d : HasDistinctIds t) where
  pub then_after : (a b c : ℕ) → precedes a b t ≡ true → precedes b c t ≡ true → precedes a c t ≡ true
  then_after a b c h k = after_from_rank a c (ids t) (first_there a b (ids t) h) (second_there b c (ids t) k) (omega (arith, rises a b (ids t) d h, rises b c (ids t) d k))

  -- the last operation inside x comes after the others
  last_after : (x y z : ℕ) (o : OpOf N T A) → find x t ≡ Some o → (ys : List ℕ) → ids o ≡ ys ++ y ∷ [] → is_listed z ys ≡ true → precedes z y t ≡ true
  last_after x y z o f ys e h =
      let s = found_stands x t o f in
      let c = cut_op [] t s.0 s.1 in
      let back = trailing s.0.path in
      let is : ids t ≡ c.0 ++ (ys ++ (y ∷ back)) =
      sym (append_none (ids t)) ∙ c.1 ∙ ap (λ (q : OpOf N T A). c.0 ++ (ids q ++ back)) s.3 ∙ ap (λ l. c.0 ++ (l ++ back)) e ∙ ap (λ l. c.0 ++ l) (append_assoc ys (y ∷ []) back) in
      let own : IsDistinct eqb (c.0 ++ (ys ++ (y ∷ back))) = subst (IsDistinct eqb) is d in
      ap (comes_after z y) is
      ∙ second z y c.0 (ys ++ (y ∷ back)) (λ k. apart z c.0 (ys ++ (y ∷ back)) own k (left_in z ys (y ∷ back) h))
      ∙ crossing z y ys (y ∷ back) h (listed_at y y back (eq-eqb y y refl))

  -- an operation after the last one inside x is beyond x
  pub beyond_last : (x y other : ℕ) (ys : List ℕ) → ids_in (find x t) ≡ ys ++ y ∷ [] → precedes y other t ≡ true → IsBeyond x other t
  beyond_last x y other ys e p z h = go (find x t) refl e h
    where
      go : (f : Option (OpOf N T A)) → find x t ≡ f → ids_in f ≡ ys ++ y ∷ [] → is_within z f ≡ true → precedes z other t ≡ true
      go None i k w = absurd (true≢false (sym w))
      go (Some o) i k w = elim (listed_end z ys y (subst (λ l. is_listed z l ≡ true) k w)) [
        | inl j ↦ then_after z y other (last_after x y z o i ys k j) p
        | inr j ↦ subst (λ v. precedes v other t ≡ true) (sym j) p
      ]

  pub beyond_none : (x other : ℕ) → find x t ≡ None → IsBeyond x other t
  beyond_none x other e z h = absurd (true≢false (sym h ∙ ap (is_within z) e))

-- a list in reverse pre-order is apart from x if its last entry is beyond x
module _ (t : Operation) (d : HasDistinctIds t) where
  pub apart_by_last : (x y : ℕ) (ys : List ℕ) → Falls t (ys ++ y ∷ []) → IsBeyond x y t → AreApart x (ys ++ y ∷ []) t
  apart_by_last x y ys f b z h = false_from_ne_true (is_within z (find x t)) (λ w. elim (listed_end z ys y h) [
    | inl k ↦ not_both t d z y (b z w) ((falls_preceding t d ys y f).1 z k)
    | inr k ↦ not_itself t d y (subst (λ v. precedes v y t ≡ true) k (b z w))
  ])

-- the last entry of a list
pub last_split : (xs : List ℕ) (x : ℕ) → slice_get xs (length xs - 1) ≡ Some x → (ys : List ℕ) × (xs ≡ ys ++ x ∷ [])
last_split [] x e = absurd cc
last_split (y ∷ []) x e = ([], ap (λ z. z ∷ []) (same_Some y x e))
last_split (y ∷ z ∷ zs) x e =
    let one : length (y ∷ z ∷ zs) - 1 ≡ suc (length (z ∷ zs) - 1) = omega arith in
    let w = last_split (z ∷ zs) x (ap (slice_get (y ∷ z ∷ zs)) (sym one) ∙ e) in
    (y ∷ w.0, ap (λ l. y ∷ l) w.1)

-- a filter that every entry passes
pub kept_all : (p : ℕ → Bool) (xs : List ℕ) → ((z : ℕ) → is_listed z xs ≡ true → p z ≡ true) → filter p xs ≡ xs
kept_all p [] f = refl
kept_all p (x ∷ xs) f =
    ap (λ b. cond b (x ∷ filter p xs) (filter p xs)) (f x (listed_at x x xs (eq-eqb x x refl)))
    ∙ ap (λ l. x ∷ l) (kept_all p xs (λ z h. f z (listed_more x z xs h)))
