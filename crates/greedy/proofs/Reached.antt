-- Block ends and the operations that an event reaches, as they are listed.
use Rattle.std.proofs.Common.{◌≡◌, ap, sym, ◌∙◌, subst, ℕ, ◌+◌, ◌<◌, ◌≤◌, true, true≢false, ◌||◌, eqb, eq-eqb, eqb-true, List, [], ◌∷◌, length, Option, Some, None, inl, inr, ◌⊎◌, arith}
use Rattle.std.specs.Prelude.{option_map}
use Rattle.ir_event.specs.trees.declared.value.Value.TheVariants.{Result, Arg}
use Rattle.ir_event.specs.trees.declared.place.Place.{Place}
use Rattle.ir_event.specs.trees.Tree.{Op, regions, region_count}
use Rattle.ir_event.specs.trees.Ids.{HasDistinctIds, find}
use Rattle.ir_event.specs.trees.Places.{place_of}
use Rattle.ir_event.specs.store.Nodes.{Node, node_of}
use Rattle.ir_event.specs.tree_laws.Reads.{last_at}
use Rattle.ir_event.proofs.of_tree_laws.Listed.{bool_cases, either, both}
use Rattle.greedy.specs.Reached.{is_end, ends, at_end}
use Rattle.greedy.specs.Adding.{Adding, Adds, OneOf}
use Rattle.greedy.specs.Parts.{IsAround, IsOrEnds, IsOrAtEnd, Gives}
use Rattle.greedy.proofs.Adding.{adding_none, adding_more, adding_done}
use Rattle.greedy.proofs.BlockEnds.{ending_place, ending_last, last_below}
use Rattle.std.proofs.lemmas.Option.{same_Some, none-some, same_Some}
use Rattle.effects.proofs.Reached.{counted}

-- ---- the parent of an operation that ends its block
module _ (t : Op) (d : HasDistinctIds t) where
  pub around_none : (y : ℕ) → None ≡ place_of y t → (x : ℕ) → IsAround t y x → ⊥
  around_none y e x k = let w = ending_place t d x y k in none-some (record { parent = x; region = w.0; before = None }) (e ∙ w.1)

  pub around_is : (y : ℕ) (place : Place) → Some place ≡ place_of y t → (x : ℕ) → IsAround t y x → (x ≡ place.parent) × (place.before ≡ None)
  around_is y place e x k =
      let w = ending_place t d x y k in
      let same = same_Some (record { parent = x; region = w.0; before = None }) place (sym (e ∙ w.1)) in
      (ap (λ (p : Place). p.parent) same, ap (λ (p : Place). p.before) (sym same))

  pub around_not : (y : ℕ) (place : Place) (b : ℕ) → Some place ≡ place_of y t → place.before ≡ Some b → (x : ℕ) → IsAround t y x → ⊥
  around_not y place b e f x k = let no : Some b ≡ None = sym f ∙ (around_is y place e x k).1 in absurd cc

-- ---- the last operations of blocks

-- x ends the block of one of the regions of operation p, counting a number of regions from an index on
abbrev pub IsLastAmong : ℕ → ℕ → ℕ → Op → ℕ → Type 0
IsLastAmong p from count t x = (r : ℕ) × (from ≤ r) × (r < count) × (last_at p r t ≡ Some x)

pub last_same : (p r y : ℕ) (t : Op) → Some y ≡ last_at p r t → (x : ℕ) → last_at p r t ≡ Some x → x ≡ y
last_same p r y t e x k = same_Some x y (sym (e ∙ k))

pub last_none : (p r : ℕ) (t : Op) → None ≡ last_at p r t → (x : ℕ) → last_at p r t ≡ Some x → ⊥
last_none p r t e x k = let no : None ≡ Some x = e ∙ k in absurd cc

module _ (t : Op) (d : HasDistinctIds t) where
  pub lasts_absent : (p : ℕ) → None ≡ option_map node_of (find p t) → (x : ℕ) → ends p x t ≡ true → ⊥
  lasts_absent p e x k =
      let w = ending_last t d p x k in
      let o = last_below p w.0 x t w.1 in
      let no : None ≡ Some (node_of o.0) = e ∙ ap (option_map node_of) o.1 in
      absurd cc

  pub lasts_begin : (p count : ℕ) (n : Node) → Some n ≡ option_map node_of (find p t) → count ≡ length n.arguments → (xs : List ℕ) → Adding (λ x. ends p x t ≡ true) (IsLastAmong p 0 count t) xs xs
  lasts_begin p count n e c xs = adding_none (λ x. ends p x t ≡ true) (IsLastAmong p 0 count t) xs (λ x k.
      let w = ending_last t d p x k in
      let o = last_below p w.0 x t w.1 in
      let some : Some n ≡ Some (node_of o.0) = e ∙ ap (option_map node_of) o.1 in
      let same : n ≡ node_of o.0 = cc in
      let size : count ≡ region_count (regions o.0) = c ∙ ap (λ (m : Node). length m.arguments) same ∙ counted o.0 in
      let low = o.2 in
      (w.0, omega arith, omega (arith, size, low), w.1))

pub lasts_more : (P : ℕ → Type 0) (t : Op) (p from count : ℕ) (xs ys zs : List ℕ) → Adding P (IsLastAmong p from count t) xs ys → Adds (λ x. last_at p from t ≡ Some x) ys zs → Adding P (IsLastAmong p (from + 1) count t) xs zs
lasts_more P t p from count xs ys zs a b =
    adding_more P (IsLastAmong p from count t) (λ x. last_at p from t ≡ Some x) (IsLastAmong p (from + 1) count t) xs ys zs
    (λ x q. elim (bool_cases (eqb q.0 from)) [
      | inl e ↦ inl (subst (λ r. last_at p r t ≡ Some x) (eqb-true q.0 from e) q.3)
      | inr e ↦ inr (q.0, later q.0 q.1 (λ i. true≢false (sym (eq-eqb q.0 from i) ∙ e)), q.2, q.3)
    ]) a b
  where
    later : (r : ℕ) → from ≤ r → (r ≡ from → ⊥) → from + 1 ≤ r
    later r l apart = omega (arith, l, apart)

pub lasts_end : (P : ℕ → Type 0) (t : Op) (p from count : ℕ) (xs ys : List ℕ) → count ≤ from → Adding P (IsLastAmong p from count t) xs ys → Adds P xs ys
lasts_end P t p from count xs ys l a = adding_done P (IsLastAmong p from count t) xs ys (λ x q. let low = q.1 in let high = q.2 in omega (arith, low, high, l)) a

-- ---- in two parts
pub is_or_ends : (p : ℕ) (t : Op) (x : ℕ) → IsOrEnds p t x → (x ≡ p) ⊎ (ends p x t ≡ true)
is_or_ends p t x k = elim (either (eqb p x) (ends p x t) k) [ inl e ↦ inl (sym (eqb-true p x e)) | inr e ↦ inr e ]

pub is_or_at_end : (y : ℕ) (place : Place) (t : Op) (x : ℕ) → IsOrAtEnd y place t x → (x ≡ y) ⊎ (at_end place x t ≡ true)
is_or_at_end y place t x k = elim (either (eqb y x) (at_end place x t) k) [ inl e ↦ inl (sym (eqb-true y x e)) | inr e ↦ inr e ]

pub at_no_end : (place : Place) (b : ℕ) → place.before ≡ Some b → (t : Op) (x : ℕ) → at_end place x t ≡ true → ⊥
at_no_end place b e t x k = go place.before e (both (is_end place) (eqb place.parent x || ends place.parent x t) k).0
  where
    go : (q : Option ℕ) → q ≡ Some b → is_end (record { parent = place.parent; region = place.region; before = q }) ≡ true → ⊥
    go None i h = absurd cc
    go (Some c) i h = true≢false (sym h)

pub at_the_end : (place : Place) (t : Op) (x : ℕ) → at_end place x t ≡ true → IsOrEnds place.parent t x
at_the_end place t x k = (both (is_end place) (eqb place.parent x || ends place.parent x t) k).1

-- ---- the defining operations of values
pub gives_one : (x k y : ℕ) → Gives (Result x k) y → y ≡ x
gives_one x k y e = same_Some y x (sym e)

pub gives_none : (x r k y : ℕ) → Gives (Arg x r k) y → ⊥
gives_none x r k y e = absurd cc

pub one_alone : {X : Type 0} (R : X → ℕ → Type 0) (y : X) (x : ℕ) → OneOf R (y ∷ []) x → R y x
one_alone R y x q = elim q.1 [ inl i ↦ subst (λ u. R u x) i q.2 | inr none ↦ absurd none ]

pub one_of_two : {X : Type 0} (R : X → ℕ → Type 0) (y z : X) (x : ℕ) → OneOf R (y ∷ z ∷ []) x → R y x ⊎ R z x
one_of_two R y z x q = elim q.1 [
  | inl i ↦ inl (subst (λ u. R u x) i q.2)
  | inr h ↦ elim h [ inl i ↦ inr (subst (λ u. R u x) i q.2) | inr none ↦ absurd none ]
]
