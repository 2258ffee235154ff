-- The known values of a tree, ordered by id.
use Rattle.std.proofs.Common.{◌≡◌, ℕ, List, [], ◌∷◌, true, false, Option, Some, None, ◌⊎◌, inl, inr, refl, sym, ap, ◌∙◌, cond, eqb}
use Rattle.std.proofs.lemmas.Bool.{eq-eqb, ne_eqb, cases_eq}
use Rattle.std.specs.List.{IsDistinct, AllByRecursion}
use Rattle.std.proofs.lemmas.Map.Keys.{IsDistinct-head, IsDistinct-tail}
use Rattle.std.proofs.Common.{◌++◌, true≢false, subst, map}
use Rattle.ir_event.specs.trees.Ids.{ids, first_of, HasDistinctIds}
use Rattle.ir_event.specs.trees.Meaning.{Operation}
use Rattle.ir_event.specs.tree_laws.Members.{In}
use Rattle.dialects_int.specs.Folds.{Known}
use Rattle.ir_event.specs.Heads.{heads}
use Rattle.constants.specs.Facts.{Header, Facts}
use Rattle.constants.specs.Walk.{nothing, facts_of, visited_after}
use Rattle.constants.proofs.Walks.{walk_outside}
use Rattle.ir_event.proofs.Flat.{heads_ids}
use Rattle.ir_event.proofs.ById.{look, NotIn, Rising, AllApart, by_id_rising, by_id_look}
use Rattle.constants.specs.Rows.{pair_if, known_among, constants_of}

pair_look : (x y : ℕ) (k : Option Known) (rest : List (ℕ × Known)) → look x (pair_if y k ++ rest) ≡ cond (eqb x y) (first_of k (look x rest)) (look x rest)
pair_look x y None rest = elim (eqb x y) as (λ b. look x rest ≡ cond b (look x rest) (look x rest)) [ true ↦ refl | false ↦ refl ]
pair_look x y (Some k) rest = refl

pair_not_in : (x y : ℕ) (k : Option Known) (rest : List (ℕ × Known)) → (x ≡ y → ⊥) → NotIn x rest → NotIn x (pair_if y k ++ rest)
pair_not_in x y None rest ne n = n
pair_not_in x y (Some k) rest ne n = (ne, n)

among_not_in : (t : Facts) (x : ℕ) (xs : List ℕ) → AllByRecursion (λ y. eqb x y ≡ false) xs → NotIn x (known_among t xs)
among_not_in t x [] a = tt
among_not_in t x (y ∷ xs) a = pair_not_in x y (t y) (known_among t xs) (λ e. true≢false (sym (eq-eqb x y e) ∙ a.0)) (among_not_in t x xs a.1)

not_in_look : (x : ℕ) (ps : List (ℕ × Known)) → NotIn x ps → look x ps ≡ None
not_in_look x [] n = refl
not_in_look x (p ∷ ps) n = ap (λ b. cond b (Some p.1) (look x ps)) (ne_eqb x p.0 n.0) ∙ not_in_look x ps n.1

among_apart : (t : Facts) (xs : List ℕ) → IsDistinct eqb xs → AllApart (known_among t xs)
among_apart t [] d = tt
among_apart t (x ∷ xs) d = go (t x) (among_apart t xs (IsDistinct-tail eqb x xs d))
  where
    go : (k : Option Known) → AllApart (known_among t xs) → AllApart (pair_if x k ++ known_among t xs)
    go None later = later
    go (Some k) later = (among_not_in t x xs (IsDistinct-head eqb x xs d), later)

among_look : (t : Facts) (x : ℕ) (xs : List ℕ) → IsDistinct eqb xs → ((In x xs → ⊥) → t x ≡ None) → look x (known_among t xs) ≡ t x
among_look t x [] d out = sym (out (λ h. h))
among_look t x (y ∷ xs) d out = elim (cases_eq x y) [
  | inl e ↦ (let none : look x (known_among t xs) ≡ None = not_in_look x (known_among t xs) (subst (λ z. NotIn z (known_among t xs)) (sym e) (among_not_in t y xs (IsDistinct-head eqb y xs d))) in
      pair_look x y (t y) (known_among t xs)
      ∙ ap (λ b. cond b (first_of (t y) (look x (known_among t xs))) (look x (known_among t xs))) (eq-eqb x y e)
      ∙ ap (first_of (t y)) none
      ∙ last (t y)
      ∙ ap t (sym e))
  | inr ne ↦ pair_look x y (t y) (known_among t xs)
      ∙ ap (λ b. cond b (first_of (t y) (look x (known_among t xs))) (look x (known_among t xs))) (ne_eqb x y ne)
      ∙ among_look t x xs (IsDistinct-tail eqb y xs d) (λ non. out (λ h. elim h [ inl e ↦ ne e | inr k ↦ non k ]))
]
  where
    last : (k : Option Known) → first_of k None ≡ k
    last None = refl
    last (Some k) = refl

visited_in : (visited : List ℕ) (hs : List Header) (x : ℕ) → In x (visited_after visited hs) → In x visited ⊎ In x (map (λ (h : Header). h.id) hs)
visited_in visited [] x h = inl h
visited_in visited (n ∷ hs) x h = elim (visited_in (n.id ∷ visited) hs x h) [ inl k ↦ elim k [ inl e ↦ inr (inl e) | inr g ↦ inl g ] | inr k ↦ inr (inr k) ]

visited_ids : (t : Operation) (x : ℕ) → In x (visited_after [] (heads t)) → In x (ids t)
visited_ids t x h = elim (visited_in [] (heads t) x h) [ inl k ↦ absurd k | inr k ↦ subst (In x) (heads_ids t) k ]

pub constants_rising : (t : Operation) → HasDistinctIds t → Rising (constants_of t)
constants_rising t d = by_id_rising (known_among (facts_of t) (ids t)) (among_apart (facts_of t) (ids t) d)

pub constants_look : (t : Operation) → HasDistinctIds t → (x : ℕ) → look x (constants_of t) ≡ facts_of t x
constants_look t d x = by_id_look x (known_among (facts_of t) (ids t)) (among_apart (facts_of t) (ids t) d) ∙ among_look (facts_of t) x (ids t) d (λ out. walk_outside [] (heads t) nothing x (λ h. out (visited_ids t x h)))
