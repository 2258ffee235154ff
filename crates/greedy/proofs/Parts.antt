-- Sublists: the remaining entries keep their order.
use Rattle.std.proofs.Common.{◌≡◌, refl, ap, sym, ◌∙◌, ℕ, true, false, eqb, eqb-true, List, [], ◌∷◌, ◌++◌, true≢false, inl, inr, ◌⊎◌}
use Rattle.std.specs.List.{IsDistinct, list_any}
use Rattle.std.proofs.lemmas.Map.Keys.{IsDistinct-tail}
use Rattle.ir_event.proofs.of_trees.Returns.{absent_first}
use Rattle.ir_event.specs.tree_laws.Reads.{comes_after}
use Rattle.greedy.proofs.Listed.{Listed, listed_at, listed_more, listed_past, second_there, after_at, after_past}
use Rattle.std.proofs.lemmas.Bool.{cases_Bool}

-- a list that is a sublist of another
abbrev pub Part : List ℕ → List ℕ → Type 0
Part [] ys = Unit {0}
Part (x ∷ xs) [] = ⊥
Part (x ∷ xs) (y ∷ ys) = ((x ≡ y) × Part xs ys) ⊎ Part (x ∷ xs) ys

pub whole : (xs : List ℕ) → Part xs xs
whole [] = tt
whole (x ∷ xs) = inl (refl, whole xs)

pub part_after : (zs xs ys : List ℕ) → Part xs ys → Part xs (zs ++ ys)
part_after [] xs ys p = p
part_after (z ∷ zs) [] ys p = tt
part_after (z ∷ zs) (x ∷ xs) ys p = inr (part_after zs (x ∷ xs) ys p)

pub part_before : (zs xs ys : List ℕ) → Part xs ys → Part xs (ys ++ zs)
part_before zs [] ys p = tt
part_before zs (x ∷ xs) [] p = absurd p
part_before zs (x ∷ xs) (y ∷ ys) (inl p) = inl (p.0, part_before zs xs ys p.1)
part_before zs (x ∷ xs) (y ∷ ys) (inr p) = inr (part_before zs (x ∷ xs) ys p)

pub part_joined : (zs xs ys : List ℕ) → Part xs ys → Part (xs ++ zs) (ys ++ zs)
part_joined zs [] ys p = part_after ys zs zs (whole zs)
part_joined zs (x ∷ xs) [] p = absurd p
part_joined zs (x ∷ xs) (y ∷ ys) (inl p) = inl (p.0, part_joined zs xs ys p.1)
part_joined zs (x ∷ xs) (y ∷ ys) (inr p) = inr (part_joined zs (x ∷ xs) ys p)

pub part_listed : (a : ℕ) (xs ys : List ℕ) → Part xs ys → Listed a xs → Listed a ys
part_listed a [] ys p h = absurd (true≢false (sym h))
part_listed a (x ∷ xs) [] p h = absurd p
part_listed a (x ∷ xs) (y ∷ ys) (inl p) h = elim (cases_Bool (eqb x a)) [
  | inl e ↦ listed_at y a ys (ap (λ z. eqb z a) (sym p.0) ∙ e)
  | inr e ↦ listed_more y a ys (part_listed a xs ys p.1 (listed_past x a xs e h))
]
part_listed a (x ∷ xs) (y ∷ ys) (inr p) h = listed_more y a ys (part_listed a (x ∷ xs) ys p h)

-- the first entry of a list without duplicates
first_once : (x a : ℕ) (xs : List ℕ) → IsDistinct eqb (x ∷ xs) → eqb x a ≡ true → list_any (λ z. eqb z a) xs ≡ false
first_once x a xs d e = ap (λ z. list_any (λ y. eqb y z) xs) (sym (eqb-true x a e)) ∙ absent_first x xs d

not_listed : (a : ℕ) (xs ys : List ℕ) → Part xs ys → list_any (λ z. eqb z a) ys ≡ false → list_any (λ z. eqb z a) xs ≡ false
not_listed a xs ys p n = elim (cases_Bool (list_any (λ z. eqb z a) xs)) [ inr k ↦ k | inl k ↦ absurd (true≢false (sym (part_listed a xs ys p k) ∙ n)) ]

pub part_order : (a b : ℕ) (xs ys : List ℕ) → IsDistinct eqb ys → Part xs ys → Listed a xs → Listed b xs → comes_after a b xs ≡ comes_after a b ys
part_order a b [] ys d p h k = absurd (true≢false (sym h))
part_order a b (x ∷ xs) [] d p h k = absurd p
part_order a b (x ∷ xs) (y ∷ ys) d (inr p) h k = part_order a b (x ∷ xs) ys (IsDistinct-tail eqb y ys d) p h k ∙ sym (after_past a b y ys other)
  where
    other : eqb y a ≡ false
    other = elim (cases_Bool (eqb y a)) [ inr e ↦ e | inl e ↦ absurd (true≢false (sym (part_listed a (x ∷ xs) ys p h) ∙ first_once y a ys d e)) ]
part_order a b (x ∷ xs) (y ∷ ys) d (inl p) h k = ap (λ z. comes_after a b (z ∷ xs)) p.0 ∙ elim (cases_Bool (eqb y a)) [
  | inl e ↦ after_at a b y xs e ∙ same e ∙ sym (after_at a b y ys e)
  | inr e ↦ after_past a b y xs e ∙ later e (λ l k. part_order a b xs ys (IsDistinct-tail eqb y ys d) p.1 l k) ∙ sym (after_past a b y ys e)
]
  where
    own : Listed a (y ∷ xs)
    own = ap (λ z. list_any (λ u. eqb u a) (z ∷ xs)) (sym p.0) ∙ h

    other : Listed b (y ∷ xs)
    other = ap (λ z. list_any (λ u. eqb u b) (z ∷ xs)) (sym p.0) ∙ k

    same : eqb y a ≡ true → list_any (λ z. eqb z b) xs ≡ list_any (λ z. eqb z b) ys
    same e = elim (cases_Bool (list_any (λ z. eqb z b) ys)) [
      | inr n ↦ not_listed b xs ys p.1 n ∙ sym n
      | inl n ↦ elim (cases_Bool (list_any (λ z. eqb z b) xs)) [
        | inl l ↦ l ∙ sym n
        | inr l ↦ absurd (true≢false (sym (elim (cases_Bool (eqb y b)) [ inl f ↦ absurd (true≢false (sym n ∙ first_once y b ys d f)) | inr f ↦ listed_past y b xs f other ]) ∙ l))
      ]
    ]

    later : eqb y a ≡ false → (Listed a xs → Listed b xs → comes_after a b xs ≡ comes_after a b ys) → comes_after a b xs ≡ comes_after a b ys
    later e f = elim (cases_Bool (eqb y b)) [
      | inr k ↦ f (listed_past y a xs e own) (listed_past y b xs k other)
      | inl k ↦ none xs (not_listed b xs ys p.1 (first_once y b ys d k)) ∙ sym (none ys (first_once y b ys d k))
    ]
      where
        none : (zs : List ℕ) → list_any (λ z. eqb z b) zs ≡ false → comes_after a b zs ≡ false
        none zs n = elim (cases_Bool (comes_after a b zs)) [ inr l ↦ l | inl l ↦ absurd (true≢false (sym (second_there a b zs l) ∙ n)) ]
