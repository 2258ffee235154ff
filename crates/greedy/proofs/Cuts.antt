-- A rewrite that stays within the pre-order range of an operation is orderly: it replaces that range with other
-- operations, and the old operations that remain keep their order.
use Rattle.std.proofs.Common.{◌≡◌, refl, ap, sym, ◌∙◌, subst, ℕ, inl, inr, ◌⊎◌, true, false, eqb, eq-eqb, List, [], ◌∷◌, ◌++◌, true≢false}
use Rattle.std.specs.List.{IsDistinct}
use Rattle.ir_event.specs.trees.Ids.{ids, find, HasDistinctIds}
use Rattle.ir_event.proofs.of_trees.Returns.{halves}
use Rattle.ir_event.specs.tree_laws.Reads.{comes_after, is_within}
use Rattle.ir_event.proofs.of_tree_laws.Listed.{bool_cases}
use Rattle.ir_event.specs.Modules.{Module}
use Rattle.greedy.specs.Orders.{Orderly}
use Rattle.greedy.proofs.Listed.{is_listed, Listed, listed_at, listed_more, listed_past, first_there, second_there, after_at, after_past}
use Rattle.std.proofs.lemmas.Bool.{false_from_ne_true}

pub left_in : (x : ℕ) (xs ys : List ℕ) → Listed x xs → Listed x (xs ++ ys)
left_in x [] ys h = absurd (true≢false (sym h))
left_in x (z ∷ xs) ys h = elim (bool_cases (eqb z x)) [
  | inl e ↦ listed_at z x (xs ++ ys) e
  | inr e ↦ listed_more z x (xs ++ ys) (left_in x xs ys (listed_past z x xs e h))
]

pub right_in : (x : ℕ) (xs ys : List ℕ) → Listed x ys → Listed x (xs ++ ys)
right_in x [] ys h = h
right_in x (z ∷ xs) ys h = listed_more z x (xs ++ ys) (right_in x xs ys h)

pub in_either : (x : ℕ) (xs ys : List ℕ) → Listed x (xs ++ ys) → (Listed x xs) ⊎ (Listed x ys)
in_either x [] ys h = inr h
in_either x (z ∷ xs) ys h = elim (bool_cases (eqb z x)) [
  | inl e ↦ inl (listed_at z x xs e)
  | inr e ↦ elim (in_either x xs ys (listed_past z x (xs ++ ys) e h)) [ inl k ↦ inl (listed_more z x xs k) | inr k ↦ inr k ]
]

-- no element is in both of two disjoint parts
pub apart : (x : ℕ) (xs ys : List ℕ) → IsDistinct eqb (xs ++ ys) → Listed x xs → Listed x ys → ⊥
apart x xs ys d h k = true≢false (sym k ∙ (halves xs ys d).disjoint x h)

-- the order of two in a list of two parts
pub crossing : (a b : ℕ) (xs ys : List ℕ) → Listed a xs → Listed b ys → comes_after a b (xs ++ ys) ≡ true
crossing a b [] ys h k = absurd (true≢false (sym h))
crossing a b (z ∷ xs) ys h k = elim (bool_cases (eqb z a)) [
  | inl e ↦ after_at a b z (xs ++ ys) e ∙ right_in b xs ys k
  | inr e ↦ after_past a b z (xs ++ ys) e ∙ crossing a b xs ys (listed_past z a xs e h) k
]

pub second : (a b : ℕ) (xs ys : List ℕ) → (Listed a xs → ⊥) → comes_after a b (xs ++ ys) ≡ comes_after a b ys
second a b [] ys n = refl
second a b (z ∷ xs) ys n = after_past a b z (xs ++ ys) (false_from_ne_true (eqb z a) (λ e. n (listed_at z a xs e))) ∙ second a b xs ys (λ h. n (listed_more z a xs h))

first_part : (a b : ℕ) (xs ys : List ℕ) → (Listed b ys → ⊥) → (Listed a ys → ⊥) → comes_after a b (xs ++ ys) ≡ comes_after a b xs
first_part a b [] ys n m = false_from_ne_true (comes_after a b ys) (λ h. m (first_there a b ys h))
first_part a b (z ∷ xs) ys n m = elim (bool_cases (eqb z a)) [
  | inl e ↦ after_at a b z (xs ++ ys) e ∙ same b xs ys n ∙ sym (after_at a b z xs e)
  | inr e ↦ after_past a b z (xs ++ ys) e ∙ first_part a b xs ys n m ∙ sym (after_past a b z xs e)
]
  where
    same : (b : ℕ) (xs ys : List ℕ) → (Listed b ys → ⊥) → is_listed b (xs ++ ys) ≡ is_listed b xs
    same b xs ys n = elim (bool_cases (is_listed b xs)) [
      | inl e ↦ left_in b xs ys e ∙ sym e
      | inr e ↦ false_from_ne_true (is_listed b (xs ++ ys)) (λ h. elim (in_either b xs ys h) [ inl k ↦ true≢false (sym k ∙ e) | inr k ↦ n k ]) ∙ sym e
    ]

backwards : (a b : ℕ) (xs ys : List ℕ) → IsDistinct eqb (xs ++ ys) → Listed a ys → Listed b xs → comes_after a b (xs ++ ys) ≡ false
backwards a b xs ys d h k = second a b xs ys (λ l. apart a xs ys d l h) ∙ false_from_ne_true (comes_after a b ys) (λ e. apart b xs ys d k (second_there a b ys e))

-- two lists that share a part, with the other parts in the same order
module _ (a b : ℕ) where
  -- the second part is replaced
  same_back : (xs ys zs : List ℕ) → IsDistinct eqb (xs ++ ys) → IsDistinct eqb (xs ++ zs) → Listed a (xs ++ ys) → Listed b (xs ++ ys) → Listed a (xs ++ zs) → Listed b (xs ++ zs)
      → (Listed a ys → Listed b ys → Listed a zs → Listed b zs → comes_after a b zs ≡ comes_after a b ys) → comes_after a b (xs ++ zs) ≡ comes_after a b (xs ++ ys)
  same_back xs ys zs dy dz ay by az bz f = elim (in_either a xs ys ay) [
    | inl ax ↦ elim (in_either b xs ys by) [
      | inl bx ↦ first_part a b xs zs (λ h. apart b xs zs dz bx h) (λ h. apart a xs zs dz ax h) ∙ sym (first_part a b xs ys (λ h. apart b xs ys dy bx h) (λ h. apart a xs ys dy ax h))
      | inr by2 ↦ crossing a b xs zs ax (other b xs zs bz (λ h. apart b xs ys dy h by2)) ∙ sym (crossing a b xs ys ax by2)
    ]
    | inr ay2 ↦
        let az2 = other a xs zs az (λ h. apart a xs ys dy h ay2) in
        elim (in_either b xs ys by) [
          | inl bx ↦ backwards a b xs zs dz az2 bx ∙ sym (backwards a b xs ys dy ay2 bx)
          | inr by2 ↦
              let bz2 = other b xs zs bz (λ h. apart b xs ys dy h by2) in
              second a b xs zs (λ h. apart a xs zs dz h az2) ∙ f ay2 by2 az2 bz2 ∙ sym (second a b xs ys (λ h. apart a xs ys dy h ay2))
        ]
  ]
    where
      other : (c : ℕ) (xs zs : List ℕ) → Listed c (xs ++ zs) → (Listed c xs → ⊥) → Listed c zs
      other c xs zs h n = elim (in_either c xs zs h) [ inl k ↦ absurd (n k) | inr k ↦ k ]

  -- the first part is replaced
  same_preceding : (xs ys zs : List ℕ) → IsDistinct eqb (ys ++ xs) → IsDistinct eqb (zs ++ xs) → Listed a (ys ++ xs) → Listed b (ys ++ xs) → Listed a (zs ++ xs) → Listed b (zs ++ xs)
      → (Listed a ys → Listed b ys → Listed a zs → Listed b zs → comes_after a b zs ≡ comes_after a b ys) → comes_after a b (zs ++ xs) ≡ comes_after a b (ys ++ xs)
  same_preceding xs ys zs dy dz ay by az bz f = elim (in_either a ys xs ay) [
    | inr ax ↦ elim (in_either b ys xs by) [
      | inr bx ↦ second a b zs xs (λ h. apart a zs xs dz h ax) ∙ sym (second a b ys xs (λ h. apart a ys xs dy h ax))
      | inl by2 ↦ backwards a b zs xs dz ax (other b zs xs bz (λ h. apart b ys xs dy by2 h)) ∙ sym (backwards a b ys xs dy ax by2)
    ]
    | inl ay2 ↦
        let az2 = other a zs xs az (λ h. apart a ys xs dy ay2 h) in
        elim (in_either b ys xs by) [
          | inr bx ↦ crossing a b zs xs az2 bx ∙ sym (crossing a b ys xs ay2 bx)
          | inl by2 ↦
              let bz2 = other b zs xs bz (λ h. apart b ys xs dy by2 h) in
              first_part a b zs xs (λ h. apart b zs xs dz bz2 h) (λ h. apart a zs xs dz az2 h) ∙ f ay2 by2 az2 bz2 ∙ sym (first_part a b ys xs (λ h. apart b ys xs dy by2 h) (λ h. apart a ys xs dy ay2 h))
        ]
  ]
    where
      other : (c : ℕ) (zs xs : List ℕ) → Listed c (zs ++ xs) → (Listed c xs → ⊥) → Listed c zs
      other c zs xs h n = elim (in_either c zs xs h) [ inl k ↦ k | inr k ↦ absurd (n k) ]

pub stretch_orderly : (x : ℕ) (m n : Module) (preceding inner back kept : List ℕ) → HasDistinctIds m.tree → HasDistinctIds n.tree → ids m.tree ≡ preceding ++ ((x ∷ inner) ++ back) → ids n.tree ≡ preceding ++ (kept ++ back)
    → ((y : ℕ) → is_within y (find x m.tree) ≡ is_listed y (x ∷ inner))
    → ((a b : ℕ) → Listed a (x ∷ inner) → Listed b (x ∷ inner) → Listed a kept → Listed b kept → comes_after a b kept ≡ comes_after a b (x ∷ inner)) → Orderly x m n
stretch_orderly x m n preceding inner back kept dm dn em en within f = record {
  stays = λ y h.
      let k : comes_after y x (preceding ++ (x ∷ (inner ++ back))) ≡ true = ap (comes_after y x) (sym em) ∙ h in
      ap (is_listed y) en ∙ left_in y preceding (kept ++ back) (in_preceding y k);
  outside = λ y h k. ap (is_listed y) en ∙ elim (in_either y preceding ((x ∷ inner) ++ back) (ap (is_listed y) (sym em) ∙ h)) [
    | inl e ↦ left_in y preceding (kept ++ back) e
    | inr e ↦ elim (in_either y (x ∷ inner) back e) [
      | inl i ↦ absurd (true≢false (sym i ∙ sym (within y) ∙ k))
      | inr i ↦ right_in y preceding (kept ++ back) (right_in y kept back i)
    ]
  ];
  order = λ a b am bm an bn.
      ap (comes_after a b) en ∙ same_back a b preceding ((x ∷ inner) ++ back) (kept ++ back) ddm ddn (ap (is_listed a) (sym em) ∙ am) (ap (is_listed b) (sym em) ∙ bm) (ap (is_listed a) (sym en) ∙ an) (ap (is_listed b) (sym en) ∙ bn)
      (λ a2 b2 a3 b3. same_preceding a b back (x ∷ inner) kept (halves preceding ((x ∷ inner) ++ back) ddm).right (halves preceding (kept ++ back) ddn).right a2 b2 a3 b3 (f a b)) ∙ sym (ap (comes_after a b) em);
}
  where
    ddm : IsDistinct eqb (preceding ++ ((x ∷ inner) ++ back))
    ddm = subst (IsDistinct eqb) em dm

    ddn : IsDistinct eqb (preceding ++ (kept ++ back))
    ddn = subst (IsDistinct eqb) en dn

    in_preceding : (y : ℕ) → comes_after y x (preceding ++ (x ∷ (inner ++ back))) ≡ true → Listed y preceding
    in_preceding y k = elim (bool_cases (is_listed y preceding)) [
      | inl e ↦ e
      | inr e ↦ absurd (
          let l : comes_after y x (x ∷ (inner ++ back)) ≡ true = sym (second y x preceding (x ∷ (inner ++ back)) (λ h. true≢false (sym h ∙ e))) ∙ k in
          not_first y l)
    ]
      where
        own : IsDistinct eqb (x ∷ (inner ++ back))
        own = (halves preceding (x ∷ (inner ++ back)) ddm).right

        absent : Listed x (inner ++ back) → ⊥
        absent h = apart x (x ∷ []) (inner ++ back) own (listed_at x x [] (eq-eqb x x refl)) h

        not_first : (y : ℕ) → comes_after y x (x ∷ (inner ++ back)) ≡ true → ⊥
        not_first y l = elim (bool_cases (eqb x y)) [
          | inl e ↦ absent (sym (after_at y x x (inner ++ back) e) ∙ l)
          | inr e ↦ absent (second_there y x (inner ++ back) (sym (after_past y x x (inner ++ back) e) ∙ l))
        ]
