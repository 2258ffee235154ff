-- Lists in which each item is built from the results for the items before it.
use Rattle.std.specs.Prelude.{ℕ, List}
use Rattle.std.proofs.Common.{◌≡◌, zero, suc, ◌+◌, ◌<◌, ◌≤◌, [], ◌∷◌, ◌++◌, Some, length, get_or, slice_get, sym, ap, subst, refl, ◌∙◌, ◌⊎◌, inl, inr, ⊎_elim, length-append, append_assoc, arith}
use Rattle.std.proofs.Math.ListN.{get_or-append}
use Rattle.std.proofs.Math.Seq.{get_or-append_seam}
use Rattle.std.proofs.lemmas.List.{append-nil}
use Rattle.std.proofs.lemmas.Bool.{cases_lt}
use Rattle.std.proofs.lemmas.Option.{slice_get_within, slice_get-get_or}
use Rattle.ir_types_interner.specs.Built.{built, built_onto}
use Rattle.ir_types_interner.specs.Interned.{AreApart}

-- an index after a push is an earlier one, or the last
pub push_cases : {A : Type 0} (xs : List A) (x y : A) (i : ℕ) → slice_get (xs ++ x ∷ []) i ≡ Some y → (slice_get xs i ≡ Some y) ⊎ ((i ≡ length xs) × (x ≡ y))
push_cases [] x y zero e = inr (refl, cc)
push_cases [] x y (suc i) e = absurd (cc)
push_cases (z ∷ zs) x y zero e = inl e
push_cases (z ∷ zs) x y (suc i) e = ⊎_elim inl (λ p. inr (ap suc p.0, p.1)) (push_cases zs x y i e)

-- an empty list has no items
pub nothing_at : {A : Type 0} (i : ℕ) (x : A) → slice_get [] i ≡ Some x → ⊥
nothing_at zero x e = cc
nothing_at (suc i) x e = cc

-- an item keeps its index when more are added
pub place_stays : {A : Type 0} (xs ys : List A) (i : ℕ) (x : A) → slice_get xs i ≡ Some x → slice_get (xs ++ ys) i ≡ Some x
place_stays [] ys i x e = absurd (nothing_at i x e)
place_stays (z ∷ zs) ys zero x e = e
place_stays (z ∷ zs) ys (suc i) x e = place_stays zs ys i x e

-- the item added last is at the index of the old length
pub last_place : {A : Type 0} (xs : List A) (x : A) → slice_get (xs ++ x ∷ []) (length xs) ≡ Some x
last_place [] x = refl
last_place (y ∷ ys) x = last_place ys x

-- induction on the end of a list
pub by_end : {A : Type 0} (P : List A → Type 0) → P [] → ((xs : List A) (x : A) → P xs → P (xs ++ x ∷ [])) → (xs : List A) → P xs
by_end {A} P start step xs = go [] xs start
  where
    go : (preceding rest : List A) → P preceding → P (preceding ++ rest)
    go preceding [] p = subst P (sym (append-nil preceding)) p
    go preceding (x ∷ rest) p = subst P (append_assoc preceding (x ∷ []) rest) (go (preceding ++ x ∷ []) rest (step preceding x p))

-- two lists have the same items below an index
abbrev pub Agree : {B : Type 0} → B → ℕ → List B → List B → Type 0
Agree d n ys zs = (i : ℕ) → i < n → get_or ys i d ≡ get_or zs i d

-- a list and a longer one have the same items below its length
pub agree_longer : {B : Type 0} (d : B) (n : ℕ) (ys zs : List B) → n ≤ length ys → Agree d n (ys ++ zs) ys
agree_longer d n ys zs h i k = get_or-append ys zs d i (omega arith)

module _ {A B : Type 0} (make : List B → A → B) where
  pub built_onto-append : (done : List B) (xs ys : List A) → built_onto make done (xs ++ ys) ≡ built_onto make (built_onto make done xs) ys
  built_onto-append done [] ys = refl
  built_onto-append done (x ∷ xs) ys = built_onto-append (done ++ make done x ∷ []) xs ys

  pub built-push : (xs : List A) (x : A) → built make (xs ++ x ∷ []) ≡ built make xs ++ make (built make xs) x ∷ []
  built-push xs x = built_onto-append [] xs (x ∷ [])

  pub length-built_onto : (done : List B) (xs : List A) → length (built_onto make done xs) ≡ length done + length xs
  length-built_onto done [] = omega arith
  length-built_onto done (x ∷ xs) = omega (arith, length-built_onto (done ++ make done x ∷ []) xs, length-append done (make done x ∷ []))

  pub length-built : (xs : List A) → length (built make xs) ≡ length xs
  length-built xs = omega (arith, length-built_onto [] xs)

  -- earlier results are kept when the list grows
  pub built_onto_preceding : (done : List B) (xs : List A) → (more : List B) × (built_onto make done xs ≡ done ++ more)
  built_onto_preceding done [] = ([], sym (append-nil done))
  built_onto_preceding done (x ∷ xs) =
      let rest = built_onto_preceding (done ++ make done x ∷ []) xs in
      (make done x ∷ rest.0, rest.1 ∙ append_assoc done (make done x ∷ []) rest.0)

  pub built_preceding : (xs ys : List A) → (more : List B) × (built make (xs ++ ys) ≡ built make xs ++ more)
  built_preceding xs ys =
      let rest = built_onto_preceding (built make xs) ys in
      (rest.0, built_onto-append [] xs ys ∙ rest.1)

  pub built_agree : (d : B) (n : ℕ) (xs ys : List A) → n ≤ length xs → Agree d n (built make (xs ++ ys)) (built make xs)
  built_agree d n xs ys h i k =
      let rest = built_preceding xs ys in
      ap (λ l. get_or l i d) rest.1 ∙ get_or-append (built make xs) rest.0 d i (omega (arith, length-built xs))

-- two functions that agree on each item of a list build the same list
pub built_onto_same : {A B : Type 0} (make other : List B → A → B) (done : List B) (xs : List A) → ((i : ℕ) (x : A) → slice_get xs i ≡ Some x → (known : List B) → make known x ≡ other known x) → built_onto make done xs ≡ built_onto other done xs
built_onto_same make other done [] same = refl
built_onto_same make other done (x ∷ xs) same =
    built_onto_same make other (done ++ make done x ∷ []) xs (λ i y at. same (suc i) y at)
    ∙ ap (λ b. built_onto other (done ++ b ∷ []) xs) (same zero x refl done)

pub built_same : {A B : Type 0} (make other : List B → A → B) (xs : List A) → ((i : ℕ) (x : A) → slice_get xs i ≡ Some x → (known : List B) → make known x ≡ other known x) → built make xs ≡ built other xs
built_same make other xs same = built_onto_same make other [] xs same

-- all items of a list are distinct
abbrev pub AreTold : {B : Type 0} → B → List B → Type 0
AreTold d done = (i j : ℕ) → i < length done → j < length done → get_or done i d ≡ get_or done j d → i ≡ j

-- the result for an item depends only on the earlier items that it refers to
module _ {A B : Type 0} (make : List B → A → B) (d : B) (Below : ℕ → A → Type 0) (closely : (n : ℕ) (ys zs : List B) → Agree d n ys zs → (x : A) → Below n x → make ys x ≡ make zs x) where
  -- each item refers only to earlier items
  abbrev pub IsClosed : List A → Type 0
  IsClosed xs = (i : ℕ) (x : A) → slice_get xs i ≡ Some x → Below i x

  pub closed_preceding : (xs : List A) (x : A) → IsClosed (xs ++ x ∷ []) → IsClosed xs
  closed_preceding xs x h i y at = h i y (place_stays xs (x ∷ []) i y at)

  -- the result for an item, when it is added, is its result in the whole list
  pub built_is : (xs : List A) → IsClosed xs → (i : ℕ) (x : A) → slice_get xs i ≡ Some x → get_or (built make xs) i d ≡ make (built make xs) x
  built_is = by_end (λ xs. IsClosed xs → (i : ℕ) (x : A) → slice_get xs i ≡ Some x → get_or (built make xs) i d ≡ make (built make xs) x)
      (λ closed i x at. absurd (nothing_at i x at))
      (λ xs x ih closed i y at.
      let done = built make xs in
      let t = make done x in
      let len : length done ≡ length xs = length-built make xs in
      subst (λ l. get_or l i d ≡ make l y) (sym (built-push make xs x))
      (⊎_elim
      (λ (p : slice_get xs i ≡ Some y).
      let within = slice_get_within xs i y p in
      get_or-append done (t ∷ []) d i (omega arith) ∙ ih (closed_preceding xs x closed) i y p ∙ sym (closely i (done ++ t ∷ []) done (agree_longer d i done (t ∷ []) (omega arith)) y (closed i y at)))
      (λ (p : (i ≡ length xs) × (x ≡ y)).
      let at_end : i ≡ length done = omega (arith, p.0) in
      ap (λ k. get_or (done ++ t ∷ []) k d) at_end ∙ get_or-append_seam done t [] d ∙ ap (make done) p.1 ∙ sym (closely i (done ++ t ∷ []) done (agree_longer d i done (t ∷ []) (omega arith)) y (closed i y at)))
      (push_cases xs x y i at)))

  -- if the function is injective, distinct items have distinct results
  module _ (more : (m n : ℕ) (x : A) → m ≤ n → Below m x → Below n x) (one : (done : List B) → AreTold d done → (a b : A) → Below (length done) a → Below (length done) b → make done a ≡ make done b → a ≡ b) where
    apart_preceding : (xs : List A) (x : A) → AreApart (xs ++ x ∷ []) → AreApart xs
    apart_preceding xs x h i j y a b = h i j y (place_stays xs (x ∷ []) i y a) (place_stays xs (x ∷ []) j y b)

    -- an earlier item isn't the next one
    not_next : (xs : List A) (x : A) → IsClosed (xs ++ x ∷ []) → AreApart (xs ++ x ∷ []) → AreTold d (built make xs) → (i : ℕ) → i < length xs → get_or (built make xs) i d ≡ make (built make xs) x → ⊥
    not_next xs x closed apart reported i h e =
        let done = built make xs in
        let len : length done ≡ length xs = length-built make xs in
        let node = get_or xs i x in
        let at : slice_get xs i ≡ Some node = slice_get-get_or xs i x h in
        let below : Below (length done) x = subst (λ n. Below n x) (sym len) (closed (length xs) x (last_place xs x)) in
        let is : get_or done i d ≡ make done node = built_is xs (closed_preceding xs x closed) i node at in
        let same : node ≡ x = one done reported node x (more i (length done) node (omega arith) (closed_preceding xs x closed i node at)) below (sym is ∙ e) in
        let place : i ≡ length xs = apart i (length xs) x (place_stays xs (x ∷ []) i x (at ∙ ap Some same)) (last_place xs x) in
        absurd (omega arith)

    pub built_reported : (xs : List A) → IsClosed xs → AreApart xs → AreTold d (built make xs)
    built_reported = by_end (λ xs. IsClosed xs → AreApart xs → AreTold d (built make xs))
        (λ closed apart i j h k e. absurd (omega arith))
        (λ xs x ih closed apart.
        let done = built make xs in
        let t = make done x in
        let reported = ih (closed_preceding xs x closed) (apart_preceding xs x apart) in
        let len : length done ≡ length xs = length-built make xs in
        let not = not_next xs x closed apart reported in
        let long : length (done ++ t ∷ []) ≡ length done + 1 = length-append done (t ∷ []) in
        let last : get_or (done ++ t ∷ []) (length done) d ≡ t = get_or-append_seam done t [] d in
        let early = get_or-append done (t ∷ []) d in
        subst (AreTold d) (sym (built-push make xs x)) (λ i j h k e.
        ⊎_elim
        (λ (p : i < length done). ⊎_elim
        (λ (q : j < length done). reported i j p q (sym (early i p) ∙ e ∙ early j q))
        (λ (q : length done ≤ j). let r : j ≡ length done = omega arith in absurd (not i (omega arith) (sym (early i p) ∙ e ∙ ap (λ n. get_or (done ++ t ∷ []) n d) r ∙ last)))
        (cases_lt j (length done)))
        (λ (p : length done ≤ i). ⊎_elim
        (λ (q : j < length done). let r : i ≡ length done = omega arith in absurd (not j (omega arith) (sym (early j q) ∙ sym e ∙ ap (λ n. get_or (done ++ t ∷ []) n d) r ∙ last)))
        (λ (q : length done ≤ j). omega arith)
        (cases_lt j (length done)))
        (cases_lt i (length done))))
