-- The neighbours of a node of a list.
use Rattle.std.proofs.Common.{◌≡◌, ℕ, ◌<◌, List, [], ◌∷◌, refl, sym, ap, ◌∙◌, subst, length, true, eqb, ⊎_elim, arith}
use Rattle.std.proofs.lemmas.Bool.{eqb-true, false≢true, or_cases, cases_lt}
use Rattle.std.proofs.lemmas.List.{get_or_past}
use Rattle.ir_store_lists.specs.Lists.{free, list_at, home_at, IsHead, IsItem, has}
use Rattle.ir_store_lists.specs.Ring.{Ring, Sound, at}

-- a node with a home is a node
pub home_inside : (home : List ℕ) (i : ℕ) → (home_at home i ≡ free → ⊥) → i < length home
home_inside home i n = ⊎_elim (λ l. l) (λ g. absurd (n (get_or_past home i free g))) (cases_lt i (length home))

-- the links of the neighbours of node i
pub record Between (nx pv : ℕ → ℕ) (n i : ℕ) : Type 0 where
  pub before : nx (pv i) ≡ i
  pub after : pv (nx i) ≡ i
  pub prev_inside : pv i < n
  pub next_inside : nx i < n

module _ (nx pv hm : ℕ → ℕ) (n h : ℕ) (inside : (x : ℕ) → hm x ≡ h → x < n) where
  -- the end of a list
  pub at_end : (a : ℕ) (xs : List ℕ) (b : ℕ) → a < n → Ring nx pv hm h a xs b → (nx (pv b) ≡ b) × (pv b < n)
  at_end a [] b l r = (ap nx r.1 ∙ r.0, subst (λ z. z < n) (sym r.1) l)
  at_end a (x ∷ xs) b l r = at_end x xs b (inside x r.1.0.0) r.1.1

  -- the start of a list
  pub at_start : (a : ℕ) (xs : List ℕ) (b : ℕ) → b < n → Ring nx pv hm h a xs b → (pv (nx a) ≡ a) × (nx a < n)
  at_start a [] b l r = (ap pv r.0 ∙ r.1, subst (λ z. z < n) (sym r.0) l)
  at_start a (x ∷ xs) b l r = (ap pv r.0.0 ∙ r.0.1, subst (λ z. z < n) (sym r.0.0) (inside x r.1.0.0))

  pub intermediate : (i a : ℕ) (xs : List ℕ) (b : ℕ) → a < n → b < n → has i xs ≡ true → Ring nx pv hm h a xs b → Between nx pv n i
  intermediate i a [] b la lb t r = absurd (false≢true t)
  intermediate i a (x ∷ xs) b la lb t r = ⊎_elim
      (λ e.
      let same : x ≡ i = eqb-true x i e in
      let trailing = at_start x xs b lb r.1.1 in
      let here : Between nx pv n x = record {
        before = ap nx r.0.1 ∙ r.0.0;
        after = trailing.0;
        prev_inside = subst (λ z. z < n) (sym r.0.1) la;
        next_inside = trailing.1;
      } in
      subst (Between nx pv n) same here)
      (λ e. intermediate i x xs b (inside x r.1.0.0) lb e r.1.1)
      (or_cases (eqb x i) (has i xs) t)

-- the neighbours of an item
pub item_between : (next prev home : List ℕ) (ls : List (List ℕ)) (i : ℕ) → Sound next prev home ls → IsItem home i → Between (at next) (at prev) (length home) i
item_between next prev home ls i s item =
    let h = home_at home i in
    let head = s.heads i item in
    intermediate (at next) (at prev) (home_at home) (length home) h
    (λ x e. home_inside home x (λ f. let g : h ≡ free = sym e ∙ f in item.linked g))
    i h (list_at ls h) h head.inside head.inside (s.covers h i head refl (λ e. item.other (sym e))) (s.rings h head)

-- the node before the head of a list
pub head_prev_inside : (next prev home : List ℕ) (ls : List (List ℕ)) (h : ℕ) → Sound next prev home ls → IsHead home h → at prev h < length home
head_prev_inside next prev home ls h s head =
    (at_end (at next) (at prev) (home_at home) (length home) h
    (λ x e. home_inside home x (λ f. let g : h ≡ free = sym e ∙ f in let k : h < length home = head.inside in let few : length home < free = s.few in omega arith))
    h (list_at ls h) h head.inside (s.rings h head)).1
