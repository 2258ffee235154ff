-- Pairs sorted by their first components.
use Rattle.std.proofs.Common.{◌≡◌, ℕ, ◌<◌, ◌≤◌, List, [], ◌∷◌, Bool, true, false, Option, Some, None, ◌⊎◌, inl, inr, refl, sym, ap, ◌∙◌, arith, cond, eqb, ltb-true, ltb-false}
use Rattle.std.specs.Prelude.{nat_lt}
use Rattle.std.proofs.lemmas.Bool.{eq-eqb, ne_eqb, cases_eq}
use Rattle.ir_event.specs.Rows.{insert_by_id, by_id}

module _ {V : Type 0} where
  -- the second component for an id
  abbrev pub look : ℕ → List (ℕ × V) → Option V
  look x [] = None
  look x (p ∷ ps) = cond (eqb x p.0) (Some p.1) (look x ps)

  abbrev pub Above : ℕ → List (ℕ × V) → Type 0
  Above k [] = Unit {0}
  Above k (p ∷ ps) = (k < p.0) × Above k ps

  abbrev pub Rising : List (ℕ × V) → Type 0
  Rising [] = Unit {0}
  Rising (p ∷ ps) = Above p.0 ps × Rising ps

  abbrev pub NotIn : ℕ → List (ℕ × V) → Type 0
  NotIn x [] = Unit {0}
  NotIn x (p ∷ ps) = (x ≡ p.0 → ⊥) × NotIn x ps

  look_above : (x : ℕ) (ps : List (ℕ × V)) → Above x ps → look x ps ≡ None
  look_above x [] a = refl
  look_above x (p ∷ ps) a = ap (λ b. cond b (Some p.1) (look x ps)) (ne_eqb x p.0 (λ e. let l = a.0 in omega (arith, e, l))) ∙ look_above x ps a.1

  above_less : (j k : ℕ) (ps : List (ℕ × V)) → j ≤ k → Above k ps → Above j ps
  above_less j k [] l a = tt
  above_less j k (p ∷ ps) l a = ((let b = a.0 in omega (arith, l, b)), above_less j k ps l a.1)

  pub look_here : (p : ℕ × V) (ps : List (ℕ × V)) → look p.0 (p ∷ ps) ≡ Some p.1
  look_here p ps = ap (λ b. cond b (Some p.1) (look p.0 ps)) (eq-eqb p.0 p.0 refl)

  pub look_past : (x : ℕ) (p : ℕ × V) (ps : List (ℕ × V)) → (x ≡ p.0 → ⊥) → look x (p ∷ ps) ≡ look x ps
  look_past x p ps ne = ap (λ b. cond b (Some p.1) (look x ps)) (ne_eqb x p.0 ne)

  -- sorted lists with the same components for each id are equal
  pub rising_same : (ps qs : List (ℕ × V)) → Rising ps → Rising qs → ((x : ℕ) → look x ps ≡ look x qs) → ps ≡ qs
  rising_same [] [] r s h = refl
  rising_same [] (b ∷ bs) r s h = let bad : None ≡ Some b.1 = h b.0 ∙ look_here b bs in absurd cc
  rising_same (a ∷ ps) [] r s h = let bad : Some a.1 ≡ None = sym (look_here a ps) ∙ h a.0 in absurd cc
  rising_same (a ∷ ps) (b ∷ bs) r s h = elim (cases_eq a.0 b.0) [
    | inl e ↦ let both : Some a.1 ≡ Some b.1 = sym (look_here a ps) ∙ h a.0 ∙ ap (λ x. look x (b ∷ bs)) e ∙ look_here b bs in
        let value : a.1 ≡ b.1 = cc in
        let rest : ps ≡ bs = rising_same ps bs r.1 s.1 (λ x. elim (cases_eq x a.0) [
          | inl q ↦ ap (λ y. look y ps) q ∙ look_above a.0 ps r.0 ∙ sym (ap (λ y. look y bs) (q ∙ e) ∙ look_above b.0 bs s.0)
          | inr q ↦ sym (look_past x a ps q) ∙ h x ∙ look_past x b bs (λ z. q (z ∙ sym e))
        ]) in
        λ i. (e i, value i) ∷ rest i
    | inr ne ↦ elim (less_or a.0 b.0 ne) [
      | inl l ↦ let bad : Some a.1 ≡ None = sym (look_here a ps) ∙ h a.0 ∙ look_above a.0 (b ∷ bs) (l, above_less a.0 b.0 bs (omega (arith, l)) s.0) in absurd cc
      | inr l ↦ let bad : None ≡ Some b.1 = sym (look_above b.0 (a ∷ ps) (l, above_less b.0 a.0 ps (omega (arith, l)) r.0)) ∙ h b.0 ∙ look_here b bs in absurd cc
    ]
  ]
    where
      less_or : (m n : ℕ) → (m ≡ n → ⊥) → (m < n) ⊎ (n < m)
      less_or m n ne = go (nat_lt m n) refl
        where
          go : (b : Bool) → nat_lt m n ≡ b → (m < n) ⊎ (n < m)
          go true t = inl (ltb-true m n t)
          go false t = let l = ltb-false m n t in inr (elim (cases_eq n m) [ inl e ↦ absurd (ne (sym e)) | inr q ↦ omega (arith, l, q) ])

  -- insertion into a sorted list
  put_not_in : (x : ℕ) (p : ℕ × V) (ps : List (ℕ × V)) → (x ≡ p.0 → ⊥) → NotIn x ps → NotIn x (insert_by_id p ps)
  put_not_in x p [] ne n = (ne, tt)
  put_not_in x p (q ∷ qs) ne n = elim (nat_lt q.0 p.0) as (λ b. NotIn x (cond b (q ∷ insert_by_id p qs) (p ∷ q ∷ qs))) [ true ↦ (n.0, put_not_in x p qs ne n.1) | false ↦ (ne, n) ]

  put_above : (k : ℕ) (p : ℕ × V) (ps : List (ℕ × V)) → k < p.0 → Above k ps → Above k (insert_by_id p ps)
  put_above k p [] l a = (l, tt)
  put_above k p (q ∷ qs) l a = elim (nat_lt q.0 p.0) as (λ b. Above k (cond b (q ∷ insert_by_id p qs) (p ∷ q ∷ qs))) [ true ↦ (a.0, put_above k p qs l a.1) | false ↦ (l, a) ]

  put_rising : (p : ℕ × V) (ps : List (ℕ × V)) → NotIn p.0 ps → Rising ps → Rising (insert_by_id p ps)
  put_rising p [] n r = (tt, tt)
  put_rising p (q ∷ qs) n r = go (put_rising p qs n.1 r.1) (nat_lt q.0 p.0) refl
    where
      go : Rising (insert_by_id p qs) → (b : Bool) → nat_lt q.0 p.0 ≡ b → Rising (cond b (q ∷ insert_by_id p qs) (p ∷ q ∷ qs))
      go later true t = (put_above q.0 p qs (ltb-true q.0 p.0 t) r.0, later)
      go later false t =
          let l = ltb-false q.0 p.0 t in
          let less : p.0 < q.0 = (let ne = n.0 in elim (cases_eq p.0 q.0) [ inl e ↦ absurd (ne e) | inr d ↦ omega (arith, l, d) ]) in
          ((less, above_less p.0 q.0 qs (omega (arith, less)) r.0), r)

  put_look : (x : ℕ) (p : ℕ × V) (ps : List (ℕ × V)) → NotIn p.0 ps → look x (insert_by_id p ps) ≡ look x (p ∷ ps)
  put_look x p [] n = refl
  put_look x p (q ∷ qs) n = elim (nat_lt q.0 p.0) as (λ b. look x (cond b (q ∷ insert_by_id p qs) (p ∷ q ∷ qs)) ≡ look x (p ∷ q ∷ qs)) [
    | true ↦ elim (cases_eq x q.0) [
      | inl e ↦ look_at q (insert_by_id p qs) e ∙ sym (look_past x p (q ∷ qs) (λ z. n.0 (sym z ∙ e)) ∙ look_at q qs e)
      | inr ne ↦ look_past x q (insert_by_id p qs) ne ∙ put_look x p qs n.1 ∙ ap (λ o. cond (eqb x p.0) (Some p.1) o) (sym (look_past x q qs ne))
    ]
    | false ↦ refl
  ]
    where
      look_at : (q : ℕ × V) (l : List (ℕ × V)) → x ≡ q.0 → look x (q ∷ l) ≡ Some q.1
      look_at q l e = ap (λ b. cond b (Some q.1) (look x l)) (eq-eqb x q.0 e)

  abbrev pub AllApart : List (ℕ × V) → Type 0
  AllApart [] = Unit {0}
  AllApart (p ∷ ps) = NotIn p.0 ps × AllApart ps

  by_id_not_in : (x : ℕ) (ps : List (ℕ × V)) → NotIn x ps → NotIn x (by_id ps)
  by_id_not_in x [] n = tt
  by_id_not_in x (p ∷ ps) n = put_not_in x p (by_id ps) n.0 (by_id_not_in x ps n.1)

  pub by_id_rising : (ps : List (ℕ × V)) → AllApart ps → Rising (by_id ps)
  by_id_rising [] a = tt
  by_id_rising (p ∷ ps) a = put_rising p (by_id ps) (by_id_not_in p.0 ps a.0) (by_id_rising ps a.1)

  pub by_id_look : (x : ℕ) (ps : List (ℕ × V)) → AllApart ps → look x (by_id ps) ≡ look x ps
  by_id_look x [] a = refl
  by_id_look x (p ∷ ps) a = put_look x p (by_id ps) (by_id_not_in p.0 ps a.0) ∙ ap (λ o. cond (eqb x p.0) (Some p.1) o) (by_id_look x ps a.1)
