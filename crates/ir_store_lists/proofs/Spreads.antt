-- The labels after a list is relabelled.
use Rattle.std.proofs.Common.{◌≡◌, ℕ, ◌+◌, ◌*◌, ◌<◌, ◌≤◌, List, [], ◌∷◌, set, refl, sym, ap, ◌∙◌, subst, length, Bool, true, false, eqb, ◌||◌, ⊎_elim, arith}
use Rattle.std.proofs.lemmas.Bool.{cases_eq, eqb-true, eq-eqb, ne_eqb, cond-true, cond-false, false≢true, or_cases, or_left, or_right, or_parts}
use Rattle.std.proofs.Math.Nat.{mul-suc}
use Rattle.std.proofs.lemmas.List.{get_or-set_same, get_or-set_other, length-set}
use Rattle.ir_store_lists.specs.Lists.{has, Once}
use Rattle.ir_store_lists.specs.Labels.{label_at, RisesFrom, label_before, last_label, spread, spread_end}

pub length-spread : (gap low : ℕ) (ks labels : List ℕ) → length (spread gap low ks labels) ≡ length labels
length-spread gap low [] labels = refl
length-spread gap low (k ∷ ks) labels = length-spread gap (low + gap) ks (set labels k (low + gap)) ∙ length-set labels k (low + gap)

-- the labels of other nodes are unchanged
pub spread_else : (gap low : ℕ) (ks labels : List ℕ) (y : ℕ) → has y ks ≡ false → label_at (spread gap low ks labels) y ≡ label_at labels y
spread_else gap low [] labels y e = refl
spread_else gap low (k ∷ ks) labels y e =
    let b = or_parts (eqb k y) (has y ks) e in
    spread_else gap (low + gap) ks (set labels k (low + gap)) y b.1
    ∙ get_or-set_other labels k y (low + gap) 0 (λ z. false≢true (sym b.0 ∙ eq-eqb k y (sym z)))

-- the nodes of a list have labels
abbrev pub Labelled : ℕ → List ℕ → Type 0
Labelled n ks = (y : ℕ) → has y ks ≡ true → y < n

rest_labelled : (n k : ℕ) (ks : List ℕ) → Labelled n (k ∷ ks) → Labelled n ks
rest_labelled n k ks l = λ y e. l y (or_right (eqb k y) (has y ks) e)

module _ (gap low k : ℕ) (ks labels : List ℕ) (o : Once (k ∷ ks)) (l : Labelled (length labels) (k ∷ ks)) where
  abbrev written : List ℕ
  written = set labels k (low + gap)

  pub spread_first : label_at (spread gap (low + gap) ks written) k ≡ low + gap
  spread_first = spread_else gap (low + gap) ks written k o.0 ∙ get_or-set_same labels k (low + gap) 0 (l k (or_left (eqb k k) (has k ks) (eq-eqb k k refl)))

  pub spread_rest : Labelled (length written) ks
  spread_rest = λ y e. subst (λ z. y < z) (sym (length-set labels k (low + gap))) (rest_labelled (length labels) k ks l y e)

pub spread_rises : (gap low : ℕ) (ks labels : List ℕ) → 0 < gap → Once ks → Labelled (length labels) ks → RisesFrom (spread gap low ks labels) low ks
spread_rises gap low [] labels some o l = tt
spread_rises gap low (k ∷ ks) labels some o l =
    let e = spread_first gap low k ks labels o l in (
      subst (λ w. low < w) (sym e) (omega arith),
      subst (λ w. RisesFrom (spread gap (low + gap) ks (set labels k (low + gap))) w ks) (sym e)
          (spread_rises gap (low + gap) ks (set labels k (low + gap)) some o.1 (spread_rest gap low k ks labels o l)),
    )

-- each label is a gap above the previous one
pub spread_gap : (gap low t : ℕ) (ks labels : List ℕ) → has t ks ≡ true → Once ks → Labelled (length labels) ks
    → label_before (spread gap low ks labels) low t ks + gap ≡ label_at (spread gap low ks labels) t
spread_gap gap low t [] labels i o l = absurd (false≢true i)
spread_gap gap low t (k ∷ ks) labels i o l =
    let new = spread gap (low + gap) ks (set labels k (low + gap)) in
    let e : label_at new k ≡ low + gap = spread_first gap low k ks labels o l in
    ⊎_elim
    (λ z. ap (λ w. w + gap) (cond-true (eqb k t) low (label_before new (label_at new k) t ks) (eq-eqb k t z)) ∙ sym e ∙ ap (label_at new) z)
    (λ z.
    ap (λ w. w + gap) (cond-false (eqb k t) low (label_before new (label_at new k) t ks) (ne_eqb k t z) ∙ ap (λ w. label_before new w t ks) e)
    ∙ spread_gap gap (low + gap) t ks (set labels k (low + gap)) (⊎_elim (λ w. absurd (z (eqb-true k t w))) (λ w. w) (or_cases (eqb k t) (has t ks) i)) o.1 (spread_rest gap low k ks labels o l))
    (cases_eq k t)

-- the last new label
pub end_times : (gap low : ℕ) (ks : List ℕ) → spread_end gap low ks ≡ low + gap * length ks
end_times gap low [] = omega arith
end_times gap low (k ∷ ks) = end_times gap (low + gap) ks ∙ omega (arith, mul-suc gap (length ks))

pub end_low : (gap low : ℕ) (ks : List ℕ) → low ≤ spread_end gap low ks
end_low gap low [] = omega arith
end_low gap low (k ∷ ks) = omega (arith, end_low gap (low + gap) ks)

pub last_spread : (gap low : ℕ) (ks labels : List ℕ) → Once ks → Labelled (length labels) ks → last_label (spread gap low ks labels) low ks ≡ spread_end gap low ks
last_spread gap low [] labels o l = refl
last_spread gap low (k ∷ ks) labels o l =
    let new = spread gap (low + gap) ks (set labels k (low + gap)) in
    ap (λ w. last_label new w ks) (spread_first gap low k ks labels o l) ∙ last_spread gap (low + gap) ks (set labels k (low + gap)) o.1 (spread_rest gap low k ks labels o l)

-- the same from any lower bound
pub last_most : (gap low under : ℕ) (ks labels : List ℕ) → under ≤ low → Once ks → Labelled (length labels) ks → last_label (spread gap low ks labels) under ks ≤ spread_end gap low ks
last_most gap low under [] labels u o l = u
last_most gap low under (k ∷ ks) labels u o l = omega (arith, last_spread gap low (k ∷ ks) labels o l)
