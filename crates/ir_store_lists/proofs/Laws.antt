-- Increasing labels give the order, and stay increasing.
use Rattle.std.proofs.Common.{◌≡◌, ℕ, ◌<◌, ◌≤◌, List, [], ◌∷◌, ◌++◌, set, refl, sym, ap, ◌∙◌, subst, length, Bool, true, false, eqb, ◌||◌, ⊎_elim, arith}
use Rattle.std.specs.Prelude.{nat_lt}
use Rattle.std.proofs.lemmas.Bool.{cases_eq, eqb-true, eq-eqb, ne_eqb, cond-true, cond-false, cases_Bool, false≢true, or_cases, or_left, or_right, eqb-false, lt-ltb, le-ltb, or_parts}
use Rattle.std.proofs.lemmas.Bool.Decides.{nat_tests}
use Rattle.std.proofs.lemmas.List.{get_or-set_same, get_or-set_other}
use Rattle.ir_store_lists.specs.Lists.{has, without, put_before, Once}
use Rattle.ir_store_lists.specs.Labels.{label_at, RisesFrom, goes_before, label_before, last_label}

module _ (labels : List ℕ) where
  pub weaker : (low high : ℕ) (ks : List ℕ) → low ≤ high → RisesFrom labels high ks → RisesFrom labels low ks
  weaker low high [] l r = tt
  weaker low high (k ∷ ks) l r = (omega (arith, l, r.0), r.1)

  -- the labels of a list are above the bound
  pub above : (low b : ℕ) (ks : List ℕ) → RisesFrom labels low ks → has b ks ≡ true → low < label_at labels b
  above low b [] r e = absurd (false≢true e)
  above low b (k ∷ ks) r e = ⊎_elim
      (λ z. subst (λ w. low < label_at labels w) (eqb-true k b z) r.0)
      (λ z. omega (arith, r.0, above (label_at labels k) b ks r.1 z))
      (or_cases (eqb k b) (has b ks) e)

  absent : (a b : ℕ) (ks : List ℕ) → has b ks ≡ false → goes_before a b ks ≡ false
  absent a b [] e = refl
  absent a b (k ∷ ks) e =
      let n : has b ks ≡ false = rest (eqb k b) (has b ks) e in
      ⊎_elim
      (λ z. cond-true (eqb k a) (has b ks) (goes_before a b ks) z ∙ n)
      (λ z. cond-false (eqb k a) (has b ks) (goes_before a b ks) z ∙ absent a b ks n)
      (cases_Bool (eqb k a))
    where
      rest : (p q : Bool) → (p || q) ≡ false → q ≡ false
      rest true q e = absurd (false≢true (sym e))
      rest false q e = e

  in_rest : (k c : ℕ) (ks : List ℕ) → (k ≡ c → ⊥) → has c (k ∷ ks) ≡ true → has c ks ≡ true
  in_rest k c ks n e = ⊎_elim (λ z. absurd (n (eqb-true k c z))) (λ z. z) (or_cases (eqb k c) (has c ks) e)

  -- the first node of a list isn't in the rest
  first_once : (k b : ℕ) (ks : List ℕ) → RisesFrom labels (label_at labels k) ks → k ≡ b → has b ks ≡ false
  first_once k b ks r e = ⊎_elim
      (λ y. let l = above (label_at labels k) b ks r y in let q : label_at labels k ≡ label_at labels b = ap (label_at labels) e in absurd (omega (arith, l, q)))
      (λ y. y) (cases_Bool (has b ks))

  -- two nodes have the order of their labels
  pub as_labels : (low a b : ℕ) (ks : List ℕ) → RisesFrom labels low ks → has a ks ≡ true → has b ks ≡ true → goes_before a b ks ≡ nat_lt (label_at labels a) (label_at labels b)
  as_labels low a b [] r e f = absurd (false≢true e)
  as_labels low a b (k ∷ ks) r e f = ⊎_elim
      (λ z. cond-true (eqb k a) (has b ks) (goes_before a b ks) (eq-eqb k a z) ∙ ⊎_elim
      (λ y. y ∙ sym (lt-ltb (label_at labels a) (label_at labels b) (subst (λ w. label_at labels w < label_at labels b) z (above (label_at labels k) b ks r.1 y))))
      (λ y.
      let same : k ≡ b = ⊎_elim (λ w. eqb-true k b w) (λ w. absurd (false≢true (sym y ∙ w))) (or_cases (eqb k b) (has b ks) f) in
      let q : label_at labels b ≡ label_at labels a = ap (label_at labels) (sym same ∙ z) in
      y ∙ sym (le-ltb (label_at labels a) (label_at labels b) (omega (arith, q))))
      (cases_Bool (has b ks)))
      (λ n. cond-false (eqb k a) (has b ks) (goes_before a b ks) (ne_eqb k a n) ∙ ⊎_elim
      (λ z.
      let ra = above (label_at labels k) a ks r.1 (in_rest k a ks n e) in
      let q : label_at labels k ≡ label_at labels b = ap (label_at labels) z in
      absent a b ks (first_once k b ks r.1 z) ∙ sym (le-ltb (label_at labels a) (label_at labels b) (omega (arith, q, ra))))
      (λ m. as_labels (label_at labels k) a b ks r.1 (in_rest k a ks n e) (in_rest k b ks m f))
      (cases_eq k b))
      (cases_eq k a)

  -- labels still increase after a node is removed
  pub rises_without : (low k : ℕ) (ks : List ℕ) → RisesFrom labels low ks → RisesFrom labels low (without k ks)
  rises_without low k [] r = tt
  rises_without low k (q ∷ ks) r = ⊎_elim
      (λ z. subst (RisesFrom labels low) (sym (cond-true (eqb q k) (without k ks) (q ∷ without k ks) z)) (rises_without low k ks (weaker low (label_at labels q) ks (omega (arith, r.0)) r.1)))
      (λ z. subst (RisesFrom labels low) (sym (cond-false (eqb q k) (without k ks) (q ∷ without k ks) z)) (r.0, rises_without (label_at labels q) k ks r.1))
      (cases_Bool (eqb q k))

-- a node that isn't in the list gets a label
module _ (labels : List ℕ) (k m : ℕ) where
  abbrev labels' : List ℕ
  labels' = set labels k m

  other : (q : ℕ) → (q ≡ k → ⊥) → label_at labels' q ≡ label_at labels q
  other q n = get_or-set_other labels k q m 0 n

  pub rises_still : (low : ℕ) (ks : List ℕ) → has k ks ≡ false → RisesFrom labels low ks → RisesFrom labels' low ks
  rises_still low [] n r = tt
  rises_still low (q ∷ ks) n r =
      let b = or_parts (eqb q k) (has k ks) n in
      let e = other q (eqb-false q k b.0) in
      (subst (λ z. low < z) (sym e) r.0, subst (λ z. RisesFrom labels' z ks) (sym e) (rises_still (label_at labels q) ks b.1 r.1))

  -- labels still increase after a node is inserted before another, with a label between those of its neighbours
  pub rises_put : k < length labels → (low t : ℕ) (ks : List ℕ) → has k ks ≡ false → has t ks ≡ true → Once ks → label_before labels low t ks < m → m < label_at labels t → RisesFrom labels low ks
      → RisesFrom labels' low (put_before k t ks)
  rises_put l low t [] n i o p q r = absurd (false≢true i)
  rises_put l low t (x ∷ ks) n i o p q r =
      let b = or_parts (eqb x k) (has k ks) n in
      let e = other x (eqb-false x k b.0) in
      let own : label_at labels' k ≡ m = get_or-set_same labels k m 0 l in
      ⊎_elim
      (λ z.
      let y = eq-eqb x t z in
      let low_m : low < m = subst (λ w. w < m) (cond-true (eqb x t) low (label_before labels (label_at labels x) t ks) y) p in
      let m_x : m < label_at labels x = subst (λ w. m < label_at labels w) (sym z) q in
      subst (RisesFrom labels' low) (sym (cond-true (eqb x t) (k ∷ x ∷ put_before k t ks) (x ∷ put_before k t ks) y)) (
        subst (λ w. low < w) (sym own) low_m,
        (
          subst (λ w. w < label_at labels' x) (sym own) (subst (λ w. m < w) (sym e) m_x),
          subst (RisesFrom labels' (label_at labels' x)) (sym (same t ks (subst (λ w. has w ks ≡ false) z o.0)))
              (subst (λ w. RisesFrom labels' w ks) (sym e) (rises_still (label_at labels x) ks b.1 r.1)),
        ),
      ))
      (λ z.
      let y = ne_eqb x t z in
      subst (RisesFrom labels' low) (sym (cond-false (eqb x t) (k ∷ x ∷ put_before k t ks) (x ∷ put_before k t ks) y)) (
        subst (λ w. low < w) (sym e) r.0,
        subst (λ w. RisesFrom labels' w (put_before k t ks)) (sym e)
            (rises_put l (label_at labels x) t ks b.1 (in_rest labels x t ks z i) o.1 (subst (λ w. w < m) (cond-false (eqb x t) low (label_before labels (label_at labels x) t ks) y) p) q r.1),
      ))
      (cases_eq x t)
    where
      same : (t : ℕ) (ks : List ℕ) → has t ks ≡ false → put_before k t ks ≡ ks
      same t [] e = refl
      same t (w ∷ ks) e = let b = or_parts (eqb w t) (has t ks) e in cond-false (eqb w t) (k ∷ w ∷ put_before k t ks) (w ∷ put_before k t ks) b.0 ∙ ap (λ v. w ∷ v) (same t ks b.1)

  -- labels still increase after a node is appended, with a label above the last one
  pub rises_end : k < length labels → (low : ℕ) (ks : List ℕ) → has k ks ≡ false → last_label labels low ks < m → RisesFrom labels low ks → RisesFrom labels' low (ks ++ k ∷ [])
  rises_end l low [] n p r = (subst (λ w. low < w) (sym (get_or-set_same labels k m 0 l)) p, tt)
  rises_end l low (x ∷ ks) n p r =
      let b = or_parts (eqb x k) (has k ks) n in
      let e = other x (eqb-false x k b.0) in
      (subst (λ w. low < w) (sym e) r.0, subst (λ w. RisesFrom labels' w (ks ++ k ∷ [])) (sym e) (rises_end l (label_at labels x) ks b.1 p r.1))

-- labels increase if those of the list's nodes are unchanged
pub rises_same : (labels others : List ℕ) (low : ℕ) (ks : List ℕ) → ((y : ℕ) → has y ks ≡ true → label_at others y ≡ label_at labels y) → RisesFrom labels low ks → RisesFrom others low ks
rises_same labels others low [] e r = tt
rises_same labels others low (k ∷ ks) e r =
    let here = e k (or_left (eqb k k) (has k ks) (eq-eqb k k refl)) in (
      subst (λ w. low < w) (sym here) r.0,
      subst (λ w. RisesFrom others w ks) (sym here) (rises_same labels others (label_at labels k) ks (λ y t. e y (or_right (eqb k y) (has y ks) t)) r.1),
    )

-- the label before a node of the list is below its own
pub before_less : (labels : List ℕ) (low t : ℕ) (ks : List ℕ) → has t ks ≡ true → RisesFrom labels low ks → label_before labels low t ks < label_at labels t
before_less labels low t [] i r = absurd (false≢true i)
before_less labels low t (k ∷ ks) i r = ⊎_elim
    (λ z. subst (λ w. w < label_at labels t) (sym (cond-true (eqb k t) low (label_before labels (label_at labels k) t ks) (eq-eqb k t z))) (subst (λ w. low < label_at labels w) z r.0))
    (λ z. subst (λ w. w < label_at labels t) (sym (cond-false (eqb k t) low (label_before labels (label_at labels k) t ks) (ne_eqb k t z)))
    (before_less labels (label_at labels k) t ks (in_rest labels k t ks z i) r.1))
    (cases_eq k t)
