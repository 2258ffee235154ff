-- A list split before a node, and labels along its parts.
use Rattle.std.proofs.Common.{◌≡◌, ℕ, zero, suc, List, [], ◌∷◌, ◌++◌, drop, refl, sym, ap, ◌∙◌, subst, Bool, true, false, eqb, ◌||◌, ⊎_elim, Some, slice_get}
use Rattle.std.proofs.lemmas.Bool.{cases_eq, cases_Bool, eqb-true, eq-eqb, ne_eqb, cond-true, cond-false, false≢true, or_cases, or_left, or_right, or_parts}
use Rattle.ir_store_lists.specs.Lists.{has, Once}
use Rattle.ir_store_lists.specs.Labels.{label_at, RisesFrom, label_before, last_label, from}

-- a list around one of its nodes
pub record Around (t : ℕ) (ks : List ℕ) : Type 0 where
  pub preceding : List ℕ
  pub tail : List ℕ
  pub whole : preceding ++ t ∷ tail ≡ ks
  pub absent : has t preceding ≡ false
  pub rest : from t ks ≡ t ∷ tail

pub around : (t : ℕ) (ks : List ℕ) → has t ks ≡ true → Around t ks
around t [] e = absurd (false≢true e)
around t (k ∷ ks) e = ⊎_elim
    (λ z. record { preceding = []; tail = ks; whole = ap (λ w. w ∷ ks) (sym z); absent = refl; rest = cond-true (eqb k t) (k ∷ ks) (from t ks) (eq-eqb k t z) ∙ ap (λ w. w ∷ ks) z })
    (λ n.
    let a = around t ks (⊎_elim (λ w. absurd (n (eqb-true k t w))) (λ w. w) (or_cases (eqb k t) (has t ks) e)) in
    record {
      preceding = k ∷ a.preceding;
      tail = a.tail;
      whole = ap (λ w. k ∷ w) a.whole;
      absent = ap (λ b. b || has t a.preceding) (ne_eqb k t n) ∙ a.absent;
      rest = cond-false (eqb k t) (k ∷ ks) (from t ks) (ne_eqb k t n) ∙ a.rest;
    })
    (cases_eq k t)

module _ (labels : List ℕ) where
  pub before_around : (low t : ℕ) (preceding tail : List ℕ) → has t preceding ≡ false → label_before labels low t (preceding ++ t ∷ tail) ≡ last_label labels low preceding
  before_around low t [] tail e = cond-true (eqb t t) low (label_before labels (label_at labels t) t tail) (eq-eqb t t refl)
  before_around low t (k ∷ preceding) tail e =
      let b = or_parts (eqb k t) (has t preceding) e in
      cond-false (eqb k t) low (label_before labels (label_at labels k) t (preceding ++ t ∷ tail)) b.0 ∙ before_around (label_at labels k) t preceding tail b.1

  -- labels increase along both parts of a list
  pub rises_parts : (low : ℕ) (xs ys : List ℕ) → RisesFrom labels low (xs ++ ys) → RisesFrom labels low xs × RisesFrom labels (last_label labels low xs) ys
  rises_parts low [] ys r = (tt, r)
  rises_parts low (x ∷ xs) ys r = let p = rises_parts (label_at labels x) xs ys r.1 in ((r.0, p.0), p.1)

  pub rises_join : (low : ℕ) (xs ys : List ℕ) → RisesFrom labels low xs → RisesFrom labels (last_label labels low xs) ys → RisesFrom labels low (xs ++ ys)
  rises_join low [] ys r s = s
  rises_join low (x ∷ xs) ys r s = (r.0, rises_join (label_at labels x) xs ys r.1 s)

-- the last label is unchanged if the labels of the nodes are
pub last_same : (labels others : List ℕ) (low : ℕ) (ks : List ℕ) → ((y : ℕ) → has y ks ≡ true → label_at others y ≡ label_at labels y) → last_label others low ks ≡ last_label labels low ks
last_same labels others low [] e = refl
last_same labels others low (k ∷ ks) e =
    ap (λ w. last_label others w ks) (e k (or_left (eqb k k) (has k ks) (eq-eqb k k refl)))
    ∙ last_same labels others (label_at labels k) ks (λ y t. e y (or_right (eqb k y) (has y ks) t))

-- no node is in two parts
pub has_left : (y : ℕ) (xs ys : List ℕ) → has y xs ≡ true → has y (xs ++ ys) ≡ true
has_left y [] ys e = absurd (false≢true e)
has_left y (x ∷ xs) ys e = ⊎_elim (λ z. or_left (eqb x y) (has y (xs ++ ys)) z) (λ z. or_right (eqb x y) (has y (xs ++ ys)) (has_left y xs ys z)) (or_cases (eqb x y) (has y xs) e)

pub has_right : (y : ℕ) (xs ys : List ℕ) → has y ys ≡ true → has y (xs ++ ys) ≡ true
has_right y [] ys e = e
has_right y (x ∷ xs) ys e = or_right (eqb x y) (has y (xs ++ ys)) (has_right y xs ys e)

pub once_right : (xs ys : List ℕ) → Once (xs ++ ys) → Once ys
once_right [] ys o = o
once_right (x ∷ xs) ys o = once_right xs ys o.1

pub once_left : (xs ys : List ℕ) → Once (xs ++ ys) → Once xs
once_left [] ys o = tt
once_left (x ∷ xs) ys o = (⊎_elim (λ e. absurd (false≢true (sym o.0 ∙ has_left x xs ys e))) (λ e. e) (cases_Bool (has x xs)), once_left xs ys o.1)

pub once_apart : (y : ℕ) (xs ys : List ℕ) → Once (xs ++ ys) → has y xs ≡ true → has y ys ≡ false
once_apart y [] ys o e = absurd (false≢true e)
once_apart y (x ∷ xs) ys o e = ⊎_elim
    (λ z. ⊎_elim (λ w. absurd (false≢true (sym o.0 ∙ has_right x xs ys (subst (λ v. has v ys ≡ true) (sym (eqb-true x y z)) w)))) (λ w. w) (cases_Bool (has y ys)))
    (λ z. once_apart y xs ys o.1 z)
    (or_cases (eqb x y) (has y xs) e)

-- the first node after the first n
pub drop_first : (n b : ℕ) (ks bs : List ℕ) → drop n ks ≡ b ∷ bs → slice_get ks n ≡ Some b
drop_first zero b [] bs e = (cc)
drop_first zero b (k ∷ ks) bs e = (cc)
drop_first (suc n) b [] bs e = (cc)
drop_first (suc n) b (k ∷ ks) bs e = drop_first n b ks bs e
