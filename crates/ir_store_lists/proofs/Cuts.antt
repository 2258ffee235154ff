-- Removing a node from its list.
use Rattle.std.proofs.Common.{◌≡◌, ℕ, zero, suc, ◌<◌, List, [], ◌∷◌, map, set, refl, sym, ap, ◌∙◌, subst, length, true, eqb, ⊎_elim, arith}
use Rattle.std.proofs.lemmas.Bool.{eqb-true, eqb-false, cond_both, false≢true, or_cases, or_left, or_right}
use Rattle.std.proofs.lemmas.List.{get_or-set_same, get_or-set_other, length-set, length-map}
use Rattle.ir_store_lists.specs.Lists.{free, list_at, home_at, IsHead, IsItem, has, without}
use Rattle.ir_store_lists.specs.Ring.{Ring, Sound, at, nexts, prevs, homes}
use Rattle.ir_store_lists.specs.declared.link.Link.{Link}
use Rattle.ir_store_lists.proofs.Around.{item_between}

-- links that skip node i
pub record Cut (nx pv hm nx' pv' hm' : ℕ → ℕ) (i : ℕ) : Type 0 where
  pub before : nx (pv i) ≡ i
  pub after : pv (nx i) ≡ i
  pub next_at : nx' (pv i) ≡ nx i
  pub next_else : (y : ℕ) → (y ≡ pv i → ⊥) → nx' y ≡ nx y
  pub prev_at : pv' (nx i) ≡ pv i
  pub prev_else : (y : ℕ) → (y ≡ nx i → ⊥) → pv' y ≡ pv y
  pub home_else : (y : ℕ) → (y ≡ i → ⊥) → hm' y ≡ hm y

module _ (nx pv hm nx' pv' hm' : ℕ → ℕ) (i : ℕ) (c : Cut nx pv hm nx' pv' hm' i) (h : ℕ) where
  edge : (a b : ℕ) → (a ≡ i → ⊥) → (b ≡ i → ⊥) → nx a ≡ b → pv b ≡ a → (nx' a ≡ b) × (pv' b ≡ a)
  edge a b na nb e f =
      (c.next_else a (λ q. nb (sym e ∙ ap nx q ∙ c.before)) ∙ e, c.prev_else b (λ q. na (sym f ∙ ap pv q ∙ c.after)) ∙ f)

  mutual
    pub Ring-cut : (a : ℕ) (xs : List ℕ) (b : ℕ) → (a ≡ i → ⊥) → (b ≡ i → ⊥) → Ring nx pv hm h a xs b → Ring nx' pv' hm' h a (without i xs) b
    Ring-cut a [] b na nb r = edge a b na nb r.0 r.1
    Ring-cut a (x ∷ xs) b na nb r = cond_both (eqb x i) (without i xs) (x ∷ without i xs) (λ zs. Ring nx' pv' hm' h a zs b)
        (λ e.
        let same : x ≡ i = eqb-true x i e in
        skip a xs b na nb (sym r.0.1 ∙ ap pv same) (subst (λ z. Ring nx pv hm h z xs b) same r.1.1))
        (λ e.
        let nx_ : x ≡ i → ⊥ = eqb-false x i e in
        (edge a x na nx_ r.0.0 r.0.1, ((c.home_else x nx_ ∙ r.1.0.0, r.1.0.1), Ring-cut x xs b nx_ nb r.1.1)))

    skip : (a : ℕ) (xs : List ℕ) (b : ℕ) → (a ≡ i → ⊥) → (b ≡ i → ⊥) → a ≡ pv i → Ring nx pv hm h i xs b → Ring nx' pv' hm' h a (without i xs) b
    skip a [] b na nb p r =
        (ap nx' p ∙ c.next_at ∙ r.0, ap pv' (sym r.0) ∙ c.prev_at ∙ sym p)
    skip a (y ∷ ys) b na nb p r = cond_both (eqb y i) (without i ys) (y ∷ without i ys) (λ zs. Ring nx' pv' hm' h a zs b)
        (λ e. let same : y ≡ i = eqb-true y i e in absurd (na (p ∙ sym (ap pv same) ∙ r.0.1)))
        (λ e.
        let ny : y ≡ i → ⊥ = eqb-false y i e in
        ((ap nx' p ∙ c.next_at ∙ r.0.0, ap pv' (sym r.0.0) ∙ c.prev_at ∙ sym p), ((c.home_else y ny ∙ r.1.0.0, r.1.0.1), Ring-cut y ys b ny nb r.1.1)))

pub has_without : (y i : ℕ) (xs : List ℕ) → (y ≡ i → ⊥) → has y xs ≡ true → has y (without i xs) ≡ true
has_without y i [] n t = absurd (false≢true t)
has_without y i (x ∷ xs) n t = cond_both (eqb x i) (without i xs) (x ∷ without i xs) (λ zs. has y zs ≡ true)
    (λ e. ⊎_elim (λ f. absurd (n (sym (eqb-true x y f) ∙ eqb-true x i e))) (λ f. has_without y i xs n f) (or_cases (eqb x y) (has y xs) t))
    (λ e. ⊎_elim (λ f. or_left (eqb x y) (has y (without i xs)) f) (λ f. or_right (eqb x y) (has y (without i xs)) (has_without y i xs n f)) (or_cases (eqb x y) (has y xs) t))

-- a map that keeps empty lists, at any index
pub list_at-map : (f : List ℕ → List ℕ) (ls : List (List ℕ)) (h : ℕ) → f [] ≡ [] → list_at (map f ls) h ≡ f (list_at ls h)
list_at-map f [] h e = sym e
list_at-map f (l ∷ ls) zero e = refl
list_at-map f (l ∷ ls) (suc h) e = list_at-map f ls h e

pub Sound-cut : (next prev home : List ℕ) (ls : List (List ℕ)) (i : ℕ) → length next ≡ length home → length prev ≡ length home → IsItem home i → Sound next prev home ls
    → Sound (set next (at prev i) (at next i)) (set prev (at next i) (at prev i)) (set home i free) (map (without i) ls)
Sound-cut next prev home ls i ln lp item s =
    let b = item_between next prev home ls i s item in
    let home' = set home i free in
    let same_home : (y : ℕ) → (y ≡ i → ⊥) → home_at home' y ≡ home_at home y = λ y n. get_or-set_other home i y free free n in
    let cut : Cut (at next) (at prev) (home_at home) (at (set next (at prev i) (at next i))) (at (set prev (at next i) (at prev i))) (home_at home') i = record {
      before = b.before;
      after = b.after;
      next_at = get_or-set_same next (at prev i) (at next i) 0 (omega (arith, b.prev_inside));
      next_else = λ y n. get_or-set_other next (at prev i) y (at next i) 0 n;
      prev_at = get_or-set_same prev (at next i) (at prev i) 0 (omega (arith, b.next_inside));
      prev_else = λ y n. get_or-set_other prev (at next i) y (at prev i) 0 n;
      home_else = same_home;
    } in
    let own_free : home_at home' i ≡ free = get_or-set_same home i free free item.inside in
    let long : length home' ≡ length home = length-set home i free in
    -- the heads are unchanged
    let not_i : (h : ℕ) → IsHead home' h → h ≡ i → ⊥ = λ h k e.
    let lt : h < length home = omega (arith, k.inside) in
    let own : home_at home' h ≡ h = k.own in
    let few : length home < free = s.few in
    let at_i : home_at home' h ≡ free = ap (home_at home') e ∙ own_free in
    omega arith in
    let was : (h : ℕ) → IsHead home' h → IsHead home h = λ h k. record { inside = omega (arith, k.inside); own = sym (same_home h (not_i h k)) ∙ k.own } in
    let is : (h : ℕ) → IsHead home h → IsHead home' h = λ h k. record { inside = omega (arith, k.inside); own = same_home h (λ e. item.other (ap (home_at home) (sym e) ∙ k.own ∙ e)) ∙ k.own } in
    let few : length home < free = s.few in
    record {
      few = omega arith;
      counted = length-map ls (without i) ∙ s.counted ∙ sym long;
      rings = λ h k. rw (list_at-map (without i) ls h refl) (Ring-cut _ _ _ _ _ _ i cut h h (list_at ls h) h (not_i h k) (not_i h k) (s.rings h (was h k)));
      others = λ h n. list_at-map (without i) ls h refl ∙ ap (without i) (s.others h (λ k. n (is h k)));
      covers = λ h y k e n.
          let ny : y ≡ i → ⊥ = λ q. let f : h ≡ free = sym e ∙ ap (home_at home') q ∙ own_free in let l : h < length home' = k.inside in let few : length home < free = s.few in omega arith in
          rw (list_at-map (without i) ls h refl) (has_without y i (list_at ls h) ny (s.covers h y (was h k) (sym (same_home y ny) ∙ e) n));
      heads = λ y p.
          let ny : y ≡ i → ⊥ = λ q. p.linked (ap (home_at home') q ∙ own_free) in
          let old : IsItem home y = record { inside = omega (arith, p.inside); linked = λ f. p.linked (same_home y ny ∙ f); other = λ f. p.other (same_home y ny ∙ f) } in
          subst (IsHead home') (sym (same_home y ny)) (is (home_at home y) (s.heads y old));
    }

-- the same for the links themselves
pub links_cut : (old new : List Link) (ls : List (List ℕ)) (i : ℕ) → IsItem (homes old) i → Sound (nexts old) (prevs old) (homes old) ls
    → nexts new ≡ set (nexts old) (at (prevs old) i) (at (nexts old) i)
    → prevs new ≡ set (prevs old) (at (nexts old) i) (at (prevs old) i)
    → homes new ≡ set (homes old) i free
    → Sound (nexts new) (prevs new) (homes new) (map (without i) ls)
links_cut old new ls i item s en ep eh =
    rw (en, ep, eh) (Sound-cut (nexts old) (prevs old) (homes old) ls i
    (length-map old (λ l. l.next) ∙ sym (length-map old (λ l. l.home)))
    (length-map old (λ l. l.prev) ∙ sym (length-map old (λ l. l.home))) item s)
