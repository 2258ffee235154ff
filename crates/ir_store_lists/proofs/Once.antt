-- Lists have no duplicates.
use Rattle.std.proofs.Common.{◌≡◌, ℕ, ◌<◌, List, [], ◌∷◌, refl, sym, ap, ◌∙◌, subst, length, true, eqb, ⊎_elim, arith}
use Rattle.std.proofs.lemmas.Bool.{eqb-true, cases_Bool, false≢true, or_cases}
use Rattle.ir_store_lists.specs.Lists.{Lists, Laws, Once, has, list_at, home_at}
use Rattle.ir_store_lists.specs.Ring.{Ring, Ring-one, Linked, homes, cases_head}
use Rattle.ir_store_lists.specs.declared.link.Link.{Link}
use Rattle.ir_store_lists.proofs.Grown.{of_all}

-- the nodes after a node of a list
pub record Tail (nx pv hm : ℕ → ℕ) (h x : ℕ) (xs : List ℕ) : Type 0 where
  pub rest : List ℕ
  pub shorter : length rest < length xs
  pub ring : Ring nx pv hm h x rest h

module _ (nx pv hm : ℕ → ℕ) (h : ℕ) where
  tail : (x a : ℕ) (xs : List ℕ) → has x xs ≡ true → Ring nx pv hm h a xs h → Tail nx pv hm h x xs
  tail x a [] e r = absurd (false≢true e)
  tail x a (y ∷ ys) e r = ⊎_elim
      (λ f. record { rest = ys; shorter = omega arith; ring = subst (λ z. Ring nx pv hm h z ys h) (eqb-true y x f) r.1.1 })
      (λ f. let t = tail x y ys f r.1.1 in record { rest = t.rest; shorter = omega (arith, t.shorter); ring = t.ring })
      (or_cases (eqb y x) (has x ys) e)

  pub ring_once : (a : ℕ) (xs : List ℕ) → Ring nx pv hm h a xs h → Once xs
  ring_once a [] r = tt
  ring_once a (x ∷ xs) r = (
    ⊎_elim
        (λ e. let t = tail x x xs e r.1.1 in let same = ap length (Ring-one nx pv hm h x xs t.rest r.1.1 t.ring) in absurd (omega (arith, same, t.shorter)))
        (λ e. e)
        (cases_Bool (has x xs)),
    ring_once x xs r.1.1,
  )

  pub ring_members : (i a : ℕ) (xs : List ℕ) → has i xs ≡ true → Ring nx pv hm h a xs h → (hm i ≡ h) × (i ≡ h → ⊥)
  ring_members i a [] e r = absurd (false≢true e)
  ring_members i a (x ∷ xs) e r = ⊎_elim
      (λ f. subst (λ z. (hm z ≡ h) × (z ≡ h → ⊥)) (eqb-true x i f) r.1.0)
      (λ f. ring_members i x xs f r.1.1)
      (or_cases (eqb x i) (has i xs) e)

-- all invariants, from the links
pub laws_hold : (links : List Link) (x : Linked links) (headroom : ℕ) (v : Lists) → of_all x.0 (homes links) headroom ≡ v → Laws v.lists v.homes
laws_hold links x headroom v e =
    let s = x.1 in
    let old : Laws x.0 (homes links) = record {
      few = s.few;
      counted = s.counted;
      heads = s.heads;
      members = λ h i m. ⊎_elim
          (λ p. ring_members _ _ _ h i h (list_at x.0 h) m (s.rings h p))
          (λ n. absurd (false≢true (ap (has i) (sym (s.others h n)) ∙ m)))
          (cases_head (homes links) h);
      covers = λ i p. s.covers (home_at (homes links) i) i (s.heads i p) refl (λ z. p.other (sym z));
      once = λ h. ⊎_elim
          (λ p. ring_once _ _ _ h h (list_at x.0 h) (s.rings h p))
          (λ n. subst Once (sym (s.others h n)) tt)
          (cases_head (homes links) h);
    } in
    subst (λ (z : Lists). Laws z.lists z.homes) e old
