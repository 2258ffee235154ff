-- The set of operations whose entry passes a test, as the table changes.
use Rattle.std.proofs.Common.{◌≡◌, ℕ, ◌*◌, ◌<◌, ◌≤◌, List, length, Bool, true, false, Option, Some, None, refl, sym, ap, ◌∙◌, subst, arith, cond, eqb, inl, inr, ltb-true}
use Rattle.std.specs.Prelude.{nat_lt, IsSome}
use Rattle.std.proofs.lemmas.Bool.{lt-ltb, eq-eqb, ne_eqb, cases_eq}
use Rattle.listeners_support.specs.Bits.{has, has_with}
use Rattle.effects.specs.Marks.{AreMarked, HasHeadroom}

module _ {V : Type 0} (f g : ℕ → Option V) (set new : List ℕ) (x : ℕ) (n : Option V) (is : (y : ℕ) → g y ≡ cond (eqb x y) n (f y)) where
  pub marked : (test : Option V → Bool) → AreMarked test f set → ((y : ℕ) → has new y ≡ has_with x (test n) set y) → AreMarked test g new
  marked test was marks y = marks y ∙ go (eqb x y) ∙ ap test (sym (is y))
    where
      go : (b : Bool) → cond b (test n) (has set y) ≡ test (cond b n (f y))
      go true = refl
      go false = was y

  wider : (y : ℕ) → length set ≤ length new → nat_lt y (64 * length set) ≡ true → nat_lt y (64 * length new) ≡ true
  wider y l headroom = lt-ltb y (64 * length new) (let m = ltb-true y (64 * length set) headroom in omega (arith, l, m))

  pub roomy : HasHeadroom f set → length set ≤ length new → (IsSome n → x < 64 * length new) → HasHeadroom g new
  roomy headroom l here y some = elim (cases_eq x y) [
    | inl e ↦ let same : g y ≡ n = is y ∙ ap (λ b. cond b n (f y)) (eq-eqb x y e) in
        let h = here (subst IsSome same some) in lt-ltb y (64 * length new) (omega (arith, h, e))
    | inr ne ↦ let same : g y ≡ f y = is y ∙ ap (λ b. cond b n (f y)) (ne_eqb x y ne) in wider y l (headroom y (subst IsSome same some))
  ]

-- a set with more capacity
pub more_headroom : {V : Type 0} (f : ℕ → Option V) (set new : List ℕ) → HasHeadroom f set → length set ≤ length new → HasHeadroom f new
more_headroom f set new headroom l y some = lt-ltb y (64 * length new) (let m = ltb-true y (64 * length set) (headroom y some) in omega (arith, l, m))

pub same_marks : {V : Type 0} (test : Option V → Bool) (f : ℕ → Option V) (set new : List ℕ) → AreMarked test f set → ((y : ℕ) → has new y ≡ has set y) → AreMarked test f new
same_marks test f set new was same y = same y ∙ was y
