-- The verdict of a search.
use Rattle.std.proofs.Common.{◌≡◌, ℕ, zero, suc, ◌+◌, ◌-◌, ◌≤◌, ◌<◌, List, [], ◌∷◌, Bool, true, false, Option, Some, None, refl, sym, subst, arith, if◌then◌else◌, is_none, inl, leb-false}
use Rattle.std.proofs.Math.Nat.{min-eq_left}
use Rattle.ir_types.specs.Limits.{most_width}
use Rattle.user_patterns_check.specs.Cases.{AreBelow, first_failing}
use Rattle.user_patterns_check.proofs.Found.{finds, fails, true_false}
use Rattle.user_patterns_check.specs.Contents.{Content}
use Rattle.user_patterns_check.specs.Checks.{AlwaysKeeps, AlwaysUndefined, bits, counts, first_broken, first_defined_input, is_few, is_undefined, keeps, most_bits}
use Rattle.user_patterns_check.specs.Families.{Family, AreWidths, TooMany, bounds, few_at, kept_at, is_vacuous_at, width_at, widths_at}

-- ---- widths, and the numbers that represent them

module _ (most : ℕ) (low : most ≤ most_width) where
  width_above : (v : ℕ) → v < most → width_at v ≡ v + 1
  width_above v l = min-eq_left (omega (arith, l, low))

  pub below_widths : (n : ℕ) (vs : List ℕ) → AreBelow (bounds n most) vs → AreWidths n most (widths_at vs)
  below_widths zero [] b = tt
  below_widths zero (v ∷ vs) b = absurd b
  below_widths (suc n) [] b = absurd b
  below_widths (suc n) (v ∷ vs) b =
      let e = width_above v b.0 in
      (omega (arith, e), omega (arith, e, b.0), below_widths n vs b.1)

  pub widths_below : (n : ℕ) (ws : List ℕ) → AreWidths n most ws → (vs : List ℕ) × AreBelow (bounds n most) vs × (widths_at vs ≡ ws)
  widths_below zero [] a = ([], tt, refl)
  widths_below zero (w ∷ ws) a = absurd a
  widths_below (suc n) [] a = absurd a
  widths_below (suc n) (w ∷ ws) a =
      let r = widths_below n ws a.2 in
      let l : w - 1 < most = omega (arith, a.0, a.1) in
      let e : width_at (w - 1) ≡ w = omega (arith, width_above (w - 1) l, a.0) in
      ((w - 1) ∷ r.0, (l, r.1), (λ i. e i ∷ r.2 i))

-- ---- at widths

nothing_found : {X : Type 0} (t : Bool) (r : Option X) → t ≡ true → is_none (if t then r else None) ≡ true → r ≡ None
nothing_found true None few e = refl
nothing_found true (Some x) few e = absurd (true_false (sym e))
nothing_found false r few e = absurd (true_false (sym few))

something_found : {X : Type 0} (t : Bool) (r : Option X) → is_none (if t then r else None) ≡ false → (x : X) × (r ≡ Some x)
something_found true None e = absurd (true_false e)
something_found true (Some x) e = (x, refl)
something_found false r e = absurd (true_false e)

kept : (s : Content) → is_few s ≡ true → is_none (first_broken s) ≡ true → AlwaysKeeps s
kept s few e = finds (keeps s) (counts s) (nothing_found (is_few s) (first_failing (keeps s) (counts s)) few e)

reports_nothing : (s : Content) → is_few s ≡ true → is_none (first_defined_input s) ≡ true → AlwaysUndefined s
reports_nothing s few e = finds (is_undefined s) (counts s) (nothing_found (is_few s) (first_failing (is_undefined s) (counts s)) few e)

notified : (s : Content) → is_none (first_defined_input s) ≡ false → (values : List ℕ) × AreBelow (counts s) values × (is_undefined s values ≡ false)
notified s e =
    let found = something_found (is_few s) (first_failing (is_undefined s) (counts s)) e in
    let said = fails (is_undefined s) (counts s) found.0 found.1 in
    (found.0, said.0, said.1)

pub some_of : {X : Type 0} (t : Bool) (r : Option X) (x : X) → (if t then r else None) ≡ Some x → r ≡ Some x
some_of true r x e = e
some_of false r x e = absurd (none_some x e)
  where
    none_some : {Y : Type 0} (y : Y) → None ≡ Some y → ⊥
    none_some y e = cc

-- ---- of a family

module _ (f : Family) (n most : ℕ) (low : most ≤ most_width) where
  pub too_many : (vs : List ℕ) → first_failing (few_at f) (bounds n most) ≡ Some vs → TooMany f n most
  too_many vs e =
      let t = fails (few_at f) (bounds n most) vs e in
      inl (widths_at vs, below_widths most low n vs t.0, leb-false (bits (f (widths_at vs))) most_bits t.1)

  module _ (few : first_failing (few_at f) (bounds n most) ≡ None) where
    module _ (broken : first_failing (kept_at f) (bounds n most) ≡ None) where
      pub all_kept : (ws : List ℕ) → AreWidths n most ws → AlwaysKeeps (f ws)
      all_kept ws a =
          let b = widths_below most low n ws a in
          subst (λ (us : List ℕ). AlwaysKeeps (f us)) b.2 (kept (f (widths_at b.0)) (finds (few_at f) (bounds n most) few b.0 b.1) (finds (kept_at f) (bounds n most) broken b.0 b.1))

    pub all_silent : first_failing (is_vacuous_at f) (bounds n most) ≡ None → (ws : List ℕ) → AreWidths n most ws → AlwaysUndefined (f ws)
    all_silent quiet ws a =
        let b = widths_below most low n ws a in
        subst (λ (us : List ℕ). AlwaysUndefined (f us)) b.2 (reports_nothing (f (widths_at b.0)) (finds (few_at f) (bounds n most) few b.0 b.1) (finds (is_vacuous_at f) (bounds n most) quiet b.0 b.1))

  pub some_notified : (vs : List ℕ) → first_failing (is_vacuous_at f) (bounds n most) ≡ Some vs
      → (ws : List ℕ) × (values : List ℕ) × AreWidths n most ws × AreBelow (counts (f ws)) values × (is_undefined (f ws) values ≡ false)
  some_notified vs e =
      let t = fails (is_vacuous_at f) (bounds n most) vs e in
      let h = notified (f (widths_at vs)) t.1 in
      (widths_at vs, h.0, below_widths most low n vs t.0, h.1, h.2)

  -- widths at which the pattern doesn't refine
  pub broken_widths : (vs : List ℕ) → first_failing (kept_at f) (bounds n most) ≡ Some vs → AreWidths n most (widths_at vs) × (is_none (first_broken (f (widths_at vs))) ≡ false)
  broken_widths vs e =
      let t = fails (kept_at f) (bounds n most) vs e in
      (below_widths most low n vs t.0, t.1)
