-- The check result of a verdict.
use Rattle.std.proofs.Common.{◌≡◌, ◌∙◌, ◌≤◌, ℕ, List, Option, Some, None, true, false, Bool, if◌then◌else◌, ap, inl, inr, refl, subst, sym}
use Rattle.user_patterns_check.specs.declared.verdict.Verdict.{Verdict}
use Rattle.user_patterns_check.specs.declared.verdict.Verdict.TheVariants as verdict
use Rattle.user_patterns_check.specs.Contents.{Content}
use Rattle.user_patterns_check.specs.Families.{IsFirst, IsVerdict}
use Rattle.user_patterns_data.specs.Fitting.{content_at}
use Rattle.user_patterns_data.specs.Shapes.{PatternModel}
use Rattle.user_patterns_widths.specs.AllWidths.{holds_at_all_widths}
use Rattle.user_patterns_widths.specs.Lasting.{HoldsAtAllWidths}
use Rattle.user_patterns_registry.specs.declared.check_result.Counterexample.{Counterexample}
use Rattle.user_patterns_registry.specs.declared.check_result.CheckResult.{CheckResult}
use Rattle.user_patterns_registry.specs.declared.check_result.CheckResult.TheVariants as judgement
use Rattle.user_patterns_claims.specs.declared.assignment.Refutation.{Refutation}
use Rattle.user_patterns_claims.specs.Answered.{IsRefuted}
use Rattle.user_patterns_claims.specs.Outcomes.{IsNeverNumber, OutcomesDecide}
use Rattle.user_patterns_claims.specs.Quotients.{IsProvedByClaims}
use Rattle.user_patterns_registry.specs.CheckResult.{IsCheckResult, IsFirstFound, IsKept, IsSampledIf, IsWrong, requested_width, reports_all_widths}
use Rattle.user_patterns_registry.specs.Sampled.{IsWideSampled}
use Rattle.user_patterns_registry.specs.Shown.{IsShown, report_width, counterexample_width}

pub alike : {X : Type 0} (f : Content → List ℕ → X) (s t : Content) (us vs : List ℕ) → s ≡ t → us ≡ vs → f s us ≡ f t vs
alike f s t us vs e g = (λ i. f (e i) (g i))

false_true : false ≡ true → ⊥
false_true e = cc

-- a form speaks only if no width was asked
form_speaks : (p : PatternModel) (requested : Option ℕ) → reports_all_widths p requested ≡ true → (requested ≡ None) × (holds_at_all_widths p ≡ true)
form_speaks p None e = (refl, e)
form_speaks p (Some w) e = absurd (false_true e)

-- what is true of the width that was tried is true of the one that was asked
module _ (p : PatternModel) (requested : Option ℕ) (most : ℕ) (is : most ≡ requested_width p requested) where
  to_requested : (v : Verdict) → IsVerdict (content_at p) p.types most v → IsVerdict (content_at p) p.types (requested_width p requested) v
  to_requested v right = subst (λ (m : ℕ). IsVerdict (content_at p) p.types m v) is right

  width_is : (v : ℕ) → v ≡ report_width p most → v ≡ report_width p (requested_width p requested)
  width_is v width = width ∙ ap (report_width p) is

  -- a check up to a width that was asked
  pub requested_result : (w v : ℕ) → requested ≡ Some w → v ≡ report_width p most → IsVerdict (content_at p) p.types most verdict.Holds → reports_all_widths p requested ≡ false
      → IsCheckResult p requested (judgement.Holds v)
  requested_result w v e width right reported = (width_is v width, to_requested verdict.Holds right, reported, subst (IsSampledIf p) (sym e) tt)

  pub samples_reported : (v : ℕ) → requested ≡ None → v ≡ report_width p most → IsVerdict (content_at p) p.types most verdict.Holds → reports_all_widths p requested ≡ false
      → IsWideSampled p None → IsCheckResult p requested (judgement.Holds v)
  samples_reported v e width right reported kept = (width_is v width, to_requested verdict.Holds right, reported, subst (IsSampledIf p) (sym e) kept)

  pub sampled_reported : (c : Counterexample) → requested ≡ None → IsVerdict (content_at p) p.types most verdict.Holds → IsWideSampled p (Some c)
      → IsCheckResult p requested (judgement.Fails c)
  sampled_reported c e right found = inr (e, to_requested verdict.Holds right, found)

  pub form_reported : HoldsAtAllWidths → 1 ≤ most → IsVerdict (content_at p) p.types most verdict.Holds → reports_all_widths p requested ≡ true
      → IsCheckResult p requested judgement.AllWidths
  form_reported law some right reported =
      let form = form_speaks p requested reported in
      let refines = law p form.1 most some right in
      (form.0, inl (to_requested verdict.Holds right), (λ ks widths value_kinds. refines ks widths), inl (form.1, refines))

  pub claims_reported : OutcomesDecide → requested ≡ None → IsVerdict (content_at p) p.types most verdict.Holds → IsProvedByClaims p
      → IsCheckResult p requested judgement.AllWidths
  claims_reported law e right claimed = (e, inl (to_requested verdict.Holds right), law p claimed.0, inr claimed)

  pub wide_reported : OutcomesDecide → requested ≡ None → IsVerdict (content_at p) p.types most verdict.Vacuous → IsProvedByClaims p → (IsNeverNumber p → ⊥)
      → IsCheckResult p requested judgement.AllWidths
  wide_reported law e right claimed somewhere = (e, inr (to_requested verdict.Vacuous right, somewhere), law p claimed.0, inr claimed)

  pub never_reported : (v : ℕ) → requested ≡ None → v ≡ report_width p most → IsVerdict (content_at p) p.types most verdict.Holds → IsNeverNumber p
      → IsCheckResult p requested (judgement.Vacuous v)
  never_reported v e width right never = (width_is v width, inr (e, to_requested verdict.Holds right, never))

  pub empty_reported : (v : ℕ) → v ≡ report_width p most → IsVerdict (content_at p) p.types most verdict.Vacuous → IsCheckResult p requested (judgement.Vacuous v)
  empty_reported v width right = (width_is v width, inl (to_requested verdict.Vacuous right))

  -- a pattern that holds, and whether its old side is a number somewhere
  pub right_reported : OutcomesDecide → requested ≡ None → IsVerdict (content_at p) p.types most verdict.Vacuous → (b : Bool) → IsProvedByClaims p × (b ≡ true → IsNeverNumber p → ⊥)
      → (j : CheckResult) → j ≡ (if b then judgement.AllWidths else judgement.Vacuous (report_width p most)) → IsCheckResult p requested j
  right_reported law e right true claimed j reported = subst (IsCheckResult p requested) (sym reported) (wide_reported law e right claimed.0 (claimed.1 refl))
  right_reported law e right false claimed j reported = subst (IsCheckResult p requested) (sym reported) (empty_reported (report_width p most) refl right)

  wrong_reported : (r : Refutation) (j : CheckResult) → requested ≡ None → IsKept p most → IsRefuted p r → IsWrong p r j → IsCheckResult p requested j
  wrong_reported r j e kept is_wrong reported =
      subst (IsCheckResult p requested) (sym reported) (e, refl, subst (IsKept p) is kept, is_wrong)

  pub wrong_holds : (r : Refutation) (j : CheckResult) → requested ≡ None → IsVerdict (content_at p) p.types most verdict.Holds → IsRefuted p r → IsWrong p r j → IsCheckResult p requested j
  wrong_holds r j e right is_wrong reported = wrong_reported r j e (inl right) is_wrong reported

  pub wrong_empty : (r : Refutation) (j : CheckResult) → requested ≡ None → IsVerdict (content_at p) p.types most verdict.Vacuous → IsRefuted p r → IsWrong p r j → IsCheckResult p requested j
  wrong_empty r j e right is_wrong reported = wrong_reported r j e (inr right) is_wrong reported

  pub fails_reported : (v : Verdict) (c : Counterexample) → v ≡ verdict.Fails c.widths c.values
      → IsVerdict (content_at p) p.types most v → IsFirst (content_at p) p.types most v
      → c.width ≡ counterexample_width p c.widths.items → IsShown (content_at p c.widths.items) c → IsCheckResult p requested (judgement.Fails c)
  fails_reported v c same right first width shown =
      inl
      (subst (λ (m : ℕ). IsFirstFound p m c) is
      (record { width = width; broken = subst (IsVerdict (content_at p) p.types most) same right; first = subst (IsFirst (content_at p) p.types most) same first; shown = shown }))
