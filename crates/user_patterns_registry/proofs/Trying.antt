-- The sampled values in the code, and the counterexample that is found.
use Rattle.std.proofs.Common.{◌≡◌, ◌∙◌, ℕ, List, [], ◌∷◌, Option, Some, None, Ok, Err, Result, IfOk, false, inr, sym, ap, subst}
use Rattle.std.specs.declared.alloc.AllocError.{AllocError}
use Rattle.std.specs.declared.alloc.Global.{Global}
use Rattle.std.specs.declared.vec.Vec.{Vec}
use Rattle.ir_types.specs.declared.bits.BitsKind.{BitsKind}
use Rattle.user_patterns_check.proofs.Found.{fails}
use Rattle.user_patterns_check.specs.Contents.{Content}
use Rattle.user_patterns_check.specs.Checks.{keeps}
use Rattle.user_patterns_data.specs.Fitting.{content_at}
use Rattle.user_patterns_data.specs.Shapes.{PatternModel}
use Rattle.user_patterns_registry.specs.declared.check_result.Counterexample.{Counterexample}
use Rattle.user_patterns_registry.specs.Shown.{IsShown, counterexample_width}
use Rattle.user_patterns_registry.specs.Sampled.{IsFoundAmong, IsRefuted, IsSampledAt, IsWideSampled, NoneRefutes, number_of_case, first_refuting, refines_at_case, case_bounds, usual, values_of_case, wide_widths}
use Rattle.user_patterns_widths.specs.NearLiterals.{near_literals}
use Rattle.user_patterns_widths.specs.SampledValues.{values_of}
use Rattle.user_patterns_widths.specs.SampledWidths.{widths_of_case}

module _ (p : PatternModel) (near : List ℕ) (w : ℕ) (numbers widths values : List ℕ) (value_types : List BitsKind) (case : ℕ) (s : Content)
    (wide : widths ≡ widths_of_case p w numbers) (at : s ≡ content_at p widths) (of : value_types ≡ s.value_types) (which : case ≡ number_of_case p numbers)
    (those : values ≡ values_of near case value_types) where
  at_tried : s ≡ content_at p (widths_of_case p w numbers)
  at_tried = at ∙ ap (content_at p) wide

  pub values_are_tried : values ≡ values_of_case p near w numbers
  values_are_tried = those ∙ (λ i. values_of near (which i) ((of ∙ ap Content.value_types at_tried) i))

  pub keeps_is_tried : keeps s values ≡ refines_at_case p near w numbers
  keeps_is_tried = (λ i. keeps (at_tried i) (values_are_tried i))

-- a counterexample with the first widths and values
module _ (p : PatternModel) (near : List ℕ) (w : ℕ) (numbers : List ℕ) (widths : Vec ℕ Global) (values : Vec ℕ Global) where
  broken : first_refuting p near w ≡ Some numbers → refines_at_case p near w numbers ≡ false
  broken found = (fails (refines_at_case p near w) (case_bounds p near) numbers found).1

  module _ (found : first_refuting p near w ≡ Some numbers) (wide : widths.items ≡ widths_of_case p w numbers) (those : values.items ≡ values_of_case p near w numbers) where
    refutes : (c : Counterexample) → c.widths ≡ widths → c.values ≡ values → c.width ≡ counterexample_width p widths.items → IsShown (content_at p widths.items) c
        → IsRefuted p near w c
    refutes c us vs width shown =
        let at : c.widths.items ≡ widths_of_case p w numbers = ap Vec.items us ∙ wide in
        let of : c.values.items ≡ values_of_case p near w numbers = ap Vec.items vs ∙ those in
        record {
          first = (numbers, found, at, of);
          width = width ∙ ap (counterexample_width p) (sym (ap Vec.items us));
          broken = (λ i. keeps (content_at p (at i)) (of i)) ∙ broken found;
          shown = subst (λ (k : List ℕ). IsShown (content_at p k) c) (sym (ap Vec.items us)) shown;
        }

    pub refuted : (r : Result Counterexample AllocError) → IfOk r (λ c. c.widths ≡ widths) → IfOk r (λ c. c.values ≡ values)
        → IfOk r (λ c. c.width ≡ counterexample_width p widths.items) → IfOk r (IsShown (content_at p widths.items)) → IfOk r (IsRefuted p near w)
    refuted (Ok c) us vs width shown = refutes c us vs width shown
    refuted (Err e) us vs width shown = tt

-- the samples at widths, one after another, and those near literals after all others
module _ (p : PatternModel) where
  pub onward : (near : List ℕ) (w : ℕ) (ws : List ℕ) (r : Result (Option Counterexample) AllocError) → first_refuting p near w ≡ None
      → IfOk r (IsFoundAmong p near ws) → IfOk r (IsFoundAmong p near (w ∷ ws))
  onward near w ws (Ok None) e h = (e, h)
  onward near w ws (Ok (Some c)) e h = inr (e, h)
  onward near w ws (Err x) e h = tt

  pub no_literals : (near ws : List ℕ) → near ≡ near_literals p → near ≡ [] → NoneRefutes p usual ws → NoneRefutes p (near_literals p) ws
  no_literals near ws is e h = subst (λ (ns : List ℕ). NoneRefutes p ns ws) (sym e ∙ is) h

  pub after_usual : (ws : List ℕ) (r : Result (Option Counterexample) AllocError) → NoneRefutes p usual ws
      → IfOk r (IsFoundAmong p (near_literals p) ws) → IfOk r (IsSampledAt p ws)
  after_usual ws (Ok None) none h = (none, h)
  after_usual ws (Ok (Some c)) none h = inr (none, h)
  after_usual ws (Err x) none h = tt

  pub wide_sampled : (r : Result (Option Counterexample) AllocError) → IfOk r (IsSampledAt p wide_widths) → IfOk r (IsWideSampled p)
  wide_sampled (Ok None) h = λ few. h
  wide_sampled (Ok (Some c)) h = h
  wide_sampled (Err x) h = tt
