-- The sampled check of a pattern at wide types. A reported counterexample is one. Without a counterexample, the check
-- says nothing about other values.
use Rattle.std.specs.Prelude.{◌≡◌, ℕ, ◌<◌, ◌≤◌, ◌⊎◌, Bool, false, List, [], ◌∷◌, ◌++◌, get_or, replicate, Option, Some, None}
use Rattle.ir_types.specs.declared.refusal.Refusal.{Refusal}
use Rattle.ir_types.specs.declared.refusal.Refusal.TheVariants.{BadLimit, Memory}
use Rattle.user_patterns_check.specs.Cases.{first_failing}
use Rattle.user_patterns_check.specs.declared.verdict.Verdict.TheVariants as verdict
use Rattle.user_patterns_check.specs.Checks.{keeps}
use Rattle.user_patterns_check.specs.Families.{IsVerdict}
use Rattle.user_patterns_data.specs.Fitting.{content_at}
use Rattle.user_patterns_data.specs.Shapes.{PatternModel}
use Rattle.user_patterns_widths.specs.NearLiterals.{near_literals}
use Rattle.user_patterns_widths.specs.SampledValues.{values_of}
use Rattle.user_patterns_widths.specs.SampledWidths.{levels, widths_of_case}
use Rattle.user_patterns_registry.specs.declared.check_result.Counterexample.{Counterexample}
use Rattle.user_patterns_registry.specs.declared.check_result.CheckResult.{CheckResult}
use Rattle.user_patterns_registry.specs.declared.check_result.CheckResult.TheVariants as judgement
use Rattle.user_patterns_registry.specs.Shown.{IsShown, report_width, counterexample_width}

-- ---- the samples

-- the greatest width that a sampled check accepts, and the limit of type variables
abbrev pub most_sampled : ℕ
most_sampled = 128

abbrev pub most_types : ℕ
most_types = 4

-- the numbers near which the usual samples are: none
abbrev pub usual : List ℕ
usual = []

-- the number of test cases at each list of widths: of usual ones, and of those near numbers
abbrev pub cases : List ℕ → ℕ
cases [] = 4096
cases (n ∷ ns) = 1681

-- the check runs over lists of numbers: a level for each type variable, then a case
abbrev pub case_bounds : PatternModel → List ℕ → List ℕ
case_bounds p near = replicate p.types levels ++ (cases near ∷ [])

abbrev pub number_of_case : PatternModel → List ℕ → ℕ
number_of_case p numbers = get_or numbers p.types 0

abbrev pub values_of_case : PatternModel → List ℕ → ℕ → List ℕ → List ℕ
values_of_case p near w numbers = values_of near (number_of_case p numbers) (content_at p (widths_of_case p w numbers)).value_types

-- whether the pattern refines at the values of a case, at the widths of the levels
abbrev pub refines_at_case : PatternModel → List ℕ → ℕ → List ℕ → Bool
refines_at_case p near w numbers = keeps (content_at p (widths_of_case p w numbers)) (values_of_case p near w numbers)

-- the first levels and case at which it doesn't
abbrev pub first_refuting : PatternModel → List ℕ → ℕ → Option (List ℕ)
first_refuting p near w = first_failing (refines_at_case p near w) (case_bounds p near)

-- ---- the report

-- a check that is refused: the width is 0 or above the limit, or there are too many type variables
abbrev pub IsUnsampled : PatternModel → ℕ → Type 0
IsUnsampled p w = (w < 1) ⊎ ((most_sampled < w) ⊎ (most_types < p.types))

-- a check that is accepted
pub record IsAcceptedCheck (p : PatternModel) (w : ℕ) : Type 0 where
  pub low : 1 ≤ w
  pub high : w ≤ most_sampled
  pub types : p.types ≤ most_types

-- a counterexample has the first widths and values at which the pattern doesn't refine, and the values that both
-- sides compute
pub record IsRefuted (p : PatternModel) (near : List ℕ) (w : ℕ) (c : Counterexample) : Type 0 where
  pub first :
      (numbers : List ℕ)
      × (first_refuting p near w ≡ Some numbers)
      × (c.widths.items ≡ widths_of_case p w numbers)
      × (c.values.items ≡ values_of_case p near w numbers)
  pub width : c.width ≡ counterexample_width p c.widths.items
  pub broken : keeps (content_at p c.widths.items) c.values.items ≡ false
  pub shown : IsShown (content_at p c.widths.items) c

-- a counterexample, or none of the samples of a width is one
abbrev pub IsFoundAt : PatternModel → List ℕ → ℕ → Option Counterexample → Type 0
IsFoundAt p near w None = first_refuting p near w ≡ None
IsFoundAt p near w (Some c) = IsRefuted p near w c

-- each of these widths is accepted
abbrev pub AreAcceptedChecks : PatternModel → List ℕ → Type 0
AreAcceptedChecks p [] = Unit {0}
AreAcceptedChecks p (w ∷ ws) = IsAcceptedCheck p w × AreAcceptedChecks p ws

-- none of the samples at these widths is a counterexample
abbrev pub NoneRefutes : PatternModel → List ℕ → List ℕ → Type 0
NoneRefutes p near [] = Unit {0}
NoneRefutes p near (w ∷ ws) = (first_refuting p near w ≡ None) × NoneRefutes p near ws

-- the first counterexample among the samples at these widths
abbrev pub IsFirstAmong : PatternModel → List ℕ → List ℕ → Counterexample → Type 0
IsFirstAmong p near [] c = ⊥
IsFirstAmong p near (w ∷ ws) c = (IsAcceptedCheck p w × IsRefuted p near w c) ⊎ ((first_refuting p near w ≡ None) × IsFirstAmong p near ws c)

abbrev pub IsFoundAmong : PatternModel → List ℕ → List ℕ → Option Counterexample → Type 0
IsFoundAmong p near ws None = NoneRefutes p near ws
IsFoundAmong p near ws (Some c) = IsFirstAmong p near ws c

-- no sample at these widths is a counterexample: no usual one, and none near the literals of the pattern
abbrev pub IsUnrefuted : PatternModel → List ℕ → Type 0
IsUnrefuted p ws = NoneRefutes p usual ws × NoneRefutes p (near_literals p) ws

-- the first counterexample: the samples near the literals come after all usual ones
abbrev pub IsFirstSample : PatternModel → List ℕ → Counterexample → Type 0
IsFirstSample p ws c = IsFirstAmong p usual ws c ⊎ (NoneRefutes p usual ws × IsFirstAmong p (near_literals p) ws c)

abbrev pub IsSampledAt : PatternModel → List ℕ → Option Counterexample → Type 0
IsSampledAt p ws None = IsUnrefuted p ws
IsSampledAt p ws (Some c) = IsFirstSample p ws c

abbrev pub IsSampled : PatternModel → ℕ → CheckResult → Type 0
IsSampled p w (judgement.Sampled v) = IsAcceptedCheck p w × (v ≡ report_width p w) × IsUnrefuted p (w ∷ [])
IsSampled p w (judgement.Fails c) = IsAcceptedCheck p w × IsFirstSample p (w ∷ []) c
IsSampled p w _ = ⊥

-- the widths that are sampled if no width is asked
abbrev pub wide_widths : List ℕ
wide_widths = 16 ∷ 32 ∷ 64 ∷ 128 ∷ []

abbrev pub IsWideSampled : PatternModel → Option Counterexample → Type 0
IsWideSampled p None = p.types ≤ most_types → IsUnrefuted p wide_widths
IsWideSampled p (Some c) = IsFirstSample p wide_widths c

-- the reason why a check is refused
abbrev pub IsNotSampled : PatternModel → ℕ → Refusal → Type 0
IsNotSampled p w Memory = Unit {0}
IsNotSampled p w BadLimit = IsUnsampled p w
IsNotSampled p w _ = ⊥

-- ---- the law of the report

-- a counterexample of a sampled check is a counterexample of a check up to this width: its widths are from 1 to this
-- width, its values are of the variables' kinds, and the pattern doesn't refine at them
abbrev pub RefutesTruly : Type 0
RefutesTruly =
    (p : PatternModel) (near : List ℕ) (w : ℕ) (c : Counterexample) → IsAcceptedCheck p w → IsRefuted p near w c → IsVerdict (content_at p) p.types w (verdict.Fails c.widths c.values)
