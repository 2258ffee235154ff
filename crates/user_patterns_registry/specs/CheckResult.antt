-- The result of a check command: the greatest width, and the report.
use Rattle.std.specs.Prelude.{◌≡◌, ℕ, zero, suc, ◌<◌, ◌≤◌, ◌⊎◌, Bool, true, false, nat_le, if◌then◌else◌, List, replicate, Option, Some, None}
use Rattle.ir_types.specs.declared.bits.BitsKind.{BitsKind}
use Rattle.ir_types.specs.declared.refusal.Refusal.{Refusal}
use Rattle.ir_types.specs.declared.refusal.Refusal.TheVariants.{BadLimit, Memory}
use Rattle.user_patterns_check.specs.declared.verdict.Verdict.TheVariants as verdict
use Rattle.user_patterns_check.specs.Checks.{AlwaysKeeps, bits}
use Rattle.user_patterns_check.specs.Families.{IsFirst, IsVerdict, TooMany}
use Rattle.user_patterns_data.specs.Fitting.{content_at, content_with}
use Rattle.user_patterns_data.specs.Shapes.{PatternModel}
use Rattle.user_patterns_widths.specs.AllWidths.{holds_at_all_widths}
use Rattle.user_patterns_widths.specs.Lasting.{RefinesAtAllWidths}
use Rattle.user_patterns_claims.specs.declared.assignment.Refutation.{Refutation}
use Rattle.user_patterns_claims.specs.Answered.{IsRefuted}
use Rattle.user_patterns_claims.specs.Quotients.{IsProvedByClaims}
use Rattle.user_patterns_claims.specs.Outcomes.{AreKindsOf, IsNeverNumber, are_kinds}
use Rattle.user_patterns_registry.specs.declared.check_result.Counterexample.{Counterexample}
use Rattle.user_patterns_registry.specs.declared.check_result.CheckResult.{CheckResult}
use Rattle.user_patterns_registry.specs.declared.check_result.CheckResult.TheVariants as judgement
use Rattle.user_patterns_registry.specs.declared.check_result.CheckSummary.{CheckSummary}
use Rattle.user_patterns_registry.specs.declared.check_result.CheckSummary.TheVariants as said
use Rattle.user_patterns_registry.specs.Sampled.{IsFirstSample, IsUnrefuted, most_types, wide_widths}
use Rattle.user_patterns_registry.specs.Shown.{IsShown, report_width, counterexample_width}

-- ---- the width

-- the greatest width that a check accepts, the greatest default width, and the limit of bits at the default width
abbrev pub most_requested : ℕ
most_requested = 64

abbrev pub default_most : ℕ
default_most = 8

abbrev pub default_bits : ℕ
default_bits = 16

-- whether the values have few bits if all type variables have that width
abbrev pub is_small : PatternModel → ℕ → Bool
is_small p w = nat_le (bits (content_at p (replicate p.types w))) default_bits

-- the greatest such width, or 1 if there is none
unfoldable pub widest : PatternModel → ℕ → ℕ
widest p zero = 1
widest p (suc w) = if is_small p (suc w) then suc w else widest p w

abbrev pub default_width : PatternModel → ℕ
default_width p = widest p default_most

abbrev pub requested_width : PatternModel → Option ℕ → ℕ
requested_width p None = default_width p
requested_width p (Some w) = w

-- ---- the report

-- if no width is asked, a pattern whose form says so is reported to be right at every width
abbrev pub reports_all_widths : PatternModel → Option ℕ → Bool
reports_all_widths p None = holds_at_all_widths p
reports_all_widths p (Some w) = false

-- whatever types of 1 to 128 bits, or index, the pattern has: the new side gives what the old side gives, for all values
abbrev pub KeepsAtAllWidths : PatternModel → Type 0
KeepsAtAllWidths p = (ks : List BitsKind) → are_kinds ks ≡ true → AreKindsOf p.value_types ks → AlwaysKeeps (content_with ks p)

-- the two proofs of it: both sides are one polynomial or are computed bit by bit; or claims about the bits of all
-- outcomes of its variables, poison included. A new side with a signed division has no claim.
abbrev pub IsProvedAtAllWidths : PatternModel → Type 0
IsProvedAtAllWidths p = ((holds_at_all_widths p ≡ true) × RefinesAtAllWidths p) ⊎ IsProvedByClaims p

-- no value up to a width refutes the pattern: it holds there, or its old side is defined nowhere there
abbrev pub IsKept : PatternModel → ℕ → Type 0
IsKept p w = IsVerdict (content_at p) p.types w verdict.Holds ⊎ IsVerdict (content_at p) p.types w verdict.Vacuous

-- the old side is a number somewhere, or at least defined at a width up to this one
abbrev pub IsDefinedSomewhere : PatternModel → ℕ → Type 0
IsDefinedSomewhere p w = IsVerdict (content_at p) p.types w verdict.Holds ⊎ (IsVerdict (content_at p) p.types w verdict.Vacuous × (IsNeverNumber p → ⊥))

-- no sample of wide types refutes the pattern, if no width was asked
abbrev pub IsSampledIf : PatternModel → Option ℕ → Type 0
IsSampledIf p None = p.types ≤ most_types → IsUnrefuted p wide_widths
IsSampledIf p (Some w) = Unit {0}

-- the first counterexample among the values up to the width
pub record IsFirstFound (p : PatternModel) (w : ℕ) (c : Counterexample) : Type 0 where
  pub width : c.width ≡ counterexample_width p c.widths.items
  pub broken : IsVerdict (content_at p) p.types w (verdict.Fails c.widths c.values)
  pub first : IsFirst (content_at p) p.types w (verdict.Fails c.widths c.values)
  pub shown : IsShown (content_at p c.widths.items) c

-- a result that reports the counterexample of a claim
abbrev pub IsWrong : PatternModel → Refutation → CheckResult → Type 0
IsWrong p r j = j ≡ judgement.Refuted (counterexample_width p r.assignment.widths.items) r

-- The meaning of each answer of a check. All values are tried at the widths up to the one that was asked, or up to the
-- default width. The number of an answer is that width, or the width of the widest type if no type is variable.
-- - `Holds`: no value up to the width refutes the pattern, and no sample of wide types if no width was asked.
-- - `AllWidths`: the pattern is right at every width. This is given only if no width was asked.
-- - `Vacuous`: the old side is never a number at any width, or it isn't defined for any value up to the width.
-- - `Fails`: the first counterexample among the values up to the width; or, if there is none and no width was asked,
--   the first among the samples of wide types.
-- - `Refuted`: a counterexample at wider types or with poison, by a claim that fails. Both sides were run.
abbrev pub IsCheckResult : PatternModel → Option ℕ → CheckResult → Type 0
IsCheckResult p requested (judgement.Holds v) =
    (v ≡ report_width p (requested_width p requested))
    × IsVerdict (content_at p) p.types (requested_width p requested) verdict.Holds
    × (reports_all_widths p requested ≡ false)
    × IsSampledIf p requested
IsCheckResult p requested judgement.AllWidths =
    (requested ≡ None)
    × IsDefinedSomewhere p (requested_width p requested)
    × KeepsAtAllWidths p
    × IsProvedAtAllWidths p
IsCheckResult p requested (judgement.Vacuous v) =
    (v ≡ report_width p (requested_width p requested))
    × (IsVerdict (content_at p) p.types (requested_width p requested) verdict.Vacuous
    ⊎ ((requested ≡ None) × IsVerdict (content_at p) p.types (requested_width p requested) verdict.Holds × IsNeverNumber p))
IsCheckResult p requested (judgement.Fails c) =
    IsFirstFound p (requested_width p requested) c
    ⊎ ((requested ≡ None) × IsVerdict (content_at p) p.types (requested_width p requested) verdict.Holds × IsFirstSample p wide_widths c)
IsCheckResult p requested (judgement.Refuted w r) =
    (requested ≡ None) × (w ≡ counterexample_width p r.assignment.widths.items) × IsKept p (requested_width p requested) × IsRefuted p r
IsCheckResult p requested (judgement.Sampled v) = ⊥

-- a width that the check refuses: 0, above the limit, or with too many values
abbrev pub IsUntried : PatternModel → ℕ → Type 0
IsUntried p w = (w < 1) ⊎ ((most_requested < w) ⊎ TooMany (content_at p) p.types w)

-- the reason why a check is refused
abbrev pub IsRefused : PatternModel → ℕ → Refusal → Type 0
IsRefused p w Memory = Unit {0}
IsRefused p w BadLimit = IsUntried p w
IsRefused p w _ = ⊥

-- a check result without its counterexample
abbrev pub said_of : CheckResult → CheckSummary
said_of (judgement.Holds w) = said.Holds w
said_of judgement.AllWidths = said.AllWidths
said_of (judgement.Vacuous w) = said.Vacuous w
said_of (judgement.Fails c) = said.Fails c.width
said_of (judgement.Refuted w r) = said.Fails w
said_of (judgement.Sampled w) = said.Sampled w
