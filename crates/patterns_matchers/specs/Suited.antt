-- The eligibility of an operation for rules.
use Rattle.std.specs.Prelude.{◌≡◌, ℕ, List, Option, true, false}
use Rattle.ir_event.specs.trees.Meaning.{Operation}
use Rattle.patterns_base.specs.Diagnostics.{broken_at, reported_at}
use Rattle.patterns_base.specs.verify.declared.verdict.Verdict.{Verdict}
use Rattle.patterns_base.specs.verify.declared.verdict.Verdict.TheVariants.{Valid, Unlisted, Invalid}
use Rattle.patterns_base.specs.Looks.{Header, breaks_none, is_verified, is_in_order}
use Rattle.patterns_matchers.specs.declared.eligibility.Eligibility.{Eligibility}
use Rattle.patterns_matchers.specs.declared.eligibility.Eligibility.TheVariants.{Verified, Erasable, Ineligible}

-- a verdict on the rules that an operation breaks and on the rules that are reported for it: both are empty, only the
-- first isn't, or the second isn't
abbrev pub IsVerdict : Option (List ℕ) → Option (List ℕ) → Verdict → Type 0
IsVerdict broken reported Valid = breaks_none broken ≡ true
IsVerdict broken reported Unlisted = (breaks_none broken ≡ false) × (breaks_none reported ≡ true)
IsVerdict broken reported Invalid = breaks_none reported ≡ false

abbrev pub IsVerdictOf : ℕ → Operation → Verdict → Type 0
IsVerdictOf x t v = IsVerdict (broken_at x t) (reported_at x t) v

-- the operation is verified, or only in order, or not even in order
abbrev pub IsEligibilityOf : Operation → Header → Eligibility → Type 0
IsEligibilityOf t h Verified = is_verified t h ≡ true
IsEligibilityOf t h Erasable = (is_verified t h ≡ false) × (is_in_order t h ≡ true)
IsEligibilityOf t h Ineligible = is_in_order t h ≡ false
