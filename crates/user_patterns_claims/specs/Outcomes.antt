-- The meaning of a pattern at all widths. An outcome of a variable is poison or a number of its kind. An outcome of a
-- constant is a number. If the old steps are defined, the new steps are defined, and if the old result is a number,
-- the new result is the same number.
use Rattle.std.specs.Prelude.{◌≡◌, ◌^◌, ◌<◌, ◌+◌, ℕ, List, [], ◌∷◌, Bool, true, false, Option, Some, None, eqb, slice_get, if◌then◌else◌}
use Rattle.std.specs.List.{list_all, list_any}
use Rattle.ir_types.specs.declared.bits.BitsKind.{BitsKind}
use Rattle.ir_types.specs.Bits.{width_of}
use Rattle.ir_types.specs.Reasons.{is_width}
use Rattle.user_patterns_check.specs.Checks.{AlwaysKeeps, old_ran, shown}
use Rattle.user_patterns_check.specs.Contents.{Content}
use Rattle.user_patterns_check.specs.Outcomes.{Outcome, given, run}
use Rattle.user_patterns_data.specs.declared.pattern.PatternType.{PatternType}
use Rattle.user_patterns_data.specs.declared.pattern.PatternType.TheVariants as ty
use Rattle.user_patterns_data.specs.Fitting.{content_with, kind_at}
use Rattle.user_patterns_data.specs.Shapes.{PatternModel}

-- the outcomes after the old steps, for outcomes of the variables
abbrev pub old_outcomes : Content → List Outcome → Option (List Outcome)
old_outcomes s os = if s.applies then given (run s.given os) (run s.old) else None

-- the results of the old and the new side, or none if a step is undefined or the pattern doesn't apply
abbrev pub old_result : Content → List Outcome → Option Outcome
old_result s os = given (old_outcomes s os) (λ env. slice_get env s.old_result)

abbrev pub new_result : Content → List Outcome → Option Outcome
new_result s os = given (old_outcomes s os) (λ env. shown s.new_result (run s.new env))

-- whether the new side refines the old side, for these outcomes of the variables
abbrev pub keeps_outcomes : Content → List Outcome → Bool
keeps_outcomes s os = old_ran s (old_outcomes s os)

-- ---- outcomes that variables may have

-- poison, or a number of a kind
abbrev pub IsOutcome : BitsKind → Outcome → Type 0
IsOutcome k None = Unit {0}
IsOutcome k (Some x) = (x.0 ≡ k) × (x.1 < 2 ^ width_of k)

-- a constant isn't poison
abbrev pub IsNumberIf : Bool → Outcome → Type 0
IsNumberIf true None = ⊥
IsNumberIf _ _ = Unit {0}

-- the outcomes of the variables from place i on
abbrev pub AreOutcomes : PatternModel → List BitsKind → ℕ → List ℕ → List Outcome → Type 0
AreOutcomes p ks i [] [] = Unit {0}
AreOutcomes p ks i (t ∷ tys) (o ∷ os) = IsOutcome (kind_at ks t) o × IsNumberIf (list_any (eqb i) p.constants) o × AreOutcomes p ks (i + 1) tys os
AreOutcomes p ks i _ _ = ⊥

-- ---- all widths

-- a kind for each type of a pattern; a concrete type has its own kind
abbrev pub AreKindsOf : List PatternType → List BitsKind → Type 0
AreKindsOf [] [] = Unit {0}
AreKindsOf (ty.Concrete k ∷ tys) (j ∷ ks) = (j ≡ k) × AreKindsOf tys ks
AreKindsOf (ty.Variable v ∷ tys) (j ∷ ks) = AreKindsOf tys ks
AreKindsOf _ _ = ⊥

-- kinds of 1 to 128 bits, or `index`
abbrev pub are_kinds : List BitsKind → Bool
are_kinds ks = list_all (λ k. is_width (width_of k)) ks

abbrev pub HoldsAtAllWidths : PatternModel → Type 0
HoldsAtAllWidths p =
    (ks : List BitsKind) → are_kinds ks ≡ true → AreKindsOf p.value_types ks
    → (os : List Outcome) → AreOutcomes p ks 0 p.values os → keeps_outcomes (content_with ks p) os ≡ true

-- values are outcomes that are numbers, so a pattern that holds at all widths refines for all values
abbrev pub OutcomesDecide : Type 0
OutcomesDecide = (p : PatternModel) → HoldsAtAllWidths p → (ks : List BitsKind) → are_kinds ks ≡ true → AreKindsOf p.value_types ks → AlwaysKeeps (content_with ks p)

-- ---- patterns whose old side is never a number

-- whether a result is a number
abbrev pub is_number_at : Option Outcome → Bool
is_number_at (Some (Some x)) = true
is_number_at _ = false

-- the old side is never a number, at all widths and for all outcomes: the pattern doesn't apply, or the old side is
-- undefined or poison
abbrev pub IsNeverNumber : PatternModel → Type 0
IsNeverNumber p =
    (ks : List BitsKind) → are_kinds ks ≡ true → AreKindsOf p.value_types ks
    → (os : List Outcome) → AreOutcomes p ks 0 p.values os → is_number_at (old_result (content_with ks p) os) ≡ false
