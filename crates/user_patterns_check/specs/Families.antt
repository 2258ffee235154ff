-- A pattern at all widths of its types up to a limit. A family is the instance of a pattern at each list of widths,
-- one for each type variable.
use Rattle.std.specs.Prelude.{◌≡◌, ◌+◌, ◌^◌, ◌<◌, ◌≤◌, ℕ, zero, suc, List, [], ◌∷◌, Bool, false, Option, Some, None, map, is_none, min, replicate, ◌⊎◌}
use Rattle.ir_types.specs.Limits.{most_width}
use Rattle.user_patterns_check.specs.Cases.{AreBelow, first_failing}
use Rattle.user_patterns_check.specs.declared.verdict.Verdict.{Verdict}
use Rattle.user_patterns_check.specs.declared.verdict.Verdict.TheVariants as verdict
use Rattle.user_patterns_check.specs.Contents.{Content}
use Rattle.user_patterns_check.specs.Checks.{AlwaysKeeps, AlwaysUndefined, bits, counts, first_broken, first_defined_input, is_few, is_undefined, keeps, most_bits}

abbrev pub Family : Type 0
Family = List ℕ → Content

-- n widths, each from 1 to `most`
abbrev pub AreWidths : ℕ → ℕ → List ℕ → Type 0
AreWidths zero most [] = Unit {0}
AreWidths (suc n) most (w ∷ ws) = (1 ≤ w) × (w ≤ most) × AreWidths n most ws
AreWidths _ _ _ = ⊥

-- the search counts from 0, so a number represents the width above it
abbrev pub width_at : ℕ → ℕ
width_at v = min (v + 1) most_width

abbrev pub widths_at : List ℕ → List ℕ
widths_at vs = map width_at vs

abbrev pub bounds : ℕ → ℕ → List ℕ
bounds n most = replicate n most

-- the bounds are returned if there are few enough lists of widths
abbrev pub AreBounds : ℕ → ℕ → Option (List ℕ) → Type 0
AreBounds n most None = 2 ^ most_bits < most ^ n
AreBounds n most (Some found) = found ≡ bounds n most

-- the claims about widths: there are few values, the pattern refines, its old side is undefined
abbrev pub few_at : Family → List ℕ → Bool
few_at f vs = is_few (f (widths_at vs))

abbrev pub kept_at : Family → List ℕ → Bool
kept_at f vs = is_none (first_broken (f (widths_at vs)))

abbrev pub is_vacuous_at : Family → List ℕ → Bool
is_vacuous_at f vs = is_none (first_defined_input (f (widths_at vs)))

-- widths with too many values, or too many lists of widths
abbrev pub TooMany : Family → ℕ → ℕ → Type 0
TooMany f n most = ((ws : List ℕ) × AreWidths n most ws × (most_bits < bits (f ws))) ⊎ (2 ^ most_bits < most ^ n)

-- the pattern refines at all widths and its old side is defined somewhere or nowhere; or it doesn't refine at these
-- values; or it isn't tested
abbrev pub IsVerdict : Family → ℕ → ℕ → Verdict → Type 0
IsVerdict f n most verdict.Holds =
    ((ws : List ℕ) → AreWidths n most ws → AlwaysKeeps (f ws))
    × ((ws : List ℕ) × (values : List ℕ) × AreWidths n most ws × AreBelow (counts (f ws)) values × (is_undefined (f ws) values ≡ false))
IsVerdict f n most verdict.Vacuous = (ws : List ℕ) → AreWidths n most ws → AlwaysKeeps (f ws) × AlwaysUndefined (f ws)
IsVerdict f n most (verdict.Fails widths values) =
    AreWidths n most widths.items × AreBelow (counts (f widths.items)) values.items × (keeps (f widths.items) values.items ≡ false)
IsVerdict f n most verdict.TooMany = TooMany f n most

-- the counterexample is the first: it has the first widths at which the pattern doesn't refine, in lexicographic
-- order, and the first values at these widths
abbrev pub IsFirst : Family → ℕ → ℕ → Verdict → Type 0
IsFirst f n most (verdict.Fails widths values) =
    ((vs : List ℕ) × (first_failing (kept_at f) (bounds n most) ≡ Some vs) × (widths.items ≡ widths_at vs))
    × (first_failing (keeps (f widths.items)) (counts (f widths.items)) ≡ Some values.items)
IsFirst f n most _ = Unit {0}
