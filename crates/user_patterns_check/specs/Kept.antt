-- The consequences of a refinement at values of the variables.
use Rattle.std.specs.Prelude.{◌≡◌, ℕ, List, [], true, Some, slice_get}
use Rattle.dialects_int.specs.Folds.{Known}
use Rattle.user_patterns_check.specs.Contents.{Content}
use Rattle.user_patterns_check.specs.Outcomes.{Outcome, run}
use Rattle.user_patterns_check.specs.Checks.{keeps, old_steps}

-- if the old steps are defined, the new steps are defined
abbrev pub StaysDefined : Type 0
StaysDefined =
    (s : Content) (values : List ℕ) (env : List Outcome) (old : Outcome) → keeps s values ≡ true
    → old_steps s values [] ≡ Some env → slice_get env s.old_result ≡ Some old
    → (new : List Outcome) × (x : Outcome) × (run s.new env ≡ Some new) × (slice_get new s.new_result ≡ Some x)

-- if the old result is a number, the new result is the same number
abbrev pub StaysTheValue : Type 0
StaysTheValue =
    (s : Content) (values : List ℕ) (env new : List Outcome) (v : Known) → keeps s values ≡ true
    → old_steps s values [] ≡ Some env → slice_get env s.old_result ≡ Some (Some v)
    → run s.new env ≡ Some new → slice_get new s.new_result ≡ Some (Some v)
