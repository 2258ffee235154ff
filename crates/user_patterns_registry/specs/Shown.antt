-- The values and the widths that a check reports.
use Rattle.std.specs.Prelude.{◌≡◌, ℕ, ◌==◌, if◌then◌else◌, List, [], ◌∷◌, map, max, slice_get, Option, Some, None, option_map}
use Rattle.ir_types.specs.declared.bits.Bits.{Bits}
use Rattle.ir_types.specs.Bits.{width_of}
use Rattle.dialects_int.specs.Folds.{known_of}
use Rattle.user_patterns_check.specs.Contents.{Content}
use Rattle.user_patterns_check.specs.Checks.{bound, old_steps, shown}
use Rattle.user_patterns_check.specs.Outcomes.{Outcome, given, run}
use Rattle.user_patterns_data.specs.declared.pattern.PatternType.{PatternType}
use Rattle.user_patterns_data.specs.declared.pattern.PatternType.TheVariants as ty
use Rattle.user_patterns_data.specs.Shapes.{PatternModel}
use Rattle.user_patterns_registry.specs.declared.check_result.Counterexample.{Counterexample}

-- ---- computed values

abbrev pub or_nothing : {X : Type 0} → Option (List X) → List X
or_nothing None = []
or_nothing (Some xs) = xs

-- the values, each with its kind
abbrev pub values_shown : Content → List ℕ → List Outcome
values_shown s values = or_nothing (bound s.value_types values [])

-- the results of the old and the new side, or none if a step is undefined
abbrev pub old_shown : Content → List ℕ → Option Outcome
old_shown s values = given (old_steps s values []) (λ env. slice_get env s.old_result)

abbrev pub new_shown : Content → List ℕ → Option Outcome
new_shown s values = given (old_steps s values []) (λ env. shown s.new_result (run s.new env))

abbrev pub outcomes : List (Option Bits) → List Outcome
outcomes vs = map known_of vs

-- the reported values of a counterexample are computed from its values at its widths
pub record IsShown (s : Content) (c : Counterexample) : Type 0 where
  pub values : outcomes c.shown.items ≡ values_shown s c.values.items
  pub old : option_map known_of c.old ≡ old_shown s c.values.items
  pub new : option_map known_of c.new ≡ new_shown s c.values.items

-- ---- widths

abbrev pub greatest : List ℕ → ℕ
greatest [] = 0
greatest (w ∷ ws) = max w (greatest ws)

-- the width of the widest type of a pattern without type variables
abbrev pub type_width : PatternType → ℕ
type_width (ty.Concrete k) = width_of k
type_width (ty.Variable v) = 0

unfoldable pub widest_type : List PatternType → ℕ
widest_type ks = greatest (map type_width ks)

-- the width of a check without counterexample: the greatest width of type variables, or the width of the widest type
-- if there is no type variable
abbrev pub report_width : PatternModel → ℕ → ℕ
report_width p most = if p.types == 0 then widest_type p.value_types else most

-- the width of a counterexample: the greatest of its widths, or the width of the widest type
abbrev pub counterexample_width : PatternModel → List ℕ → ℕ
counterexample_width p [] = widest_type p.value_types
counterexample_width p (w ∷ ws) = greatest (w ∷ ws)
