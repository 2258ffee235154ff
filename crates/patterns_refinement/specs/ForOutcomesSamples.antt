-- Sample patterns. One holds at all widths for all outcomes, and matches a `select`. Another holds for all known
-- values, and is refused: it is wrong if a variable is poison. It is the best-known wrong rewrite of `select`.
use Rattle.std.specs.Prelude.{◌≡◌, [], ◌∷◌, false, true}
use Rattle.ir_types.specs.declared.bits.BitsKind.TheVariants as kind
use Rattle.dialects_int.specs.declared.operations.Arithmetic.TheVariants as operator
use Rattle.user_patterns_check.specs.Checks.{AlwaysKeeps}
use Rattle.user_patterns_data.specs.declared.pattern.Expression.TheVariants as form
use Rattle.user_patterns_data.specs.declared.pattern.ExtraConstant.TheVariants as extra
use Rattle.user_patterns_data.specs.declared.pattern.NewValue.TheVariants as new
use Rattle.user_patterns_data.specs.declared.pattern.PatternType.TheVariants as ty
use Rattle.user_patterns_data.specs.Fitting.{content_with}
use Rattle.user_patterns_data.specs.Shapes.{PatternModel}
use Rattle.user_patterns_claims.specs.Outcomes.{HoldsAtAllWidths}
use Rattle.patterns_refinement.specs.Applied.{IsProper}
use Rattle.patterns_refinement.specs.Passing.{is_passing}
use Rattle.patterns_refinement.specs.ForOutcomes.{HoldsForOutcomes, is_sound_form}

-- select(c, a, a) becomes a: the places are 0 and 1 for c and a, 2 for the root
abbrev pub same_choice : PatternModel
same_choice =
    record {
      types = 1;
      value_types = ty.Concrete (kind.Int 1) ∷ ty.Variable 0 ∷ [];
      values = 0 ∷ 1 ∷ [];
      constants = [];
      extra = [];
      type_constraints = [];
      given = [];
      old = record { form = form.Select 0 1 1; bare = false; ty = 1 } ∷ [];
      root = 2;
      new = [];
      result = 1;
    }

-- select(c, a, false) becomes andi(c, a): the places are 0 and 1 for c and a, 2 for the constant, 3 for the root, 4 for
-- the conjunction
abbrev pub choice_as_and : PatternModel
choice_as_and =
    record {
      types = 0;
      value_types = ty.Concrete (kind.Int 1) ∷ [];
      values = 0 ∷ 0 ∷ [];
      constants = [];
      extra = extra.Literal (record { negative = false; magnitude = 0; ty = 0 }) ∷ [];
      type_constraints = [];
      given = [];
      old = record { form = form.Select 0 1 2; bare = false; ty = 0 } ∷ [];
      root = 3;
      new = new.Operation (record { form = form.Binary operator.And 0 1; bare = false; ty = 0 }) ∷ [];
      result = 4;
    }

-- the first pattern satisfies the premises of the laws, which the laws of patterns that pass poison on don't cover
abbrev pub SampleHolds : Type 0
SampleHolds = HoldsForOutcomes same_choice × (is_passing same_choice ≡ false)

-- the second pattern is proper, its form passes the tests, and it refines for all known values; but it doesn't hold: if
-- c is 0 and a is poison, the `select` is 0 and the conjunction is poison
abbrev pub PoisonRefutes : Type 0
PoisonRefutes =
    IsProper choice_as_and × (is_sound_form choice_as_and ≡ true) × AlwaysKeeps (content_with (kind.Int 1 ∷ []) choice_as_and)
    × (HoldsAtAllWidths choice_as_and → ⊥)
