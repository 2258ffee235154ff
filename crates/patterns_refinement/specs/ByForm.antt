-- Whether the new operations of a pattern take their operands at all widths at which the pattern may be applied,
-- decided by the pattern's form: its concrete kinds and its type variables, without widths.
use Rattle.std.specs.Prelude.{◌≡◌, ◌≤◌, ℕ, List, [], ◌∷◌, ◌++◌, map, get_or, nat_lt, Bool, true, false, ◌&&◌, ◌||◌}
use Rattle.std.specs.List.{list_any}
use Rattle.ir_types.specs.declared.bits.BitsKind.TheVariants as kind
use Rattle.ir_types.specs.Bits.{width_of}
use Rattle.ir_types.specs.Limits.{most_width}
use Rattle.ir_types.specs.Reasons.{is_width}
use Rattle.dialects_int.specs.declared.operations.Cast.{Cast}
use Rattle.dialects_int.specs.declared.operations.Cast.TheVariants as cast
use Rattle.user_patterns_check.specs.Families.{AreWidths}
use Rattle.user_patterns_data.specs.declared.pattern.TypeConstraint.{TypeConstraint}
use Rattle.user_patterns_data.specs.declared.pattern.TypeConstraint.TheVariants as requested
use Rattle.user_patterns_data.specs.declared.pattern.Expression.{Expression}
use Rattle.user_patterns_data.specs.declared.pattern.Expression.TheVariants as form
use Rattle.user_patterns_data.specs.declared.pattern.ExtraConstant.{ExtraConstant}
use Rattle.user_patterns_data.specs.declared.pattern.ExtraConstant.TheVariants as extra
use Rattle.user_patterns_data.specs.declared.pattern.PatternType.{PatternType}
use Rattle.user_patterns_data.specs.declared.pattern.PatternType.TheVariants as sort
use Rattle.user_patterns_data.specs.declared.pattern.ConstantExpression.{ConstantExpression}
use Rattle.user_patterns_data.specs.declared.pattern.ConstantExpression.TheVariants as number
use Rattle.user_patterns_data.specs.declared.pattern.NewValue.{NewValue}
use Rattle.user_patterns_data.specs.declared.pattern.NewValue.TheVariants as new
use Rattle.user_patterns_data.specs.declared.pattern.PatternOp.{PatternOp}
use Rattle.user_patterns_data.specs.Fitting.{fits, kinds_with}
use Rattle.user_patterns_data.specs.Shapes.{PatternModel}
use Rattle.user_patterns_build.specs.CanBuild.{new_type}
use Rattle.user_patterns_build.specs.Unified.{is_same}
use Rattle.patterns_refinement.specs.Passing.{is_kinded_at}

-- the type with a number, or at a place
abbrev pub sort_at : List PatternType → ℕ → PatternType
sort_at ss t = get_or ss t (sort.Concrete (kind.Int 0))

abbrev pub sorts_after : {X : Type 0} → (List PatternType → X → PatternType) → List X → List PatternType → List PatternType
sorts_after f [] es = es
sorts_after f (x ∷ xs) es = sorts_after f xs (es ++ (f es x ∷ []))

-- ---- the types of places
abbrev pub extra_sort : List PatternType → List PatternType → ExtraConstant → PatternType
extra_sort ss es (extra.Literal l) = sort_at ss l.ty
extra_sort ss es (extra.SameAs i) = sort_at es i

abbrev pub number_sort : List PatternType → List PatternType → ConstantExpression → PatternType
number_sort ss es (number.Literal l) = sort_at ss l.ty
number_sort ss es (number.Width t) = sort_at ss t
number_sort ss es (number.Binary o i j) = sort_at es i
number_sort ss es (number.Compare q i j) = sort.Concrete (kind.Int 1)
number_sort ss es (number.Log2 i) = sort_at es i
number_sort ss es (number.Require i) = sort_at es i

abbrev pub pattern_op_sort : List PatternType → List PatternType → PatternOp → PatternType
pattern_op_sort ss es o = sort_at ss o.ty

abbrev pub sorts_matched : PatternModel → List PatternType
sorts_matched p =
    sorts_after (pattern_op_sort p.value_types) p.old
    (sorts_after (number_sort p.value_types) p.given
    (sorts_after (extra_sort p.value_types) p.extra (map (sort_at p.value_types) p.values)))

module _ (p : PatternModel) where
  -- a type has a valid width, for all type variables
  abbrev pub is_wide : PatternType → Bool
  is_wide (sort.Concrete k) = is_width (width_of k)
  is_wide (sort.Variable v) = nat_lt v p.types

  -- the pattern has the constraint that the first type is narrower than the second
  abbrev pub asks_narrower : PatternType → PatternType → TypeConstraint → Bool
  asks_narrower a b (requested.Narrower s t) = is_same (sort_at p.value_types s) a && is_same (sort_at p.value_types t) b
  asks_narrower a b (requested.Integer t) = false

  -- one concrete type has fewer bits than another
  abbrev pub is_written_less : PatternType → PatternType → Bool
  is_written_less (sort.Concrete j) (sort.Concrete k) = nat_lt (width_of j) (width_of k)
  is_written_less a b = false

  abbrev pub is_less : PatternType → PatternType → Bool
  is_less a b = is_written_less a b || list_any (asks_narrower a b) p.type_constraints

  abbrev pub casts : Cast → PatternType → PatternType → Bool
  casts cast.Truncate a b = is_less b a
  casts cast.ExtendSigned a b = true
  casts cast.ExtendUnsigned a b = true

  -- an operation takes its operands, by the types of places
  abbrev pub form_taken : List PatternType → PatternType → Expression → Bool
  form_taken es s (form.Binary o i j) = is_same (sort_at es i) s && is_same (sort_at es j) s
  form_taken es s (form.Compare q i j) = is_same (sort_at es j) (sort_at es i) && is_same (sort.Concrete (kind.Int 1)) s
  form_taken es s (form.Select c i j) = is_same (sort_at es c) (sort.Concrete (kind.Int 1)) && (is_same (sort_at es i) s && is_same (sort_at es j) s)
  form_taken es s (form.IntegerCast c i) = casts c (sort_at es i) s
  form_taken es s (form.IndexCast c i) = casts c (sort_at es i) s

  abbrev pub new_taken : List PatternType → NewValue → Bool
  new_taken es (new.Operation o) = is_wide (sort_at p.value_types o.ty) && form_taken es (sort_at p.value_types o.ty) o.form
  new_taken es (new.Constant i t) = is_same (sort_at es i) (sort_at p.value_types t)

  abbrev pub news_taken : List PatternType → List NewValue → Bool
  news_taken es [] = true
  news_taken es (w ∷ ws) = new_taken es w && news_taken (es ++ (sort_at p.value_types (new_type w) ∷ [])) ws

  abbrev pub is_kinded_by_form : Bool
  is_kinded_by_form = news_taken (sorts_matched p) p.new

-- then the new operations take their operands at all widths at which the pattern may be applied
abbrev pub KindedByForm : Type 0
KindedByForm =
    (p : PatternModel) → is_kinded_by_form p ≡ true → (most : ℕ) → most ≤ most_width → (ws : List ℕ) → AreWidths p.types most ws
    → fits (kinds_with ws p.value_types) p ≡ true → is_kinded_at (kinds_with ws p.value_types) p ≡ true
