-- The well-formedness of a pattern: each place refers to an earlier value, and each type number is one of the
-- pattern's types.
use Rattle.std.specs.Prelude.{ℕ, ◌+◌, ◌-◌, List, [], ◌∷◌, length, Bool, true, ◌&&◌, ◌||◌, nat_lt, nat_le, eqb}
use Rattle.std.specs.List.{list_all, list_any}
use Rattle.user_patterns_data.specs.declared.pattern.PatternType.{PatternType}
use Rattle.user_patterns_data.specs.declared.pattern.PatternType.TheVariants as ty
use Rattle.user_patterns_data.specs.declared.pattern.Expression.{Expression}
use Rattle.user_patterns_data.specs.declared.pattern.Expression.TheVariants as form
use Rattle.user_patterns_data.specs.declared.pattern.PatternOp.{PatternOp}
use Rattle.user_patterns_data.specs.declared.pattern.ExtraConstant.{ExtraConstant}
use Rattle.user_patterns_data.specs.declared.pattern.ExtraConstant.TheVariants as extra
use Rattle.user_patterns_data.specs.declared.pattern.ConstantExpression.{ConstantExpression}
use Rattle.user_patterns_data.specs.declared.pattern.ConstantExpression.TheVariants as number
use Rattle.user_patterns_data.specs.declared.pattern.NewValue.{NewValue}
use Rattle.user_patterns_data.specs.declared.pattern.NewValue.TheVariants as new
use Rattle.user_patterns_data.specs.declared.pattern.TypeConstraint.{TypeConstraint}
use Rattle.user_patterns_data.specs.declared.pattern.TypeConstraint.TheVariants as type_constraints
use Rattle.user_patterns_data.specs.Shapes.{PatternModel}

-- the places of the matched operations, and of the new values, begin here
abbrev pub old_begins : PatternModel → ℕ
old_begins p = length p.values + (length p.extra + length p.given)

abbrev pub new_begins : PatternModel → ℕ
new_begins p = old_begins p + length p.old

abbrev pub new_ends : PatternModel → ℕ
new_ends p = new_begins p + length p.new

-- at least `low` and below `end`
abbrev pub is_within : ℕ → ℕ → ℕ → Bool
is_within low end i = nat_le low i && nat_lt i end

module _ (p : PatternModel) where
  abbrev pub is_type : ℕ → Bool
  is_type t = nat_lt t (length p.value_types)

  abbrev pub type_is_valid : PatternType → Bool
  type_is_valid (ty.Concrete k) = true
  type_is_valid (ty.Variable v) = nat_lt v p.types

  abbrev pub is_variable : ℕ → Bool
  is_variable i = nat_lt i (length p.values)

  abbrev pub is_constant : ℕ → Bool
  is_constant i = list_any (eqb i) p.constants

  abbrev pub extra_is_valid : ExtraConstant → Bool
  extra_is_valid (extra.Literal l) = is_type l.ty
  extra_is_valid (extra.SameAs i) = is_constant i

  abbrev pub constraint_is_valid : TypeConstraint → Bool
  constraint_is_valid (type_constraints.Narrower s t) = is_type s && is_type t
  constraint_is_valid (type_constraints.Integer t) = is_type t

  -- a computed number refers to constants and to earlier computed numbers
  abbrev pub is_number : ℕ → ℕ → Bool
  is_number end i = is_constant i || is_within (length p.values) end i

  abbrev pub number_is_valid : ℕ → ConstantExpression → Bool
  number_is_valid k (number.Literal l) = is_type l.ty
  number_is_valid k (number.Width t) = is_type t
  number_is_valid k (number.Binary o i j) = is_number k i && is_number k j
  number_is_valid k (number.Compare q i j) = is_number k i && is_number k j
  number_is_valid k (number.Log2 i) = is_number k i
  number_is_valid k (number.Require i) = is_number k i

  -- computed numbers, with the place after the last of them
  abbrev pub numbers_are_valid : ℕ → List ConstantExpression → Bool
  numbers_are_valid end [] = true
  numbers_are_valid end (n ∷ ns) = number_is_valid (end - length (n ∷ ns)) n && numbers_are_valid end ns

  -- operands of a matched operation are variables, extra constants and earlier matched operations
  abbrev pub is_old : ℕ → ℕ → Bool
  is_old end i = nat_lt i (length p.values + length p.extra) || is_within (old_begins p) end i

  -- operands of a new operation are variables and earlier new values
  abbrev pub is_new : ℕ → ℕ → Bool
  is_new end i = is_variable i || is_within (new_begins p) end i

  abbrev pub form_is_valid : (ℕ → Bool) → Expression → Bool
  form_is_valid f (form.Binary o i j) = f i && f j
  form_is_valid f (form.Compare q i j) = f i && f j
  form_is_valid f (form.Select c i j) = f c && (f i && f j)
  form_is_valid f (form.IntegerCast c i) = f i
  form_is_valid f (form.IndexCast c i) = f i

  abbrev pub old_is_valid : ℕ → PatternOp → Bool
  old_is_valid k o = is_type o.ty && form_is_valid (is_old k) o.form

  abbrev pub olds_are_valid : ℕ → List PatternOp → Bool
  olds_are_valid end [] = true
  olds_are_valid end (o ∷ os) = old_is_valid (end - length (o ∷ os)) o && olds_are_valid end os

  abbrev pub new_is_valid : ℕ → NewValue → Bool
  new_is_valid k (new.Operation o) = is_type o.ty && form_is_valid (is_new k) o.form
  new_is_valid k (new.Constant i t) = is_type t && is_number (old_begins p) i

  abbrev pub news_are_valid : ℕ → List NewValue → Bool
  news_are_valid end [] = true
  news_are_valid end (n ∷ ns) = new_is_valid (end - length (n ∷ ns)) n && news_are_valid end ns

  -- the types, variables, constants and constraints are well-formed
  abbrev pub preceding_is_valid : Bool
  preceding_is_valid =
      list_all type_is_valid p.value_types
      && (list_all is_type p.values && (list_all is_variable p.constants && (list_all extra_is_valid p.extra
      && (list_all constraint_is_valid p.type_constraints && numbers_are_valid (old_begins p) p.given))))

  -- the operations of both sides are well-formed
  abbrev pub sides_are_valid : Bool
  sides_are_valid =
      eqb (p.root + 1) (new_begins p)
      && (olds_are_valid (new_begins p) p.old && (news_are_valid (new_ends p) p.new && is_new (new_ends p) p.result))

  abbrev pub is_well_formed : Bool
  is_well_formed = preceding_is_valid && sides_are_valid
