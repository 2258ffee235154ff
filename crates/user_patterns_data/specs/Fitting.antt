-- A pattern at given widths of its type variables.
use Rattle.std.specs.Prelude.{ℕ, ◌^◌, ◌%◌, List, ◌++◌, map, get_or, Bool, true, false, ◌&&◌, nat_lt, if◌then◌else◌, Option, Some, None, is_some}
use Rattle.std.specs.List.{list_all}
use Rattle.ir_types.specs.declared.bits.BitsKind.{BitsKind}
use Rattle.ir_types.specs.declared.bits.BitsKind.TheVariants as kind
use Rattle.ir_types.specs.Bits.{type_of, width_of}
use Rattle.ir_types.specs.Readings.{literal_bits}
use Rattle.ir_types.specs.Reasons.{is_width}
use Rattle.dialects_int.specs.declared.operations.Arithmetic.TheVariants as op
use Rattle.user_patterns_check.specs.declared.step.Step.{Step}
use Rattle.user_patterns_check.specs.declared.step.Step.TheVariants as step
use Rattle.user_patterns_check.specs.Contents.{Content}
use Rattle.user_patterns_data.specs.declared.pattern.PatternType.{PatternType}
use Rattle.user_patterns_data.specs.declared.pattern.PatternType.TheVariants as ty
use Rattle.user_patterns_data.specs.declared.pattern.Expression.{Expression}
use Rattle.user_patterns_data.specs.declared.pattern.Expression.TheVariants as form
use Rattle.user_patterns_data.specs.declared.pattern.PatternOp.{PatternOp}
use Rattle.user_patterns_data.specs.declared.pattern.Literal.{Literal}
use Rattle.user_patterns_data.specs.declared.pattern.ExtraConstant.{ExtraConstant}
use Rattle.user_patterns_data.specs.declared.pattern.ExtraConstant.TheVariants as extra
use Rattle.user_patterns_data.specs.declared.pattern.ConstantExpression.{ConstantExpression}
use Rattle.user_patterns_data.specs.declared.pattern.ConstantExpression.TheVariants as number
use Rattle.user_patterns_data.specs.declared.pattern.NewValue.{NewValue}
use Rattle.user_patterns_data.specs.declared.pattern.NewValue.TheVariants as new
use Rattle.user_patterns_data.specs.declared.pattern.TypeConstraint.{TypeConstraint}
use Rattle.user_patterns_data.specs.declared.pattern.TypeConstraint.TheVariants as type_constraints
use Rattle.user_patterns_data.specs.Shapes.{PatternModel}

-- the kind of a type whose variables have these widths; a variable without a width has no values
abbrev pub kind_with : List ℕ → PatternType → BitsKind
kind_with ws (ty.Concrete k) = k
kind_with ws (ty.Variable v) = kind.Int (get_or ws v 0)

-- the kinds of a pattern's types
abbrev pub kinds_with : List ℕ → List PatternType → List BitsKind
kinds_with ws tys = map (kind_with ws) tys

abbrev pub kind_at : List BitsKind → ℕ → BitsKind
kind_at ks t = get_or ks t (kind.Int 0)

-- the bits of a literal at its type, if the literal is in range
abbrev pub bits_with : List BitsKind → Literal → Option ℕ
bits_with ks l = if is_width (width_of (kind_at ks l.ty)) then literal_bits (type_of (kind_at ks l.ty)) l.negative l.magnitude else None

abbrev pub or_zero : Option ℕ → ℕ
or_zero None = 0
or_zero (Some n) = n

abbrev pub written_step : List BitsKind → Literal → Step
written_step ks l = step.Constant (kind_at ks l.ty) (or_zero (bits_with ks l))

-- the identity step: the conjunction of a value with itself
abbrev pub again_step : ℕ → Step
again_step i = step.Binary op.And i i

abbrev pub extra_step : List BitsKind → ExtraConstant → Step
extra_step ks (extra.Literal l) = written_step ks l
extra_step ks (extra.SameAs i) = again_step i

-- the width of a kind, as a number of that kind
abbrev pub width_step : BitsKind → Step
width_step k = step.Constant k (width_of k % 2 ^ width_of k)

abbrev pub number_step : List BitsKind → ConstantExpression → Step
number_step ks (number.Literal l) = written_step ks l
number_step ks (number.Width t) = width_step (kind_at ks t)
number_step ks (number.Binary o i j) = step.Binary o i j
number_step ks (number.Compare p i j) = step.Compare p i j
number_step ks (number.Log2 i) = step.Log2 i
number_step ks (number.Require i) = step.Require i

abbrev pub form_step : BitsKind → Expression → Step
form_step k (form.Binary o i j) = step.Binary o i j
form_step k (form.Compare p i j) = step.Compare p i j
form_step k (form.Select c i j) = step.Select c i j
form_step k (form.IntegerCast c i) = step.IntegerCast c k i
form_step k (form.IndexCast c i) = step.IntegerCast c k i

abbrev pub pattern_op_step : List BitsKind → PatternOp → Step
pattern_op_step ks p = form_step (kind_at ks p.ty) p.form

abbrev pub new_step : List BitsKind → NewValue → Step
new_step ks (new.Operation p) = pattern_op_step ks p
new_step ks (new.Constant i t) = again_step i

-- ---- the condition under which a pattern may be applied

abbrev pub is_integer : BitsKind → Bool
is_integer (kind.Int w) = true
is_integer kind.Index = false

abbrev pub is_requested : List BitsKind → TypeConstraint → Bool
is_requested ks (type_constraints.Narrower s t) = is_integer (kind_at ks s) && (is_integer (kind_at ks t) && nat_lt (width_of (kind_at ks s)) (width_of (kind_at ks t)))
is_requested ks (type_constraints.Integer t) = is_integer (kind_at ks t)

abbrev pub is_literal_of : List BitsKind → Literal → Bool
is_literal_of ks l = is_some (bits_with ks l)

abbrev pub extra_fits : List BitsKind → ExtraConstant → Bool
extra_fits ks (extra.Literal l) = is_literal_of ks l
extra_fits ks (extra.SameAs i) = true

abbrev pub number_fits : List BitsKind → ConstantExpression → Bool
number_fits ks (number.Literal l) = is_literal_of ks l
number_fits ks _ = true

-- the widths satisfy the constraints, and each literal is in the range of its type
abbrev pub fits : List BitsKind → PatternModel → Bool
fits ks p = list_all (is_requested ks) p.type_constraints && (list_all (extra_fits ks) p.extra && list_all (number_fits ks) p.given)

abbrev pub content_with : List BitsKind → PatternModel → Content
content_with ks p =
    record {
      applies = fits ks p;
      value_types = map (kind_at ks) p.values;
      given = map (extra_step ks) p.extra ++ map (number_step ks) p.given;
      old = map (pattern_op_step ks) p.old;
      old_result = p.root;
      new = map (new_step ks) p.new;
      new_result = p.result;
    }

-- the instance of a pattern whose type variables have these widths
abbrev pub content_at : PatternModel → List ℕ → Content
content_at p ws = content_with (kinds_with ws p.value_types) p
