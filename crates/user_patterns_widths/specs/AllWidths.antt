-- The patterns that hold at all widths if they hold at the tested ones: both sides are the same polynomial modulo
-- 2^w, or each bit of both sides depends only on the same bit of the values.
use Rattle.std.specs.Prelude.{ℕ, List, [], ◌∷◌, ◌++◌, length, Bool, true, false, ◌&&◌, ◌||◌, ◌==◌, nat_lt, if◌then◌else◌, Option, Some, None, slice_get}
use Rattle.std.specs.List.{list_all}
use Rattle.dialects_int.specs.declared.operations.Arithmetic.{Arithmetic}
use Rattle.dialects_int.specs.declared.operations.Arithmetic.TheVariants as op
use Rattle.user_patterns_check.specs.Outcomes.{given}
use Rattle.user_patterns_data.specs.declared.pattern.PatternType.{PatternType}
use Rattle.user_patterns_data.specs.declared.pattern.PatternType.TheVariants as ty
use Rattle.user_patterns_data.specs.declared.pattern.Expression.{Expression}
use Rattle.user_patterns_data.specs.declared.pattern.Expression.TheVariants as form
use Rattle.user_patterns_data.specs.declared.pattern.PatternOp.{PatternOp}
use Rattle.user_patterns_data.specs.declared.pattern.Literal.{Literal}
use Rattle.user_patterns_data.specs.declared.pattern.ExtraConstant.{ExtraConstant}
use Rattle.user_patterns_data.specs.declared.pattern.ExtraConstant.TheVariants as extra
use Rattle.user_patterns_data.specs.declared.pattern.ConstantExpression.{ConstantExpression}
use Rattle.user_patterns_data.specs.declared.pattern.ConstantExpression.TheVariants as number
use Rattle.user_patterns_data.specs.declared.pattern.NewValue.{NewValue}
use Rattle.user_patterns_data.specs.declared.pattern.NewValue.TheVariants as new
use Rattle.user_patterns_data.specs.declared.pattern.TypeConstraint.{TypeConstraint}
use Rattle.user_patterns_data.specs.Shapes.{PatternModel}
use Rattle.user_patterns_widths.specs.Polynomials.{Polynomial, are_one, if_small, literal_coefficient, negated, number, product, value_at}

-- ---- one type

-- all values of the pattern have type t, which is a type variable
module _ (t : ℕ) where
  abbrev pub literal_has : Literal → Bool
  literal_has l = l.ty == t

  abbrev pub extra_has : ExtraConstant → Bool
  extra_has (extra.Literal l) = literal_has l
  extra_has (extra.SameAs i) = true

  abbrev pub number_has : ConstantExpression → Bool
  number_has (number.Literal l) = literal_has l
  number_has (number.Width u) = u == t
  number_has (number.Binary o i j) = true
  number_has (number.Compare q i j) = true
  number_has (number.Log2 i) = true
  number_has (number.Require i) = true

  abbrev pub pattern_op_has : PatternOp → Bool
  pattern_op_has o = o.ty == t

  abbrev pub new_has : NewValue → Bool
  new_has (new.Operation o) = pattern_op_has o
  new_has (new.Constant i u) = u == t

  abbrev pub has_type : PatternModel → Bool
  has_type p =
      list_all (λ v. v == t) p.values
      && (list_all extra_has p.extra && (list_all number_has p.given && (list_all pattern_op_has p.old && list_all new_has p.new)))

-- the type of the first matched operation
abbrev pub first_type : List PatternOp → Option ℕ
first_type [] = None
first_type (o ∷ os) = Some o.ty

abbrev pub is_variable : PatternModel → Option PatternType → Bool
is_variable p (Some (ty.Variable v)) = nat_lt v p.types
is_variable p _ = false

abbrev pub is_variable_type : PatternModel → ℕ → Bool
is_variable_type p t = is_variable p (slice_get p.value_types t) && has_type t p

abbrev pub is_some_type : PatternModel → Option ℕ → Bool
is_some_type p None = false
is_some_type p (Some t) = is_variable_type p t

abbrev pub has_one_type : PatternModel → Bool
has_one_type p = is_some_type p (first_type p.old)

-- ---- one polynomial

-- the values at places, as polynomials in the values of some places; no entry where a value isn't a polynomial
abbrev pub Formal : Type 0
Formal = List (Option Polynomial)

abbrev pub formal_at : ℕ → Formal → Option Polynomial
formal_at i env = given (slice_get env i) (λ x. x)

-- the results of operations on polynomials
abbrev pub formal_pair : Arithmetic → Polynomial → Polynomial → Option Polynomial
formal_pair op.Add p q = if_small (p ++ q)
formal_pair op.Subtract p q = if_small (p ++ negated q)
formal_pair op.Multiply p q = if_small (product p q)
formal_pair _ p q = None

abbrev pub formal_of : Arithmetic → ℕ → ℕ → Formal → Option Polynomial
formal_of o i j env = given (formal_at i env) (λ p. given (formal_at j env) (λ q. formal_pair o p q))

abbrev pub formal_literal : Literal → Polynomial
formal_literal l = number (literal_coefficient l.negative l.magnitude)

-- a fresh variable for the next place, if both operands have polynomials
abbrev pub formal_next : Option Polynomial → Option Polynomial → Formal → Option Polynomial
formal_next p q env = given p (λ (r : Polynomial). given q (λ (s : Polynomial). Some (value_at (length env))))

abbrev pub formal_extra : ExtraConstant → Formal → Option Polynomial
formal_extra (extra.Literal l) env = Some (formal_literal l)
formal_extra (extra.SameAs i) env = formal_at i env

-- sums, differences and products of numbers are polynomials; the result of a bitwise operation is a fresh variable
abbrev pub is_bitwise : Arithmetic → Bool
is_bitwise op.And = true
is_bitwise op.Or = true
is_bitwise op.ExclusiveOr = true
is_bitwise _ = false

abbrev pub formal_number : ConstantExpression → Formal → Option Polynomial
formal_number (number.Literal l) env = Some (formal_literal l)
formal_number (number.Width t) env = Some (value_at (length env))
formal_number (number.Binary o i j) env =
    if is_bitwise o then formal_next (formal_at i env) (formal_at j env) env else formal_of o i j env
formal_number (number.Compare q i j) env = None
formal_number (number.Log2 i) env = formal_next (formal_at i env) (formal_at i env) env
formal_number (number.Require i) env = None

abbrev pub formal_form : Expression → Formal → Option Polynomial
formal_form (form.Binary o i j) env = formal_of o i j env
formal_form _ env = None

abbrev pub formal_new : NewValue → Formal → Option Polynomial
formal_new (new.Operation o) env = formal_form o.form env
formal_new (new.Constant i t) env = formal_at i env

-- the entries of the places, one list after another
abbrev pub formal_values : List ℕ → Formal → Formal
formal_values [] env = env
formal_values (v ∷ vs) env = formal_values vs (env ++ (Some (value_at (length env)) ∷ []))

abbrev pub formal_extras : List ExtraConstant → Formal → Formal
formal_extras [] env = env
formal_extras (f ∷ fs) env = formal_extras fs (env ++ (formal_extra f env ∷ []))

abbrev pub formal_numbers : List ConstantExpression → Formal → Formal
formal_numbers [] env = env
formal_numbers (n ∷ ns) env = formal_numbers ns (env ++ (formal_number n env ∷ []))

-- each operation of both sides must be a polynomial
abbrev pub formal_olds : List PatternOp → Formal → Option Formal
formal_olds [] env = Some env
formal_olds (o ∷ os) env = given (formal_form o.form env) (λ q. formal_olds os (env ++ (Some q ∷ [])))

abbrev pub formal_news : List NewValue → Formal → Option Formal
formal_news [] env = Some env
formal_news (w ∷ ws) env = given (formal_new w env) (λ q. formal_news ws (env ++ (Some q ∷ [])))

abbrev pub formal : PatternModel → Option Formal
formal p = given (formal_olds p.old (formal_numbers p.given (formal_extras p.extra (formal_values p.values [])))) (formal_news p.new)

abbrev pub results_are_one : Option Polynomial → Option Polynomial → Bool
results_are_one (Some q) (Some r) = are_one q r
results_are_one _ _ = false

abbrev pub sides_are_one : PatternModel → Option Formal → Bool
sides_are_one p None = false
sides_are_one p (Some env) = results_are_one (formal_at p.root env) (formal_at p.result env)

-- both sides are sums, differences and products of values and numbers, and are the same polynomial
abbrev pub is_one_polynomial : PatternModel → Bool
is_one_polynomial p = has_one_type p && sides_are_one p (formal p)

-- ---- bit by bit

-- all bits of 0 are equal, and so are all bits of -1
abbrev pub is_uniform : Literal → Bool
is_uniform l = if l.negative then l.magnitude == 1 else l.magnitude == 0

abbrev pub extra_is_bitwise : ExtraConstant → Bool
extra_is_bitwise (extra.Literal l) = is_uniform l
extra_is_bitwise (extra.SameAs i) = true

abbrev pub number_is_bitwise : ConstantExpression → Bool
number_is_bitwise (number.Literal l) = is_uniform l
number_is_bitwise (number.Binary o i j) = is_bitwise o
number_is_bitwise _ = false

abbrev pub form_is_bitwise : Expression → Bool
form_is_bitwise (form.Binary o i j) = is_bitwise o
form_is_bitwise _ = false

abbrev pub pattern_op_is_bitwise : PatternOp → Bool
pattern_op_is_bitwise o = form_is_bitwise o.form

abbrev pub new_is_bitwise : NewValue → Bool
new_is_bitwise (new.Operation o) = pattern_op_is_bitwise o
new_is_bitwise (new.Constant i t) = true

-- the pattern has no constraint on widths
abbrev pub is_none_requested : List TypeConstraint → Bool
is_none_requested [] = true
is_none_requested (a ∷ more) = false

-- each bit of both results depends only on the same bit of the variables
abbrev pub is_bit_by_bit : PatternModel → Bool
is_bit_by_bit p =
    has_one_type p && (is_none_requested p.type_constraints
    && (list_all extra_is_bitwise p.extra && (list_all number_is_bitwise p.given
    && (list_all pattern_op_is_bitwise p.old && list_all new_is_bitwise p.new))))

-- ---- either form

abbrev pub holds_at_all_widths : PatternModel → Bool
holds_at_all_widths p = is_one_polynomial p || is_bit_by_bit p
