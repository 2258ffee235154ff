-- The values of expressions, if each type has a width.
use Rattle.std.specs.Prelude.{ℕ, suc, ◌/◌, ◌%◌, ◌^◌, ◌==◌, List, [], ◌∷◌, ◌++◌, true, false, nat_lt, get_or, bit_and, bit_or, bit_xor}
use Rattle.ir_types.specs.Readings.{literal_number, wrapped}
use Rattle.dialects_int.specs.declared.operations.Predicate.TheVariants as predicate
use Rattle.dialects_int.specs.Arithmetic.{choice_of, comparison_of, difference_of, sign_extended, sum_of, truth, zero_extended}
use Rattle.width_claims.specs.declared.form.Form.{Form}
use Rattle.width_claims.specs.declared.form.Form.TheVariants as form
use Rattle.width_claims.specs.declared.form.Expr.{Expr}

abbrev pub at : List ℕ → ℕ → ℕ
at xs i = get_or xs i 0

-- the value of a form, given its width, the widths of all types, the variables, and the values before
abbrev pub pattern_op_value : List ℕ → List ℕ → ℕ → Form → List ℕ → ℕ
pattern_op_value ws vs w (form.Value i) env = at vs i % 2 ^ w
pattern_op_value ws vs w (form.Literal n) env = wrapped w (literal_number false n)
pattern_op_value ws vs w (form.Negative n) env = wrapped w (literal_number true n)
pattern_op_value ws vs w (form.Add i j) env = sum_of w (at env i) (at env j)
pattern_op_value ws vs w (form.Subtract i j) env = difference_of w (at env i) (at env j)
pattern_op_value ws vs w (form.And i j) env = bit_and (at env i) (at env j)
pattern_op_value ws vs w (form.Or i j) env = bit_or (at env i) (at env j)
pattern_op_value ws vs w (form.ExclusiveOr i j) env = bit_xor (at env i) (at env j)
pattern_op_value ws vs w (form.Same i j) env = truth (at env i == at env j)
pattern_op_value ws vs w (form.Less i j) env = truth (nat_lt (at env i) (at env j))
pattern_op_value ws vs w (form.LessSigned u i j) env = truth (comparison_of (at ws u) predicate.SignedLess (at env i) (at env j))
pattern_op_value ws vs w (form.Select c i j) env = choice_of (at env c) (at env i) (at env j)
pattern_op_value ws vs w (form.Signs u i) env = sign_extended (at ws u) w (at env i)
pattern_op_value ws vs w (form.Resize u i) env = sign_extended (at ws u) w (at env i)
pattern_op_value ws vs w (form.Zeros i) env = zero_extended w (at env i)
pattern_op_value ws vs w (form.Cut i) env = at env i % 2 ^ w
pattern_op_value ws vs w (form.Quotient i n) env = at env i / suc n

abbrev pub pattern_op_values : List ℕ → List ℕ → List Expr → List ℕ → List ℕ
pattern_op_values ws vs [] env = env
pattern_op_values ws vs (p ∷ ps) env = pattern_op_values ws vs ps (env ++ (pattern_op_value ws vs (at ws p.ty) p.form env ∷ []))
