-- Equal types get the same number: that of the first equal type. A pattern then constrains a type by a single number.
use Rattle.std.specs.Prelude.{◌≡◌, ℕ, suc, ◌<◌, Bool, true, false, ◌&&◌, nat_lt, eqb, if◌then◌else◌, List, [], ◌∷◌, length, map, get_or, Option, Some, None}
use Rattle.ir_types.specs.declared.bits.BitsKind.TheVariants as bits
use Rattle.dialects_int.specs.Folds.{same_kind}
use Rattle.user_patterns_data.specs.declared.pattern.PatternType.{PatternType}
use Rattle.user_patterns_data.specs.declared.pattern.PatternType.TheVariants as ty
use Rattle.user_patterns_data.specs.declared.pattern.PatternOp.{PatternOp}
use Rattle.user_patterns_data.specs.declared.pattern.Literal.{Literal}
use Rattle.user_patterns_data.specs.declared.pattern.ExtraConstant.{ExtraConstant}
use Rattle.user_patterns_data.specs.declared.pattern.ExtraConstant.TheVariants as extra
use Rattle.user_patterns_data.specs.declared.pattern.ConstantExpression.{ConstantExpression}
use Rattle.user_patterns_data.specs.declared.pattern.ConstantExpression.TheVariants as number
use Rattle.user_patterns_data.specs.declared.pattern.NewValue.{NewValue}
use Rattle.user_patterns_data.specs.declared.pattern.NewValue.TheVariants as new
use Rattle.user_patterns_data.specs.declared.pattern.TypeConstraint.{TypeConstraint}
use Rattle.user_patterns_data.specs.declared.pattern.TypeConstraint.TheVariants as type_constraints
use Rattle.user_patterns_data.specs.Fitting.{content_at}
use Rattle.user_patterns_data.specs.Shapes.{PatternModel}
use Rattle.user_patterns_data.specs.WellFormed.{is_well_formed}
use Rattle.user_patterns_build.specs.CanBuild.{can_build}

abbrev pub is_same : PatternType → PatternType → Bool
is_same (ty.Concrete a) (ty.Concrete b) = same_kind a b
is_same (ty.Concrete a) (ty.Variable j) = false
is_same (ty.Variable i) (ty.Concrete b) = false
is_same (ty.Variable i) (ty.Variable j) = eqb i j

-- the number of the first type that equals k, or the number of types if there is none
abbrev pub first_same : PatternType → List PatternType → ℕ
first_same k [] = 0
first_same k (j ∷ js) = if is_same k j then 0 else suc (first_same k js)

abbrev pub kind_in : List PatternType → ℕ → PatternType
kind_in ks t = get_or ks t (ty.Concrete bits.Index)

abbrev pub number_in : List PatternType → ℕ → ℕ
number_in ks t = if nat_lt t (length ks) then first_same (kind_in ks t) ks else t

-- the parts of a pattern, with these numbers
abbrev pub literal_in : List PatternType → Literal → Literal
literal_in ks l = record { negative = l.negative; magnitude = l.magnitude; ty = number_in ks l.ty }

abbrev pub extra_in : List PatternType → ExtraConstant → ExtraConstant
extra_in ks (extra.Literal l) = extra.Literal (literal_in ks l)
extra_in ks (extra.SameAs i) = extra.SameAs i

abbrev pub requested_in : List PatternType → TypeConstraint → TypeConstraint
requested_in ks (type_constraints.Narrower s t) = type_constraints.Narrower (number_in ks s) (number_in ks t)
requested_in ks (type_constraints.Integer t) = type_constraints.Integer (number_in ks t)

abbrev pub given_in : List PatternType → ConstantExpression → ConstantExpression
given_in ks (number.Literal l) = number.Literal (literal_in ks l)
given_in ks (number.Width t) = number.Width (number_in ks t)
given_in ks (number.Binary o i j) = number.Binary o i j
given_in ks (number.Compare p i j) = number.Compare p i j
given_in ks (number.Log2 i) = number.Log2 i
given_in ks (number.Require i) = number.Require i

abbrev pub pattern_op_in : List PatternType → PatternOp → PatternOp
pattern_op_in ks p = record { form = p.form; bare = p.bare; ty = number_in ks p.ty }

abbrev pub new_in : List PatternType → NewValue → NewValue
new_in ks (new.Operation p) = new.Operation (pattern_op_in ks p)
new_in ks (new.Constant i t) = new.Constant i (number_in ks t)

-- the pattern with these numbers
abbrev pub united : PatternModel → PatternModel
united p =
    record {
      types = p.types;
      value_types = p.value_types;
      values = map (number_in p.value_types) p.values;
      constants = p.constants;
      extra = map (extra_in p.value_types) p.extra;
      type_constraints = map (requested_in p.value_types) p.type_constraints;
      given = map (given_in p.value_types) p.given;
      old = map (pattern_op_in p.value_types) p.old;
      root = p.root;
      new = map (new_in p.value_types) p.new;
      result = p.result;
    }

abbrev pub if_ready : PatternModel → Option PatternModel
if_ready p = if is_well_formed p && can_build p then Some p else None

-- the pattern with these numbers, if it is well-formed and can be built
unfoldable pub ready : PatternModel → Option PatternModel
ready p = if_ready (united p)

-- ---- laws

-- equal types get the same number
abbrev pub HaveOneNumber : Type 0
HaveOneNumber =
    (ks : List PatternType) (i j : ℕ) → i < length ks → j < length ks → is_same (kind_in ks i) (kind_in ks j) ≡ true → number_in ks i ≡ number_in ks j

-- the number is that of an equal type
abbrev pub NumbersTheSame : Type 0
NumbersTheSame =
    (ks : List PatternType) (i : ℕ) → i < length ks → (number_in ks i < length ks) × (kind_in ks (number_in ks i) ≡ kind_in ks i)

-- the instance at each list of widths is unchanged, and so is the result of a check
abbrev pub StaysAtWidths : Type 0
StaysAtWidths = (p : PatternModel) (ws : List ℕ) → content_at (united p) ws ≡ content_at p ws

-- a ready pattern is well-formed and can be built
abbrev pub IsReady : Type 0
IsReady = (p q : PatternModel) → ready p ≡ Some q → (q ≡ united p) × (is_well_formed q ≡ true) × (can_build q ≡ true)
