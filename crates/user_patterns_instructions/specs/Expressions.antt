-- The instructions of a pattern as expressions of claims. A value has an expression and a flag for its poison.
use Rattle.std.specs.Prelude.{ℕ, zero, suc, ◌+◌, ◌-◌, ◌/◌, ◌%◌, ◌^◌, ◌==◌, List, [], ◌∷◌, ◌++◌, length, Bool, true, false, ◌&&◌, ◌||◌, not, nat_le, nat_lt, if◌then◌else◌, Option, Some, None, slice_get}
use Rattle.std.specs.List.{list_any}
use Rattle.ir_types.specs.declared.bits.BitsKind.{BitsKind}
use Rattle.ir_types.specs.declared.bits.BitsKind.TheVariants as kind
use Rattle.ir_types.specs.Bits.{width_of}
use Rattle.dialects_int.specs.Folds.{same_kind}
use Rattle.dialects_int.specs.declared.operations.Arithmetic.{Arithmetic}
use Rattle.dialects_int.specs.declared.operations.Arithmetic.TheVariants as op
use Rattle.dialects_int.specs.declared.operations.Predicate.{Predicate}
use Rattle.dialects_int.specs.declared.operations.Predicate.TheVariants as asks
use Rattle.dialects_int.specs.declared.operations.Cast.{Cast}
use Rattle.dialects_int.specs.declared.operations.Cast.TheVariants as cast
use Rattle.user_patterns_check.specs.Outcomes.{given}
use Rattle.user_patterns_data.specs.declared.pattern.PatternType.{PatternType}
use Rattle.user_patterns_data.specs.declared.pattern.PatternType.TheVariants as ty
use Rattle.user_patterns_data.specs.declared.pattern.Literal.{Literal}
use Rattle.user_patterns_data.specs.declared.pattern.TypeConstraint.{TypeConstraint}
use Rattle.user_patterns_data.specs.declared.pattern.TypeConstraint.TheVariants as type_constraints
use Rattle.width_claims.specs.declared.form.Form.{Form}
use Rattle.width_claims.specs.declared.form.Form.TheVariants as form
use Rattle.width_claims.specs.declared.form.Expr.{Expr}
use Rattle.width_claims.specs.declared.width.Narrower.{Narrower}
use Rattle.width_claims.specs.declared.width.Width.{Width}
use Rattle.width_claims.specs.declared.width.Width.TheVariants as width
use Rattle.user_patterns_instructions.specs.declared.operand.Poison.{Poison}
use Rattle.user_patterns_instructions.specs.declared.operand.Poison.TheVariants as poison
use Rattle.user_patterns_instructions.specs.declared.operand.Operand.{Operand}

-- ---- types: that of the number 0 is i1, and a pattern's type t has the number t + 1, unless it is written i1

abbrev pub is_one_bit : BitsKind → Bool
is_one_bit (kind.Int w) = w == 1
is_one_bit kind.Index = false

abbrev pub is_truth : PatternType → Bool
is_truth (ty.Concrete k) = is_one_bit k
is_truth (ty.Variable v) = false

abbrev pub type_number : ℕ → PatternType → ℕ
type_number t k = if is_truth k then 0 else t + 1

-- a type that equals an earlier one has no number
abbrev pub is_same : PatternType → PatternType → Bool
is_same (ty.Concrete a) (ty.Concrete b) = same_kind a b
is_same (ty.Concrete a) (ty.Variable w) = false
is_same (ty.Variable v) (ty.Concrete b) = false
is_same (ty.Variable v) (ty.Variable w) = v == w

abbrev pub is_repeated : ℕ → List PatternType → PatternType → Bool
is_repeated i [] k = false
is_repeated zero (j ∷ ks) k = false
is_repeated (suc i) (j ∷ ks) k = is_same k j || is_repeated i ks k

abbrev pub type_if : Bool → ℕ → PatternType → Option ℕ
type_if repeated t k = if repeated then None else Some (type_number t k)

abbrev pub type_at : List PatternType → ℕ → Option ℕ
type_at ks t = given (slice_get ks t) (λ k. type_if (is_repeated t ks k) t k)

-- the widths of a claim's types; a type without a number is i1 there
abbrev pub width_at : PatternType → Width
width_at (ty.Concrete k) = width.Fixed (width_of k)
width_at (ty.Variable v) = width.Free

abbrev pub width_if : Bool → PatternType → Width
width_if repeated k = if repeated then width.Fixed 1 else width_at k

abbrev pub types_from : List PatternType → ℕ → List PatternType → List Width
types_from all i [] = []
types_from all i (k ∷ ks) = width_if (is_repeated i all k) k ∷ types_from all (i + 1) ks

abbrev pub claim_types : List PatternType → List Width
claim_types ks = width.Fixed 1 ∷ types_from ks 0 ks

abbrev pub with_narrower : Option ℕ → Option ℕ → List Narrower → List Narrower
with_narrower (Some s) (Some t) ns = record { narrow = s; wide = t } ∷ ns
with_narrower _ _ ns = ns

abbrev pub narrower_types : List PatternType → List TypeConstraint → List Narrower
narrower_types ks [] = []
narrower_types ks (type_constraints.Narrower s t ∷ more) = with_narrower (type_at ks s) (type_at ks t) (narrower_types ks more)
narrower_types ks (type_constraints.Integer t ∷ more) = narrower_types ks more

-- whether a constraint says that one type is narrower than another
abbrev pub is_narrower : List Narrower → ℕ → ℕ → Bool
is_narrower ns s t = list_any (λ (n : Narrower). (n.narrow == s) && (n.wide == t)) ns

-- ---- expressions

-- the expressions, and the place of the last one
abbrev pub Made : Type 0
Made = List Expr × ℕ

abbrev pub push_expr : List Expr → ℕ → Form → Made
push_expr ps t f = (ps ++ (record { form = f; ty = t } ∷ []), length ps)

-- the negation of a truth; expressions 0 and 1 are the numbers 0 and 1
abbrev pub negated : Made → Made
negated m = push_expr m.0 0 (form.ExclusiveOr m.1 1)

-- the one of two values that a truth selects
abbrev pub chosen : Made → ℕ → ℕ → ℕ → Made
chosen m t i j = push_expr m.0 t (form.Select m.1 i j)

abbrev pub compare_value : Predicate → ℕ → ℕ → ℕ → List Expr → Made
compare_value asks.Equal t i j ps = push_expr ps 0 (form.Same i j)
compare_value asks.NotEqual t i j ps = negated (push_expr ps 0 (form.Same i j))
compare_value asks.SignedLess t i j ps = push_expr ps 0 (form.LessSigned t i j)
compare_value asks.SignedLessOrEqual t i j ps = negated (push_expr ps 0 (form.LessSigned t j i))
compare_value asks.SignedGreater t i j ps = push_expr ps 0 (form.LessSigned t j i)
compare_value asks.SignedGreaterOrEqual t i j ps = negated (push_expr ps 0 (form.LessSigned t i j))
compare_value asks.UnsignedLess t i j ps = push_expr ps 0 (form.Less i j)
compare_value asks.UnsignedLessOrEqual t i j ps = negated (push_expr ps 0 (form.Less j i))
compare_value asks.UnsignedGreater t i j ps = push_expr ps 0 (form.Less j i)
compare_value asks.UnsignedGreaterOrEqual t i j ps = negated (push_expr ps 0 (form.Less i j))

-- an operation on two values of a type
abbrev pub pair_value : Arithmetic → ℕ → ℕ → ℕ → List Expr → Option Made
pair_value op.Add t i j ps = Some (push_expr ps t (form.Add i j))
pair_value op.Subtract t i j ps = Some (push_expr ps t (form.Subtract i j))
pair_value op.And t i j ps = Some (push_expr ps t (form.And i j))
pair_value op.Or t i j ps = Some (push_expr ps t (form.Or i j))
pair_value op.ExclusiveOr t i j ps = Some (push_expr ps t (form.ExclusiveOr i j))
pair_value op.MaximumSigned t i j ps = Some (chosen (push_expr ps 0 (form.LessSigned t i j)) t j i)
pair_value op.MaximumUnsigned t i j ps = Some (chosen (push_expr ps 0 (form.Less i j)) t j i)
pair_value op.MinimumSigned t i j ps = Some (chosen (push_expr ps 0 (form.LessSigned t j i)) t j i)
pair_value op.MinimumUnsigned t i j ps = Some (chosen (push_expr ps 0 (form.Less j i)) t j i)
pair_value _ t i j ps = None

-- a cast of a value of type u to type t; a truncation must be to a narrower type
abbrev pub cast_value : List Narrower → Cast → ℕ → ℕ → ℕ → List Expr → Option Made
cast_value ns cast.ExtendSigned t u i ps = Some (push_expr ps t (form.Resize u i))
cast_value ns cast.ExtendUnsigned t u i ps = Some (push_expr ps t (form.Cut i))
cast_value ns cast.Truncate t u i ps = if is_narrower ns t u then Some (push_expr ps t (form.Cut i)) else None

abbrev pub literal_form : Literal → Form
literal_form l = if l.negative then form.Negative l.magnitude else form.Literal l.magnitude

-- the product of the value at a place and n by doubling and adding; n is at most the first number
abbrev pub twice : ℕ → Made → Made
twice t m = push_expr m.0 t (form.Add m.1 m.1)

abbrev pub one_more : Bool → ℕ → ℕ → Made → Made
one_more more t i m = if more then push_expr m.0 t (form.Add m.1 i) else m

abbrev pub times : ℕ → ℕ → ℕ → ℕ → List Expr → Made
times zero n t i ps = push_expr ps t (form.Literal 0)
times (suc k) n t i ps = if n == 0 then push_expr ps t (form.Literal 0) else if n == 1 then push_expr ps t (form.Cut i) else one_more (n % 2 == 1) t i (twice t (times k (n / 2) t i ps))

-- the negation of a value
abbrev pub negative_of : ℕ → ℕ → Made → Made
negative_of t i m = push_expr m.0 t (form.Subtract m.1 i)

abbrev pub opposite : ℕ → Made → Made
opposite t m = negative_of t m.1 (push_expr m.0 t (form.Literal 0))

abbrev pub multiple : Literal → ℕ → ℕ → List Expr → Made
multiple l t i ps = if l.negative then opposite t (times l.magnitude l.magnitude t i ps) else times l.magnitude l.magnitude t i ps

abbrev pub is_number : ℕ → Literal → Bool
is_number n l = not l.negative && (l.magnitude == n)

-- the quotient of the value at a place by n, if n is from 1 to 2^32
abbrev pub quotient : ℕ → ℕ → ℕ → List Expr → Option Made
quotient n t i ps =
    if n == 1 then Some (ps, i) else if n == 0 then None else if nat_le n 4294967296 then Some (push_expr ps t (form.Quotient i (n - 1))) else None

abbrev pub quotient_by : Literal → ℕ → ℕ → List Expr → Option Made
quotient_by l t i ps = if l.negative then None else quotient l.magnitude t i ps

-- the value without a product
abbrev pub without : ℕ → ℕ → Made → Made
without t i m = push_expr m.0 t (form.Subtract i m.1)

-- the remainder: the value without the product of the quotient and the divisor
abbrev pub remainder : ℕ → ℕ → ℕ → Made → Made
remainder n t i m = without t i (times n n t m.1 m.0)

abbrev pub remainder_by : Literal → ℕ → ℕ → List Expr → Option Made
remainder_by l t i ps =
    if is_number 1 l then Some (push_expr ps t (form.Literal 0)) else given (quotient_by l t i ps) (λ m. Some (remainder l.magnitude t i m))

-- an operation on a value of a type and a literal
abbrev pub with_literal : Arithmetic → ℕ → ℕ → Literal → List Expr → Option Made
with_literal op.Multiply t i l ps = Some (multiple l t i ps)
with_literal op.ShiftLeft t i l ps = if is_number 0 l then Some (push_expr ps t (form.Cut i)) else None
with_literal op.ShiftRightUnsigned t i l ps = if is_number 0 l then Some (ps, i) else None
with_literal op.ShiftRightSigned t i l ps = if is_number 0 l then Some (push_expr ps t (form.Resize t i)) else None
with_literal op.DivideUnsigned t i l ps = quotient_by l t i ps
with_literal op.RemainderUnsigned t i l ps = remainder_by l t i ps
with_literal op.RemainderSigned t i l ps = if is_number 1 l then Some (push_expr ps t (form.Literal 0)) else None
with_literal _ t i l ps = None

-- a literal times a value
abbrev pub literal_times : Arithmetic → ℕ → ℕ → Literal → List Expr → Option Made
literal_times op.Multiply t i l ps = Some (multiple l t i ps)
literal_times _ t i l ps = None

-- ---- poison

-- the expressions, and a flag
abbrev pub Flagged : Type 0
Flagged = List Expr × Poison

abbrev pub flag_by : Made → Flagged
flag_by m = (m.0, poison.When m.1)

-- one of two values is poison
abbrev pub either : Poison → Poison → List Expr → Flagged
either poison.Never g ps = (ps, g)
either poison.Always g ps = (ps, poison.Always)
either (poison.When i) poison.Never ps = (ps, poison.When i)
either (poison.When i) poison.Always ps = (ps, poison.Always)
either (poison.When i) (poison.When j) ps = flag_by (push_expr ps 0 (form.Or i j))

-- the place of a flag's expression
abbrev pub flag_place : Poison → ℕ
flag_place poison.Never = 0
flag_place poison.Always = 1
flag_place (poison.When i) = i

-- the selected one of two values is poison
abbrev pub chosen_poison : ℕ → Poison → Poison → List Expr → Flagged
chosen_poison c poison.Never poison.Never ps = (ps, poison.Never)
chosen_poison c poison.Always poison.Always ps = (ps, poison.Always)
chosen_poison c f g ps = flag_by (push_expr ps 0 (form.Select c (flag_place f) (flag_place g)))

-- ---- operands

abbrev pub operand : ℕ → Poison → ℕ → Operand
operand i f t = record { value = i; poison = f; ty = t; written = None; known = true }

-- an operand that no expression computes
abbrev pub unknown : Operand
unknown = record { value = 0; poison = poison.Never; ty = 0; written = None; known = false }

-- the operand at a place, if an expression computes it
abbrev pub if_known : Operand → Option Operand
if_known o = if o.known then Some o else None

abbrev pub operand_at : List Operand → ℕ → Option Operand
operand_at os i = given (slice_get os i) if_known

-- the expressions, and an operand
abbrev pub Result : Type 0
Result = List Expr × Operand

abbrev pub result : ℕ → ℕ → Flagged → Result
result i t r = (r.0, operand i r.1 t)

-- a value that is poison if one of two operands is
abbrev pub strict : Made → ℕ → Poison → Poison → Result
strict m t f g = result m.1 t (either f g m.0)

abbrev pub first_there : Option Made → Option Made → Option Made
first_there None m = m
first_there (Some n) m = Some n

abbrev pub right_literal : Arithmetic → Operand → Operand → List Expr → Option Made
right_literal o x y ps = given y.written (λ l. with_literal o x.ty x.value l ps)

abbrev pub left_literal : Arithmetic → Operand → Operand → List Expr → Option Made
left_literal o x y ps = given x.written (λ l. literal_times o x.ty y.value l ps)

unfoldable pub operands_value : Arithmetic → Operand → Operand → List Expr → Option Made
operands_value o x y ps = first_there (right_literal o x y ps) (first_there (left_literal o x y ps) (pair_value o x.ty x.value y.value ps))

-- ---- shifts by a literal

-- a value shifted to the right by n bits: its quotient by 2^n
abbrev pub right_of : ℕ → ℕ → Made → Made
right_of n t m = push_expr m.0 t (form.Quotient m.1 (2 ^ n - 1))

-- a value whose bits are exchanged if the truth at place c is 1; the value at place m is -1
abbrev pub exchanged_if : ℕ → ℕ → ℕ → Made → Made
exchanged_if c t i m = push_expr m.0 t (form.Select c m.1 i)

abbrev pub exchanged : ℕ → ℕ → ℕ → Made → Made
exchanged c m t r = exchanged_if c t r.1 (push_expr r.0 t (form.ExclusiveOr r.1 m))

-- a signed value shifted to the right: if it is negative, its bits are exchanged before and after
abbrev pub by_sign : ℕ → ℕ → ℕ → ℕ → Made → Made
by_sign m n t i c = exchanged c.1 m t (right_of n t (exchanged c.1 m t (c.0, i)))

abbrev pub with_ones : ℕ → ℕ → ℕ → ℕ → Made → Made
with_ones n t i z m = by_sign m.1 n t i (push_expr m.0 0 (form.LessSigned t i z))

abbrev pub with_zero : ℕ → ℕ → ℕ → Made → Made
with_zero n t i z = with_ones n t i z.1 (push_expr z.0 t (form.Negative 1))

abbrev pub right_signed : ℕ → ℕ → ℕ → List Expr → Made
right_signed n t i ps = with_zero n t i (push_expr ps t (form.Literal 0))

abbrev pub shifted : Arithmetic → ℕ → ℕ → ℕ → List Expr → Option Made
shifted op.ShiftLeft n t i ps = Some (times (2 ^ n) (2 ^ n) t i ps)
shifted op.ShiftRightUnsigned n t i ps = Some (right_of n t (ps, i))
shifted op.ShiftRightSigned n t i ps = Some (right_signed n t i ps)
shifted _ n t i ps = None

-- the shift is poison if 2^n isn't a number of the type
abbrev pub is_none : Made → Made
is_none m = push_expr m.0 0 (form.Same 0 m.1)

abbrev pub too_far : ℕ → ℕ → List Expr → Made
too_far n t ps = is_none (push_expr ps t (form.Literal (2 ^ n)))

abbrev pub shift_result : ℕ → Poison → Made → Made → Result
shift_result t f m far = strict (far.0, m.1) t f (poison.When far.1)

-- the literals from 1 to 31
abbrev pub is_shift : Literal → Bool
is_shift l = not l.negative && (nat_lt 0 l.magnitude && nat_lt l.magnitude 32)

abbrev pub shift_by : Arithmetic → Operand → Literal → List Expr → Option Result
shift_by o x l ps =
    if is_shift l then given (shifted o l.magnitude x.ty x.value ps) (λ m. Some (shift_result x.ty x.poison m (too_far l.magnitude x.ty m.0))) else None

abbrev pub shift : Arithmetic → Operand → Operand → List Expr → Option Result
shift o x y ps = given y.written (λ l. shift_by o x l ps)

-- ---- operations on operands

abbrev pub first_result : Option Result → Option Result → Option Result
first_result None r = r
first_result (Some q) r = Some q

abbrev pub other_result : Arithmetic → Operand → Operand → List Expr → Option Result
other_result o x y ps = given (operands_value o x y ps) (λ m. Some (strict m x.ty x.poison y.poison))

abbrev pub pair_result : Arithmetic → Operand → Operand → List Expr → Option Result
pair_result o x y ps = if x.ty == y.ty then first_result (shift o x y ps) (other_result o x y ps) else None

-- the quotient of a signed division by 1, where it is defined
abbrev pub divide_by : Operand → Literal → Option Operand
divide_by x l = if is_number 1 l then Some (operand x.value x.poison x.ty) else None

abbrev pub divide_result : Operand → Operand → Option Operand
divide_result x y = if x.ty == y.ty then given y.written (divide_by x) else None

abbrev pub compare_result : Predicate → Operand → Operand → List Expr → Option Result
compare_result q x y ps = if x.ty == y.ty then Some (strict (compare_value q x.ty x.value y.value ps) 0 x.poison y.poison) else None

-- the condition is poison, or the selected operand is
abbrev pub also_poison : Poison → Flagged → Flagged
also_poison f r = either f r.1 r.0

abbrev pub select_poison : Operand → Operand → Operand → List Expr → Flagged
select_poison c x y ps = also_poison c.poison (chosen_poison c.value x.poison y.poison ps)

abbrev pub select_made : Operand → Operand → Operand → Made → Result
select_made c x y m = result m.1 x.ty (select_poison c x y m.0)

abbrev pub select_result : Operand → Operand → Operand → List Expr → Option Result
select_result c x y ps =
    if (c.ty == 0) && (x.ty == y.ty) then Some (select_made c x y (push_expr ps x.ty (form.Select c.value x.value y.value))) else None

abbrev pub resize_result : List Narrower → Cast → ℕ → Operand → List Expr → Option Result
resize_result ns c t x ps = given (cast_value ns c t x.ty x.value ps) (λ m. Some (result m.1 t (m.0, x.poison)))
