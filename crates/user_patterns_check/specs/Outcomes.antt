-- The outcomes of a pattern's steps. A value is known, or it is poison (`None`). A step without an outcome is
-- undefined: a division or remainder by 0 or by poison, a division that overflows, or a place that is out of bounds.
use Rattle.std.specs.Prelude.{ℕ, ◌^◌, ◌==◌, List, [], ◌∷◌, ◌++◌, Bool, true, false, ◌&&◌, not, if◌then◌else◌, Option, Some, None, slice_get}
use Rattle.ir_types.specs.declared.bits.BitsKind.{BitsKind}
use Rattle.ir_types.specs.declared.bits.BitsKind.TheVariants as kind
use Rattle.ir_types.specs.Bits.{bits_of, width_of}
use Rattle.ir_types.specs.Reasons.{is_width}
use Rattle.dialects_int.specs.declared.operations.Arithmetic.{Arithmetic}
use Rattle.dialects_int.specs.declared.operations.Arithmetic.TheVariants as op
use Rattle.dialects_int.specs.declared.operations.Predicate.{Predicate}
use Rattle.dialects_int.specs.declared.operations.Cast.{Cast}
use Rattle.dialects_int.specs.Arithmetic.{value_of, cast_of, comparison_of, truth, choice_of}
use Rattle.dialects_int.specs.Folds.{Known, same_kind}
use Rattle.user_patterns_check.specs.Cases.{first_below}
use Rattle.user_patterns_check.specs.declared.step.Step.{Step}
use Rattle.user_patterns_check.specs.declared.step.Step.TheVariants as step

-- an outcome: a number or poison; an optional outcome may also be undefined
abbrev pub Outcome : Type 0
Outcome = Option Known

abbrev pub given : {X Y : Type 0} → Option X → (X → Option Y) → Option Y
given None f = None
given (Some x) f = f x

-- whether an operation without a value is undefined rather than poison
abbrev pub divides : Arithmetic → Bool
divides op.DivideSigned = true
divides op.DivideUnsigned = true
divides op.RemainderSigned = true
divides op.RemainderUnsigned = true
divides op.Add = false
divides op.Subtract = false
divides op.Multiply = false
divides op.ShiftLeft = false
divides op.And = false
divides op.Or = false
divides op.ExclusiveOr = false
divides op.ShiftRightSigned = false
divides op.ShiftRightUnsigned = false
divides op.MaximumSigned = false
divides op.MaximumUnsigned = false
divides op.MinimumSigned = false
divides op.MinimumUnsigned = false

-- a known value that isn't 0
abbrev pub is_some_number : Outcome → Bool
is_some_number None = false
is_some_number (Some k) = not (k.1 == 0)

abbrev pub no_value : Arithmetic → Option Outcome
no_value o = if divides o then None else Some None

abbrev pub is_signed_remainder : Arithmetic → Bool
is_signed_remainder op.RemainderSigned = true
is_signed_remainder _ = false

-- the signed remainder of the least value by -1 is 0, though the division overflows
abbrev pub without_value : Arithmetic → BitsKind → ℕ → Option Outcome
without_value o k b = if is_signed_remainder o && not (b == 0) then Some (Some (k, 0)) else no_value o

abbrev pub checked : Arithmetic → BitsKind → ℕ → Option ℕ → Option Outcome
checked o k b (Some v) = Some (Some (k, v))
checked o k b None = without_value o k b

abbrev pub known_pair : Arithmetic → Known → Known → Option Outcome
known_pair o x y = if same_kind x.0 y.0 then checked o x.0 y.1 (value_of o (width_of x.0) x.1 y.1) else None

-- a binary operation
abbrev pub pair_outcome : Arithmetic → Outcome → Outcome → Option Outcome
pair_outcome o (Some x) (Some y) = known_pair o x y
pair_outcome o (Some x) None = no_value o
pair_outcome o None y = if divides o && not (is_some_number y) then None else Some None

-- a comparison
abbrev pub compare_outcome : Predicate → Outcome → Outcome → Option Outcome
compare_outcome p (Some x) (Some y) = if same_kind x.0 y.0 then Some (Some (kind.Int 1, truth (comparison_of (width_of x.0) p x.1 y.1))) else None
compare_outcome p (Some x) None = Some None
compare_outcome p None y = Some None

-- `select`; the unselected operand may be poison
abbrev pub select_outcome : Outcome → Outcome → Outcome → Option Outcome
select_outcome None x y = Some None
select_outcome (Some c) x y = if same_kind c.0 (kind.Int 1) then Some (choice_of c.1 x y) else None

-- a value cast to another kind
abbrev pub resize_any : Cast → BitsKind → Outcome → Option Outcome
resize_any c k None = Some None
resize_any c k (Some x) = given (cast_of c (width_of x.0) (width_of k) x.1) (λ b. Some (Some (k, b)))

abbrev pub resize_outcome : Cast → BitsKind → Outcome → Option Outcome
resize_outcome c k x = if is_width (width_of k) then resize_any c k x else None

-- the k below w with 2^k = a
unfoldable pub log_of : ℕ → ℕ → Option ℕ
log_of w a = first_below (λ k. if a == 2 ^ k then Some k else None) w

abbrev pub log_outcome : Outcome → Option Outcome
log_outcome None = None
log_outcome (Some x) = given (log_of (width_of x.0) x.1) (λ k. Some (Some (x.0, k)))

-- a condition, which must be true
abbrev pub required : Outcome → Option Outcome
required None = None
required (Some c) = if c.1 == 0 then None else Some (Some c)

-- a number, if it is in range of its kind
abbrev pub constant_outcome : BitsKind → ℕ → Option Outcome
constant_outcome k v = given (bits_of k v) (λ b. Some (Some b))

-- the outcome of a step, given the environment before it
abbrev pub step_of : Step → List Outcome → Option Outcome
step_of (step.Constant k v) env = constant_outcome k v
step_of (step.Binary o i j) env = given (slice_get env i) (λ x. given (slice_get env j) (λ y. pair_outcome o x y))
step_of (step.Compare p i j) env = given (slice_get env i) (λ x. given (slice_get env j) (λ y. compare_outcome p x y))
step_of (step.Select c i j) env = given (slice_get env c) (λ b. given (slice_get env i) (λ x. given (slice_get env j) (λ y. select_outcome b x y)))
step_of (step.IntegerCast c k i) env = given (slice_get env i) (λ x. resize_outcome c k x)
step_of (step.Log2 i) env = given (slice_get env i) log_outcome
step_of (step.Require i) env = given (slice_get env i) required

-- the environment after the steps, or none if a step is undefined
abbrev pub run : List Step → List Outcome → Option (List Outcome)
run [] env = Some env
run (s ∷ ss) env = given (step_of s env) (λ v. run ss (env ++ (v ∷ [])))
