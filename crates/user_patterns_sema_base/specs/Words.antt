-- The meaning of the words of the language.
use Rattle.std.specs.Prelude.{ℕ, Bool, true, false, ◌||◌, not, if◌then◌else◌, List, [], ◌∷◌, codes, Option, Some, None, is_some}
use Rattle.std.specs.Str.{bytes_eq}
use Rattle.dialects_int.specs.declared.operations.Arithmetic.{Arithmetic}
use Rattle.dialects_int.specs.declared.operations.Arithmetic.TheVariants as op
use Rattle.dialects_int.specs.declared.operations.Cast.TheVariants as cast
use Rattle.dialects_int.specs.declared.operations.Predicate.{Predicate}
use Rattle.dialects_int.specs.declared.operations.Predicate.TheVariants as asks
use Rattle.user_patterns_sema_base.specs.declared.words.Function.{Function}
use Rattle.user_patterns_sema_base.specs.declared.words.Function.TheVariants as function
use Rattle.user_patterns_sema_base.specs.declared.words.Operation.{Operation}
use Rattle.user_patterns_sema_base.specs.declared.words.Operation.TheVariants as operation

abbrev pub or_else : {A : Type 0} → Option A → Option A → Option A
or_else (Some x) o = Some x
or_else None o = o

-- ---- operations

unfoldable pub first_pair : List ℕ → Option Arithmetic
first_pair w =
    if bytes_eq w (codes "arith.addi") then Some op.Add
    else if bytes_eq w (codes "arith.subi") then Some op.Subtract
    else if bytes_eq w (codes "arith.muli") then Some op.Multiply
    else if bytes_eq w (codes "arith.shli") then Some op.ShiftLeft
    else if bytes_eq w (codes "arith.divsi") then Some op.DivideSigned
    else if bytes_eq w (codes "arith.divui") then Some op.DivideUnsigned
    else if bytes_eq w (codes "arith.remsi") then Some op.RemainderSigned
    else if bytes_eq w (codes "arith.remui") then Some op.RemainderUnsigned
    else None

unfoldable pub extra_pair : List ℕ → Option Arithmetic
extra_pair w =
    if bytes_eq w (codes "arith.andi") then Some op.And
    else if bytes_eq w (codes "arith.ori") then Some op.Or
    else if bytes_eq w (codes "arith.xori") then Some op.ExclusiveOr
    else if bytes_eq w (codes "arith.shrsi") then Some op.ShiftRightSigned
    else if bytes_eq w (codes "arith.shrui") then Some op.ShiftRightUnsigned
    else if bytes_eq w (codes "arith.maxsi") then Some op.MaximumSigned
    else if bytes_eq w (codes "arith.maxui") then Some op.MaximumUnsigned
    else if bytes_eq w (codes "arith.minsi") then Some op.MinimumSigned
    else if bytes_eq w (codes "arith.minui") then Some op.MinimumUnsigned
    else None

-- the binary operations
unfoldable pub pair_named : List ℕ → Option Arithmetic
pair_named w = or_else (first_pair w) (extra_pair w)

-- the other operations
unfoldable pub other_named : List ℕ → Option Operation
other_named w =
    if bytes_eq w (codes "arith.cmpi") then Some operation.Compare
    else if bytes_eq w (codes "arith.select") then Some operation.Select
    else if bytes_eq w (codes "arith.extsi") then Some (operation.IntegerCast cast.ExtendSigned)
    else if bytes_eq w (codes "arith.extui") then Some (operation.IntegerCast cast.ExtendUnsigned)
    else if bytes_eq w (codes "arith.trunci") then Some (operation.IntegerCast cast.Truncate)
    else if bytes_eq w (codes "arith.index_cast") then Some (operation.IndexCast cast.ExtendSigned)
    else if bytes_eq w (codes "arith.index_castui") then Some (operation.IndexCast cast.ExtendUnsigned)
    else None

abbrev pub of_pair : Option Arithmetic → Option Operation → Option Operation
of_pair (Some o) other = Some (operation.Binary o)
of_pair None other = other

unfoldable pub operation_named : List ℕ → Option Operation
operation_named w = of_pair (pair_named w) (other_named w)

unfoldable pub predicate_named : List ℕ → Option Predicate
predicate_named w =
    if bytes_eq w (codes "eq") then Some asks.Equal
    else if bytes_eq w (codes "ne") then Some asks.NotEqual
    else if bytes_eq w (codes "slt") then Some asks.SignedLess
    else if bytes_eq w (codes "sle") then Some asks.SignedLessOrEqual
    else if bytes_eq w (codes "sgt") then Some asks.SignedGreater
    else if bytes_eq w (codes "sge") then Some asks.SignedGreaterOrEqual
    else if bytes_eq w (codes "ult") then Some asks.UnsignedLess
    else if bytes_eq w (codes "ule") then Some asks.UnsignedLessOrEqual
    else if bytes_eq w (codes "ugt") then Some asks.UnsignedGreater
    else if bytes_eq w (codes "uge") then Some asks.UnsignedGreaterOrEqual
    else None

-- ---- functions of numbers, and conditions

unfoldable pub function_named : List ℕ → Option Function
function_named w =
    if bytes_eq w (codes "add") then Some (function.Binary op.Add)
    else if bytes_eq w (codes "sub") then Some (function.Binary op.Subtract)
    else if bytes_eq w (codes "mul") then Some (function.Binary op.Multiply)
    else if bytes_eq w (codes "and") then Some (function.Binary op.And)
    else if bytes_eq w (codes "or") then Some (function.Binary op.Or)
    else if bytes_eq w (codes "xor") then Some (function.Binary op.ExclusiveOr)
    else if bytes_eq w (codes "neg") then Some function.Negate
    else if bytes_eq w (codes "not") then Some function.Complement
    else if bytes_eq w (codes "log2") then Some function.Log2
    else if bytes_eq w (codes "width") then Some function.Width
    else None

-- the words for literals of i1: `true` is 1, `false` is 0
unfoldable pub truth_named : List ℕ → Option ℕ
truth_named w =
    if bytes_eq w (codes "true") then Some 1
    else if bytes_eq w (codes "false") then Some 0
    else None

abbrev pub is_truth : List ℕ → Bool
is_truth w = is_some (truth_named w)

abbrev pub is_narrower : List ℕ → Bool
is_narrower w = bytes_eq w (codes "narrower")

abbrev pub is_power : List ℕ → Bool
is_power w = bytes_eq w (codes "power_of_two")

abbrev pub is_condition : List ℕ → Bool
is_condition w = is_narrower w || (is_power w || is_some (predicate_named w))
