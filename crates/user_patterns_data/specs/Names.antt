-- The names of the operations of a pattern, and their predicates and flags.
use Rattle.std.specs.Prelude.{◌≡◌, ℕ, List, [], ◌∷◌, codes, Bool, true, false, ◌&&◌, not, Option, Some, None}
use Rattle.ir_types.specs.Terms.{AttrTerm}
use Rattle.ir_types.specs.Terms as term
use Rattle.dialects_int.specs.declared.operations.Arithmetic.{Arithmetic}
use Rattle.dialects_int.specs.declared.operations.Arithmetic.TheVariants as op
use Rattle.dialects_int.specs.declared.operations.Cast.{Cast}
use Rattle.dialects_int.specs.declared.operations.Cast.TheVariants as cast
use Rattle.dialects_int.specs.declared.operations.Predicate.{Predicate}
use Rattle.dialects_int.specs.declared.operations.Predicate.TheVariants as asks
use Rattle.dialects_int.specs.declared.operations.Rule.TheVariants as rule
use Rattle.dialects_int.specs.Folds.{rule_of}
use Rattle.user_patterns_data.specs.declared.pattern.Expression.{Expression}
use Rattle.user_patterns_data.specs.declared.pattern.Expression.TheVariants as form

abbrev pub pair_name : Arithmetic → List ℕ
pair_name op.Add = codes "arith.addi"
pair_name op.Subtract = codes "arith.subi"
pair_name op.Multiply = codes "arith.muli"
pair_name op.ShiftLeft = codes "arith.shli"
pair_name op.DivideSigned = codes "arith.divsi"
pair_name op.DivideUnsigned = codes "arith.divui"
pair_name op.RemainderSigned = codes "arith.remsi"
pair_name op.RemainderUnsigned = codes "arith.remui"
pair_name op.And = codes "arith.andi"
pair_name op.Or = codes "arith.ori"
pair_name op.ExclusiveOr = codes "arith.xori"
pair_name op.ShiftRightSigned = codes "arith.shrsi"
pair_name op.ShiftRightUnsigned = codes "arith.shrui"
pair_name op.MaximumSigned = codes "arith.maxsi"
pair_name op.MaximumUnsigned = codes "arith.maxui"
pair_name op.MinimumSigned = codes "arith.minsi"
pair_name op.MinimumUnsigned = codes "arith.minui"

abbrev pub cast_name : Cast → List ℕ
cast_name cast.ExtendSigned = codes "arith.extsi"
cast_name cast.ExtendUnsigned = codes "arith.extui"
cast_name cast.Truncate = codes "arith.trunci"

abbrev pub index_cast_name : Cast → List ℕ
index_cast_name cast.ExtendSigned = codes "arith.index_cast"
index_cast_name cast.ExtendUnsigned = codes "arith.index_castui"
index_cast_name cast.Truncate = []

abbrev pub name_of : Expression → List ℕ
name_of (form.Binary o i j) = pair_name o
name_of (form.Compare p i j) = codes "arith.cmpi"
name_of (form.Select c i j) = codes "arith.select"
name_of (form.IntegerCast c i) = cast_name c
name_of (form.IndexCast c i) = index_cast_name c

-- the number of a predicate
abbrev pub predicate_number : Predicate → ℕ
predicate_number asks.Equal = 0
predicate_number asks.NotEqual = 1
predicate_number asks.SignedLess = 2
predicate_number asks.SignedLessOrEqual = 3
predicate_number asks.SignedGreater = 4
predicate_number asks.SignedGreaterOrEqual = 5
predicate_number asks.UnsignedLess = 6
predicate_number asks.UnsignedLessOrEqual = 7
predicate_number asks.UnsignedGreater = 8
predicate_number asks.UnsignedGreaterOrEqual = 9

abbrev pub predicate_of : Expression → Option ℕ
predicate_of (form.Compare p i j) = Some (predicate_number p)
predicate_of _ = None

-- the places of operands
abbrev pub operands_of : Expression → List ℕ
operands_of (form.Binary o i j) = i ∷ j ∷ []
operands_of (form.Compare p i j) = i ∷ j ∷ []
operands_of (form.Select c i j) = c ∷ i ∷ j ∷ []
operands_of (form.IntegerCast c i) = i ∷ []
operands_of (form.IndexCast c i) = i ∷ []

-- operations of these names fold as the steps compute
abbrev pub NamesFold : Type 0
NamesFold =
    ((o : Arithmetic) → rule_of (pair_name o) ≡ Some (rule.Binary o))
    × ((c : Cast) → rule_of (cast_name c) ≡ Some (rule.IntegerCast c))
    × (rule_of (index_cast_name cast.ExtendSigned) ≡ Some (rule.IndexCast cast.ExtendSigned))
    × (rule_of (index_cast_name cast.ExtendUnsigned) ≡ Some (rule.IndexCast cast.ExtendUnsigned))
    × (rule_of (codes "arith.cmpi") ≡ Some rule.Compare)
    × (rule_of (codes "arith.select") ≡ Some rule.Select)

-- an operation has no flags
abbrev pub are_none : Option AttrTerm → Bool
are_none None = true
are_none (Some (term.Overflow a b)) = not a && not b
are_none (Some _) = false
