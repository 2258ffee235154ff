-- The conditions of each rule at an eligible operation that isn't the root, in order. If a rule checks two conditions
-- with one test, the weaker condition comes first.
use Rattle.std.specs.Prelude.{ℕ, List, [], ◌∷◌, codes, Bool, true, false, not, ◌&&◌, ◌||◌, eqb, nat_le, is_some}
use Rattle.std.specs.Prelude.{int_lt, if◌then◌else◌, Option, Some, None}
use Rattle.std.specs.List.{list_all, list_any}
use Rattle.ir_event.specs.types.Readings.{type_width}
use Rattle.ir_event.specs.types.SameTypes.{same_type}
use Rattle.ir_event.specs.trees.declared.value.Value.{Value}
use Rattle.ir_event.specs.trees.Meaning.{Operation}
use Rattle.ir_event.specs.trees.Tree.{head}
use Rattle.ir_event.specs.trees.Uses.{same_value}
use Rattle.op_registry.specs.Registry.{next_to}
use Rattle.dialects_int.specs.Folds.{Known}
use Rattle.effects.specs.Dead.{is_unused}
use Rattle.patterns_base.specs.Made.{i1}
use Rattle.patterns_base.specs.Words.{named, among, commutative, with_zero_as_right_identity, with_one_as_right_identity, self_inverse, idempotent, remainders}
use Rattle.patterns_base.specs.Words.{associative, predicate_of_min_max, division_of_remainder, extensions, index_casts}
use Rattle.patterns_base.specs.Keeps.{given}
use Rattle.patterns_base.specs.Looks.{Header, One, Two, Three, one, two, three, predicate, source, source_among, body}
use Rattle.patterns_base.specs.Looks.{is_constant, known, is_known, is_number, passes, is_of_type, is_index, is_index_value}
use Rattle.patterns_base.specs.Folding.{is_all_ones}
use Rattle.patterns_base.specs.Casting.{resizing}
use Rattle.patterns_base.specs.Opening.{Loop, loop_from, reading}
use Rattle.patterns_base.specs.declared.rule.Rule.{Rule}
use Rattle.patterns_base.specs.declared.rule.Rule.TheVariants as rule
use Rattle.patterns_plans.specs.declared.reason.Reason.{Reason}
use Rattle.patterns_plans.specs.declared.reason.Reason.TheVariants.{WrongOperation, Used, HasEffects}
use Rattle.patterns_plans.specs.declared.reason.Reason.TheVariants.{ConstantNotVerified, OperandNotConstant}
use Rattle.patterns_plans.specs.declared.reason.Reason.TheVariants.{DoesNotFold, FirstNotConstant}
use Rattle.patterns_plans.specs.declared.reason.Reason.TheVariants.{SecondConstant, SecondNotConstant}
use Rattle.patterns_plans.specs.declared.reason.Reason.TheVariants.{SecondNotZero, SecondNotOne}
use Rattle.patterns_plans.specs.declared.reason.Reason.TheVariants.{SecondNotAllOnes, ThirdNotZero}
use Rattle.patterns_plans.specs.declared.reason.Reason.TheVariants.{OperandsDiffer, OtherPredicate, OtherType}
use Rattle.patterns_plans.specs.declared.reason.Reason.TheVariants.{NoDefiningOp, InnerNotConstant}
use Rattle.patterns_plans.specs.declared.reason.Reason.TheVariants.{InnerNotOne, FewerBits, BoundNotConstant}
use Rattle.patterns_plans.specs.declared.reason.Reason.TheVariants.{RunsAgain, ConditionNotFalse, BlockNotVerified}
use Rattle.patterns_plans.specs.declared.reason.Reason.TheVariants.{NoIndex}
use Rattle.patterns_plans.specs.Conditions.{Test, asks, has}
use Rattle.patterns_plans.specs.Numbers.{is_readable}

-- why an operation with these known operands doesn't fold
abbrev pub unfolded_reason : List (Option Known) → Reason
unfolded_reason [] = DoesNotFold
unfolded_reason (None ∷ ks) = OperandNotConstant
unfolded_reason (Some k ∷ ks) = unfolded_reason ks

-- whether a list has exactly one item
abbrev pub is_single : {X : Type 0} → List X → Bool
is_single (x ∷ []) = true
is_single _ = false

-- the item of a list with exactly one item
abbrev pub first_of : {X : Type 0} → List X → Option X
first_of [] = None
first_of (x ∷ xs) = Some x

-- whether one value is less than another, as signed numbers, if both are known
abbrev pub is_below : Operation → Value → Value → Option Bool
is_below t lower upper =
    given (known t lower) (λ low. given (known t upper) (λ high. Some (int_lt (reading low) (reading high))))

-- whether the bounds of a loop are known, and its step too if the lower bound is less than the upper bound
abbrev pub are_bounds_known : Operation → Loop → Bool
are_bounds_known t l = has (λ below. not below || is_known t l.step) (is_below t l.lower l.upper)

-- whether a loop never runs
abbrev pub is_never : Operation → Loop → Bool
is_never t l = has not (is_below t l.lower l.upper)

-- the cast of the same name that defines the operand of a cast
abbrev cast_alike : Operation → One → Option One
cast_alike t p = given (source t p.name p.first) one

-- the conditions at an unrealized cast, which may be a cast to its operand's type
abbrev pub unrealized_tests : Operation → One → List Test
unrealized_tests t p =
    asks NoDefiningOp (is_of_type t p.ty p.first || is_some (cast_alike t p))
    ∷ asks OtherType (is_of_type t p.ty p.first || has (λ q. is_of_type t p.ty q.first) (cast_alike t p))
    ∷ []

-- the conditions at a cast between an integer and index
abbrev pub index_tests : Operation → One → List Test
index_tests t p =
    asks NoDefiningOp (is_some (cast_alike t p))
    ∷ asks FewerBits (has (λ q. nat_le (type_width p.ty) (type_width q.ty)) (cast_alike t p))
    ∷ asks OtherType (has (λ q. is_of_type t p.ty q.first) (cast_alike t p))
    ∷ []

-- the conditions at either kind of cast
abbrev pub cast_tests : Operation → Option One → List Test
cast_tests t None = asks WrongOperation false ∷ []
cast_tests t (Some p) =
    if named (codes "builtin.unrealized_conversion_cast") p.name then unrealized_tests t p
    else (asks WrongOperation (among index_casts p.name) ∷ index_tests t p)

-- the conditions of `erase-dead` at operation x. `applies` says whether the rule applies there
abbrev pub dead_tests : ℕ → Operation → Bool → List Test
dead_tests x t applies = asks Used (is_unused x t) ∷ asks HasEffects applies ∷ []

-- the conditions by the header of an operation. `applies` says whether the rule applies there; it comes last, as a
-- condition that covers the rest of the rule
module _ (t : Operation) (h : Header) where
  abbrev one_has : (One → Bool) → Bool
  one_has f = has f (one h)

  abbrev two_has : (Two → Bool) → Bool
  two_has f = has f (two h)

  abbrev three_has : (Three → Bool) → Bool
  three_has f = has f (three h)

  -- an operation with two operands and one of some names
  abbrev is_two_of : List (List ℕ) → Test
  is_two_of names = asks WrongOperation (two_has (λ p. among names p.name))

  -- a comparison
  abbrev is_comparison : Test
  is_comparison =
      asks WrongOperation (two_has (λ p. named (codes "arith.cmpi") p.name) && is_some (predicate h))

  -- a select
  abbrev is_choice : Test
  is_choice = asks WrongOperation (three_has (λ p. named (codes "arith.select") p.name))

  abbrev first_known : Test
  first_known = asks FirstNotConstant (two_has (λ p. is_known t p.first))

  abbrev second_no_constant : Test
  second_no_constant = asks SecondConstant (two_has (λ p. not (is_constant t p.second)))

  abbrev second_known : Test
  second_known = asks SecondNotConstant (two_has (λ p. is_known t p.second))

  abbrev second_zero : Test
  second_zero = asks SecondNotZero (two_has (λ p. is_number t 0 p.second))

  abbrev second_one : Test
  second_one = asks SecondNotOne (two_has (λ p. is_number t 1 p.second))

  abbrev same_operands : Test
  same_operands = asks OperandsDiffer (two_has (λ p. same_value p.first p.second))

  abbrev pub erase_dead : Bool → List Test
  erase_dead applies = dead_tests h.id t applies

  abbrev pub fold_to_constant : Bool → List Test
  fold_to_constant applies =
      asks WrongOperation (not (named (codes "arith.constant") h.name))
      ∷ asks ConstantNotVerified (list_all (is_readable t) h.operands)
      ∷ asks OperandNotConstant (applies || list_all (is_known t) h.operands)
      ∷ asks DoesNotFold applies
      ∷ []

  abbrev pub swap_constant : List Test
  swap_constant = is_two_of commutative ∷ first_known ∷ second_no_constant ∷ []

  abbrev pub drop_zero : List Test
  drop_zero = is_two_of with_zero_as_right_identity ∷ second_known ∷ second_zero ∷ []

  abbrev pub drop_one : List Test
  drop_one = is_two_of with_one_as_right_identity ∷ second_known ∷ second_one ∷ []

  abbrev pub drop_all_ones : List Test
  drop_all_ones =
      asks WrongOperation (two_has (λ p. named (codes "arith.andi") p.name))
      ∷ second_known
      ∷ asks SecondNotAllOnes (two_has (λ p. passes (is_all_ones p.ty) (known t p.second)))
      ∷ []

  abbrev pub cancel_itself : List Test
  cancel_itself = is_two_of self_inverse ∷ same_operands ∷ []

  abbrev pub keep_itself : List Test
  keep_itself = is_two_of idempotent ∷ same_operands ∷ []

  abbrev pub zero_remainder : List Test
  zero_remainder = is_two_of remainders ∷ second_known ∷ second_one ∷ []

  -- the operation of the same name that defines the first operand
  abbrev inner : Two → Option Two
  inner p = given (source t p.name p.first) two

  abbrev pub regroup_constants : Bool → List Test
  regroup_constants applies =
      is_two_of associative
      ∷ second_known
      ∷ asks NoDefiningOp (two_has (λ p. is_some (inner p)))
      ∷ asks InnerNotConstant (two_has (λ p. has (λ q. is_known t q.second) (inner p)))
      ∷ asks DoesNotFold applies
      ∷ []

  abbrev pub add_negative : List Test
  add_negative = asks WrongOperation (two_has (λ p. named (codes "arith.subi") p.name)) ∷ second_known ∷ []

  abbrev pub compare_itself : List Test
  compare_itself = is_comparison ∷ same_operands ∷ []

  abbrev pub mirror_comparison : List Test
  mirror_comparison = is_comparison ∷ first_known ∷ second_no_constant ∷ []

  abbrev pub compare_zero : List Test
  compare_zero =
      is_comparison
      ∷ second_known
      ∷ second_zero
      ∷ asks OtherPredicate (has (λ n. eqb n 6 || eqb n 9) (predicate h))
      ∷ []

  abbrev pub choose_same : List Test
  choose_same = is_choice ∷ asks OperandsDiffer (three_has (λ p. same_value p.second p.third)) ∷ []

  abbrev pub choose_known : List Test
  choose_known = is_choice ∷ asks FirstNotConstant (three_has (λ p. is_known t p.first)) ∷ []

  abbrev pub choose_truth : List Test
  choose_truth =
      is_choice
      ∷ asks OtherType (three_has (λ p. same_type p.ty i1))
      ∷ asks SecondNotConstant (three_has (λ p. is_known t p.second))
      ∷ asks SecondNotOne (three_has (λ p. is_number t 1 p.second))
      ∷ asks ThirdNotZero (three_has (λ p. is_number t 0 p.third))
      ∷ []

  -- the `arith.xori` that defines the condition
  abbrev opposite : Three → Option Two
  opposite p = given (source t (codes "arith.xori") p.first) two

  abbrev pub choose_opposite : List Test
  choose_opposite =
      is_choice
      ∷ asks NoDefiningOp (three_has (λ p. is_some (opposite p)))
      ∷ asks InnerNotOne (three_has (λ p. has (λ q. is_number t 1 q.second) (opposite p)))
      ∷ []

  -- the cast with one of some names that defines the operand
  abbrev cast_among : List (List ℕ) → One → Option One
  cast_among names p = given (source_among t names p.first) one

  abbrev pub extend_extension : List Test
  extend_extension =
      asks WrongOperation (one_has (λ p. among extensions p.name))
      ∷ asks NoDefiningOp (one_has (λ p. has
      (λ q. named p.name q.name || named (codes "arith.extsi") p.name) (cast_among extensions p)))
      ∷ []

  abbrev pub cut_cast : List Test
  cut_cast =
      asks WrongOperation (one_has (λ p. named (codes "arith.trunci") p.name))
      ∷ asks NoDefiningOp (one_has (λ p. is_some (cast_among resizing p)))
      ∷ asks OtherType (one_has (λ p. has
      (λ q. named (codes "arith.trunci") q.name || is_of_type t p.ty q.first) (cast_among resizing p)))
      ∷ []

  abbrev pub cast_back : List Test
  cast_back = cast_tests t (one h)

  abbrev pub open_branch : Bool → List Test
  open_branch applies =
      asks WrongOperation (named (codes "scf.if") h.name && is_single h.operands)
      ∷ asks FirstNotConstant (has (is_known t) (first_of h.operands))
      ∷ asks BlockNotVerified applies
      ∷ []

  abbrev pub expand_min_max : List Test
  expand_min_max = asks WrongOperation (two_has (λ p. is_some (next_to p.name predicate_of_min_max))) ∷ []

  abbrev pub expand_difference : List Test
  expand_difference = asks WrongOperation (two_has (λ p. named (codes "arith.subi") p.name)) ∷ []

  abbrev pub expand_remainder : List Test
  expand_remainder = asks WrongOperation (two_has (λ p. is_some (next_to p.name division_of_remainder))) ∷ []

  abbrev pub lower_index : Bool → List Test
  lower_index applies = asks NoIndex applies ∷ []

  abbrev pub lower_loop : Bool → List Test
  lower_loop applies =
      asks WrongOperation (named (codes "scf.for") h.name)
      ∷ asks NoIndex (list_any (is_index_value t) h.operands)
      ∷ asks BlockNotVerified applies
      ∷ []

  abbrev pub lower_choice : Bool → List Test
  lower_choice applies =
      asks WrongOperation (named (codes "scf.if") h.name)
      ∷ asks NoIndex (list_any is_index h.results)
      ∷ asks BlockNotVerified applies
      ∷ []

-- the same for an operation whose first block is read
abbrev pub open_loop : Operation → Operation → Bool → List Test
open_loop t o applies =
    asks WrongOperation (named (codes "scf.for") (head o).name && is_some (loop_from (head o).operands))
    ∷ asks BoundNotConstant (has (are_bounds_known t) (loop_from (head o).operands))
    ∷ asks BlockNotVerified (has (is_never t) (loop_from (head o).operands) || is_some (body t o 0))
    ∷ asks RunsAgain applies
    ∷ []

abbrev pub stop_loop : Operation → Operation → Bool → List Test
stop_loop t o applies =
    asks WrongOperation (named (codes "scf.while") (head o).name)
    ∷ asks BlockNotVerified (is_some (body t o 0))
    ∷ asks ConditionNotFalse applies
    ∷ []

-- the conditions of a rule by the header of an operation, given whether the rule applies
abbrev pub header_tests : Rule → Operation → Header → Bool → List Test
header_tests rule.EraseDead t h applies = erase_dead t h applies
header_tests rule.FoldToConstant t h applies = fold_to_constant t h applies
header_tests rule.SwapConstant t h applies = swap_constant t h
header_tests rule.DropZero t h applies = drop_zero t h
header_tests rule.DropOne t h applies = drop_one t h
header_tests rule.DropAllOnes t h applies = drop_all_ones t h
header_tests rule.CancelItself t h applies = cancel_itself t h
header_tests rule.KeepItself t h applies = keep_itself t h
header_tests rule.ZeroRemainder t h applies = zero_remainder t h
header_tests rule.RegroupConstants t h applies = regroup_constants t h applies
header_tests rule.AddNegative t h applies = add_negative t h
header_tests rule.CompareItself t h applies = compare_itself t h
header_tests rule.MirrorComparison t h applies = mirror_comparison t h
header_tests rule.CompareZero t h applies = compare_zero t h
header_tests rule.ChooseSame t h applies = choose_same t h
header_tests rule.ChooseKnown t h applies = choose_known t h
header_tests rule.ChooseTruth t h applies = choose_truth t h
header_tests rule.ChooseOpposite t h applies = choose_opposite t h
header_tests rule.ExtendExtension t h applies = extend_extension t h
header_tests rule.CutCast t h applies = cut_cast t h
header_tests rule.CastBack t h applies = cast_back t h
header_tests rule.OpenBranch t h applies = open_branch t h applies
header_tests rule.ExpandMinMax t h applies = expand_min_max t h
header_tests rule.ExpandDifference t h applies = expand_difference t h
header_tests rule.ExpandRemainder t h applies = expand_remainder t h
header_tests rule.LowerIndex t h applies = lower_index t h applies
header_tests rule.LowerLoop t h applies = lower_loop t h applies
header_tests rule.LowerChoice t h applies = lower_choice t h applies
header_tests rule.OpenLoop t h applies = []
header_tests rule.StopLoop t h applies = []

-- two rules have a condition on the operation's block
abbrev pub asks_block : Rule → Bool
asks_block rule.OpenLoop = true
asks_block rule.StopLoop = true
asks_block _ = false

abbrev pub block_tests : Rule → Operation → Operation → Bool → List Test
block_tests rule.OpenLoop t o applies = open_loop t o applies
block_tests rule.StopLoop t o applies = stop_loop t o applies
block_tests _ t o applies = []

-- the conditions of a rule at an operation of a tree
abbrev pub tests : Rule → Operation → Operation → Bool → List Test
tests r t o applies = if asks_block r then block_tests r t o applies else header_tests r t (head o) applies
