-- The meaning of the arithmetic operations of a module. An assignment gives each value an outcome. It fits if the
-- result of each operation is what the operation computes from its operands.
use Rattle.std.specs.Prelude.{◌≡◌, ◌⊎◌, ℕ, ◌+◌, ◌*◌, ◌/◌, ◌^◌, ◌==◌, nat_lt, pos, int_div, ◌+ℤ◌, ◌-ℤ◌, ◌*ℤ◌, List, [], ◌∷◌, map, codes, Bool, true, false, not, ◌&&◌, ◌||◌, Option, Some, None, slice_get, is_some}
use Rattle.std.specs.Int.{int_shr}
use Rattle.std.specs.Ordering.{int_eq}
use Rattle.ir_types.specs.declared.bits.BitsKind.{BitsKind}
use Rattle.ir_types.specs.Terms.{TypeTerm, AttrTerm, Flag, Overflow}
use Rattle.ir_types.specs.Readings.{signed_of}
use Rattle.ir_types.specs.Bits.{is_bits, width_of}
use Rattle.ir_tree.specs.declared.value.Value.{Value}
use Rattle.ir_tree.specs.declared.value.Value.TheVariants.{Result, Arg}
use Rattle.ir_tree.specs.Tree.{RegionsOf, RegionOf, OpsOf, op, no_regions, region, empty, block, no_ops, next, head}
use Rattle.ir_tree.specs.Meaning.{Operation}
use Rattle.dialects_int.specs.declared.operations.Arithmetic.{Arithmetic}
use Rattle.dialects_int.specs.declared.operations.Arithmetic.TheVariants as operator
use Rattle.dialects_int.specs.declared.operations.Cast.TheVariants as cast
use Rattle.dialects_int.specs.declared.operations.Rule.{Rule}
use Rattle.dialects_int.specs.declared.operations.Rule.TheVariants as rule
use Rattle.dialects_int.specs.Arithmetic.{difference_of, product_of, sum_of, zero_extended}
use Rattle.dialects_int.specs.Folds.{requested, fold_of, kind_of, property_of, rule_of}
use Rattle.user_patterns_check.specs.Outcomes.{Outcome, compare_outcome, given, pair_outcome, resize_outcome, select_outcome}
use Rattle.op_registry.specs.Registry.{next_to}
use Rattle.user_patterns_data.specs.Names.{are_none}
use Rattle.user_patterns_data.specs.Matching.{Header}

-- the outcome of each value: a known number, or poison, which also represents a value that isn't a number
abbrev pub Assignment : Type 0
Assignment = Value → Outcome

-- the operation whose result or block argument the value is
abbrev pub owner : Value → ℕ
owner (Result x k) = x
owner (Arg x r k) = x

-- ---- outcomes of operations

-- a function of one outcome, of two, of three
abbrev pub of_one : (Outcome → Option Outcome) → List Outcome → Option Outcome
of_one f (x ∷ []) = f x
of_one f _ = None

abbrev pub of_two : (Outcome → Outcome → Option Outcome) → List Outcome → Option Outcome
of_two f (x ∷ y ∷ []) = f x y
of_two f _ = None

abbrev pub of_three : (Outcome → Outcome → Outcome → Option Outcome) → List Outcome → Option Outcome
of_three f (x ∷ y ∷ z ∷ []) = f x y z
of_three f _ = None

-- the outcome of an operation with this rule and result kind, without its flags, given its operands' outcomes; none
-- if it is undefined; a constant gives its number
abbrev pub makes_by : Rule → Header → BitsKind → List Outcome → Option Outcome
makes_by rule.Constant h k xs = given (fold_of h.name h.properties [] h.results) (λ x. Some (Some x))
makes_by (rule.Binary o) h k xs = of_two (pair_outcome o) xs
makes_by rule.Compare h k xs = given (requested (property_of (codes "predicate") h.properties)) (λ p. of_two (compare_outcome p) xs)
makes_by rule.Select h k xs = of_three select_outcome xs
makes_by (rule.IntegerCast c) h k xs = of_one (resize_outcome c k) xs
makes_by (rule.IndexCast c) h k xs = of_one (resize_outcome c k) xs

-- the kind of the operation's result
abbrev pub result_kind : Header → Option BitsKind
result_kind h = given (slice_get h.results 0) kind_of

-- the outcome of an operation, without its flags
abbrev pub makes : Header → List Outcome → Option Outcome
makes h xs = given (rule_of h.name) (λ r. given (result_kind h) (λ k. makes_by r h k xs))

-- the operations that the model describes: arithmetic on integers of known width and `index`
abbrev pub is_arithmetic : Header → Bool
is_arithmetic h = is_some (rule_of h.name) && is_some (result_kind h)

-- ---- flags
-- the flags of an operation: those of `overflowFlags`, and whether it has `isExact`
pub record Flags : Type 0 where
  pub nsw : Bool
  pub nuw : Bool
  pub exact : Bool

abbrev pub flags_in : Option AttrTerm → Bool × Bool
flags_in None = (false, false)
flags_in (Some (Overflow nsw nuw)) = (nsw, nuw)
flags_in (Some _) = (false, false)

abbrev pub is_exact : Option AttrTerm → Bool
is_exact None = false
is_exact (Some Flag) = true
is_exact (Some _) = false

abbrev pub flags_by : List (List ℕ × AttrTerm) → Flags
flags_by properties =
    record {
      nsw = (flags_in (next_to (codes "overflowFlags") properties)).0;
      nuw = (flags_in (next_to (codes "overflowFlags") properties)).1;
      exact = is_exact (next_to (codes "isExact") properties);
    }

abbrev pub flags_of : Header → Flags
flags_of h = flags_by h.properties

-- whether the operation has a flag
abbrev pub has_flags_by : List (List ℕ × AttrTerm) → Bool
has_flags_by properties = not (are_none (next_to (codes "overflowFlags") properties)) || is_exact (next_to (codes "isExact") properties)

abbrev pub has_flags : Header → Bool
has_flags h = has_flags_by h.properties

-- Returns whether an operation on two numbers of w bits overflows if they are signed: the signed reading of its
-- result isn't the sum, the difference, the product or the shifted value of their signed readings.
abbrev pub overflows_signed : Arithmetic → ℕ → ℕ → ℕ → Bool
overflows_signed operator.Add w a b = not (int_eq (signed_of w (sum_of w a b)) (signed_of w a +ℤ signed_of w b))
overflows_signed operator.Subtract w a b = not (int_eq (signed_of w (difference_of w a b)) (signed_of w a -ℤ signed_of w b))
overflows_signed operator.Multiply w a b = not (int_eq (signed_of w (product_of w a b)) (signed_of w a *ℤ signed_of w b))
overflows_signed operator.ShiftLeft w a n = not (int_eq (signed_of w (product_of w a (2 ^ n))) (signed_of w a *ℤ pos (2 ^ n)))
overflows_signed o w a b = false

-- Returns whether the operation overflows if the numbers are unsigned.
abbrev pub overflows_unsigned : Arithmetic → ℕ → ℕ → ℕ → Bool
overflows_unsigned operator.Add w a b = not (sum_of w a b == a + b)
overflows_unsigned operator.Subtract w a b = nat_lt a b
overflows_unsigned operator.Multiply w a b = not (product_of w a b == a * b)
overflows_unsigned operator.ShiftLeft w a n = not (product_of w a (2 ^ n) == a * 2 ^ n)
overflows_unsigned o w a b = false

-- Returns whether a division or a right shift is inexact: the result times the divisor isn't the dividend.
abbrev pub is_inexact : Arithmetic → ℕ → ℕ → ℕ → Bool
is_inexact operator.DivideSigned w a b = not (int_eq (int_div (signed_of w a) (signed_of w b) *ℤ signed_of w b) (signed_of w a))
is_inexact operator.DivideUnsigned w a b = not ((a / b) * b == a)
is_inexact operator.ShiftRightSigned w a n = not (int_eq (int_shr (signed_of w a) n *ℤ pos (2 ^ n)) (signed_of w a))
is_inexact operator.ShiftRightUnsigned w a n = not ((a / 2 ^ n) * 2 ^ n == a)
is_inexact o w a b = false

-- Returns whether known operands break the flags of an operation: `nsw` and `nuw` of `addi`, `subi`, `muli` and
-- `shli`; `exact` of `divsi`, `divui`, `shrsi` and `shrui`; `nsw` and `nuw` of `trunci` from v bits, whose result
-- must extend to the same number. Poison breaks no flag.
abbrev pub breaks_pair : Flags → Arithmetic → ℕ → List Outcome → Bool
breaks_pair flags o w (Some x ∷ Some y ∷ []) =
    (flags.nsw && overflows_signed o w x.1 y.1) || ((flags.nuw && overflows_unsigned o w x.1 y.1) || (flags.exact && is_inexact o w x.1 y.1))
breaks_pair flags o w _ = false

abbrev pub breaks_cut : Flags → ℕ → List Outcome → Bool
breaks_cut flags w (Some x ∷ []) =
    (flags.nsw && not (int_eq (signed_of w (zero_extended w x.1)) (signed_of (width_of x.0) x.1))) || (flags.nuw && not (zero_extended w x.1 == x.1))
breaks_cut flags w _ = false

abbrev pub breaks_by : Option Rule → Flags → Option BitsKind → List Outcome → Bool
breaks_by (Some (rule.Binary o)) flags (Some k) xs = breaks_pair flags o (width_of k) xs
breaks_by (Some (rule.IntegerCast cast.Truncate)) flags (Some k) xs = breaks_cut flags (width_of k) xs
breaks_by r flags k xs = false

abbrev pub breaks_flags : Header → List Outcome → Bool
breaks_flags h xs = breaks_by (rule_of h.name) (flags_of h) (result_kind h) xs

-- ---- each operation of a tree
abbrev mutual
  -- P holds for the head of each operation
  pub Each : (Header → Type 0) → Operation → Type 0
  Each P (op h rs) = P h × EachInRegions P rs

  pub EachInRegions : (Header → Type 0) → RegionsOf (List ℕ) TypeTerm AttrTerm → Type 0
  EachInRegions P no_regions = Unit {0}
  EachInRegions P (region g rs) = EachInRegion P g × EachInRegions P rs

  pub EachInRegion : (Header → Type 0) → RegionOf (List ℕ) TypeTerm AttrTerm → Type 0
  EachInRegion P empty = Unit {0}
  EachInRegion P (block args os) = EachAmong P os

  pub EachAmong : (Header → Type 0) → OpsOf (List ℕ) TypeTerm AttrTerm → Type 0
  EachAmong P no_ops = Unit {0}
  EachAmong P (next o os) = Each P o × EachAmong P os

abbrev mutual
  -- P holds for the arguments of each block, by the id of its operation and the number of its region
  pub EachBlock : (ℕ → ℕ → List TypeTerm → Type 0) → Operation → Type 0
  EachBlock Q (op h rs) = BlocksInRegions Q h.id 0 rs

  pub BlocksInRegions : (ℕ → ℕ → List TypeTerm → Type 0) → ℕ → ℕ → RegionsOf (List ℕ) TypeTerm AttrTerm → Type 0
  BlocksInRegions Q y r no_regions = Unit {0}
  BlocksInRegions Q y r (region g rs) = BlocksInRegion Q y r g × BlocksInRegions Q y (r + 1) rs

  pub BlocksInRegion : (ℕ → ℕ → List TypeTerm → Type 0) → ℕ → ℕ → RegionOf (List ℕ) TypeTerm AttrTerm → Type 0
  BlocksInRegion Q y r empty = Unit {0}
  BlocksInRegion Q y r (block args os) = Q y r args × BlocksAmong Q os

  pub BlocksAmong : (ℕ → ℕ → List TypeTerm → Type 0) → OpsOf (List ℕ) TypeTerm AttrTerm → Type 0
  BlocksAmong Q no_ops = Unit {0}
  BlocksAmong Q (next o os) = EachBlock Q o × BlocksAmong Q os

-- ---- outcomes that fit

-- the operation is defined, and its result is its outcome
abbrev pub Fits : Assignment → ℕ → Header → Type 0
Fits a x h = makes h (map a h.operands) ≡ Some (a (Result x 0))

-- the operation is defined, its operands break its flags, and its result is poison
abbrev pub Breaks : Assignment → ℕ → Header → Type 0
Breaks a x h = (breaks_flags h (map a h.operands) ≡ true) × (is_some (makes h (map a h.operands)) ≡ true) × (a (Result x 0) ≡ None)

-- the result is the outcome if the operands don't break the flags, and poison otherwise
abbrev pub Obeys : Assignment → ℕ → Header → Type 0
Obeys a x h = (Fits a x h × (breaks_flags h (map a h.operands) ≡ false)) ⊎ Breaks a x h

-- An executed arithmetic operation obeys; other results are free. Outcomes may therefore describe a tree during a
-- run: an operation that hasn't run, or isn't well-formed, counts as not executed and need not be defined.
abbrev pub FitsDone : Assignment → (ℕ → Bool) → Header → Type 0
FitsDone a done h = done h.id ≡ true → is_arithmetic h ≡ true → Obeys a h.id h

-- all operations of the tree do so
abbrev pub FitsAll : Assignment → (ℕ → Bool) → Operation → Type 0
FitsAll a done t = Each (FitsDone a done) t

-- a list of operations, the first with id n, is defined and has its outcomes
abbrev pub FitsEach : Assignment → ℕ → List Operation → Type 0
FitsEach a n [] = Unit {0}
FitsEach a n (o ∷ os) = Fits a n (head o) × FitsEach a (n + 1) os

-- an outcome is of a type: poison is of each type, and a number is of the type of its kind, if it is in range
abbrev pub IsOfType : TypeTerm → Outcome → Type 0
IsOfType ty None = Unit {0}
IsOfType ty (Some k) = (kind_of ty ≡ Some k.0) × (is_bits k.0 k.1 ≡ true)

-- the outcomes of results, and of arguments, are of their types
abbrev pub ResultsOfTypes : Assignment → Header → Type 0
ResultsOfTypes a h = (k : ℕ) (ty : TypeTerm) → slice_get h.results k ≡ Some ty → IsOfType ty (a (Result h.id k))

abbrev pub ArgumentsOfTypes : Assignment → ℕ → ℕ → List TypeTerm → Type 0
ArgumentsOfTypes a y r args = (k : ℕ) (ty : TypeTerm) → slice_get args k ≡ Some ty → IsOfType ty (a (Arg y r k))

-- the outcomes of all values of a tree are of their types
abbrev pub AreOfTypes : Assignment → Operation → Type 0
AreOfTypes a t = Each (ResultsOfTypes a) t × EachBlock (ArgumentsOfTypes a) t

-- the outcomes of a list of operations, the first with id n, are of their types
abbrev pub TypedEach : Assignment → ℕ → List Operation → Type 0
TypedEach a n [] = Unit {0}
TypedEach a n (o ∷ os) = ((k : ℕ) (ty : TypeTerm) → slice_get (head o).results k ≡ Some ty → IsOfType ty (a (Result n k))) × TypedEach a (n + 1) os
