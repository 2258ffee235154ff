-- The answer to `why` with a user pattern: the first test that fails, with the part of the pattern, what the part
-- expects, and what the module has.
use Rattle.std.specs.Prelude.{ℕ, zero, suc, ◌+◌, ◌-◌, List, [], ◌∷◌, ◌++◌, length, map, nat_le, ◌==◌, Option, Some, None, codes, option_map, option_and_then, position, slice_get, if◌then◌else◌}
use Rattle.std.specs.Fmt.{decimal}
use Rattle.ir_event.specs.types.Terms.{AttrTerm, TypeTerm, attr_term, name_term, type_term}
use Rattle.ir_event.specs.types.Things.{ContextModel}
use Rattle.ir_event.specs.types.declared.bits.Bits.{Bits}
use Rattle.ir_event.specs.types.declared.bits.BitsKind.{BitsKind}
use Rattle.ir_event.specs.store.Nodes.{Node}
use Rattle.ir_event.specs.trees.declared.value.Value.{Value}
use Rattle.ir_event.specs.trees.declared.value.Value.TheVariants.{Result, Arg}
use Rattle.ir_event.specs.trees.Ids.{find}
use Rattle.ir_event.specs.trees.Maps.{map_head}
use Rattle.ir_event.specs.trees.Meaning.{Operation}
use Rattle.ir_event.specs.trees.Tree.{HeadOf, head}
use Rattle.ir_event.specs.Modules.{Module}
use Rattle.user_patterns_data.specs.Names.{name_of, operands_of, predicate_number, predicate_of}
use Rattle.user_patterns_data.specs.Planning.{extra_place, old_place}
use Rattle.user_patterns_data.specs.Shapes.{PatternModel}
use Rattle.user_patterns_data.specs.declared.pattern.ConstantExpression.{ConstantExpression}
use Rattle.user_patterns_data.specs.declared.pattern.ConstantExpression.TheVariants as number
use Rattle.user_patterns_data.specs.declared.pattern.PatternOp.{PatternOp}
use Rattle.user_patterns_data.specs.declared.pattern.PatternType.{PatternType}
use Rattle.user_patterns_data.specs.declared.pattern.PatternType.TheVariants as pattern_types
use Rattle.greedy.specs.own.Mismatches.{user_pattern_mismatch}
use Rattle.greedy.specs.own.Numbers.{found_number, kind_at, numbers_in, predicate_at}
use Rattle.greedy.specs.own.declared.mismatch.Mismatch.{Mismatch}
use Rattle.greedy.specs.own.declared.mismatch.Mismatch.TheVariants as fails
use Rattle.mlir_work_registry.specs.Rows.{kind_text, value_text as number_text}
use Rattle.mlir_work_registry.specs.Registry.{Kept}
use Rattle.mlir_work_script_base.specs.Values.{op_text, value_text}

-- ---- places

-- the pattern op at a place of the left side
abbrev pub pattern_op_at : PatternModel → ℕ → Option PatternOp
pattern_op_at p k = if nat_le (old_place p) k then slice_get p.old (k - old_place p) else None

-- what computes the number at a place, or tests numbers there
abbrev pub computed_at : PatternModel → ℕ → Option ConstantExpression
computed_at p k = if nat_le (extra_place p + length p.extra) k then slice_get p.given (k - (extra_place p + length p.extra)) else None

-- the first index of a number in a list
abbrev pub index_of : ℕ → List ℕ → Option ℕ
index_of k js = position (λ j. j == k) js

abbrev pub use_by : ℕ → Option ℕ → Option (ℕ × ℕ)
use_by j None = None
use_by j (Some i) = Some (j, i)

abbrev pub or_use : Option (ℕ × ℕ) → Option (ℕ × ℕ) → Option (ℕ × ℕ)
or_use None other = other
or_use (Some u) other = Some u

-- the use of a place that a match reaches first, that of the last pattern op with one: the place of the pattern op, and
-- the index of the operand; the first pattern op has place j
abbrev pub use_of : ℕ → ℕ → List PatternOp → Option (ℕ × ℕ)
use_of k j [] = None
use_of k j (o ∷ os) = or_use (use_of k (j + 1) os) (use_by j (index_of k (operands_of o.form)))

-- ---- paths

-- `operand 1 `
abbrev pub operand_text : ℕ → List ℕ
operand_text i = codes "operand " ++ (decimal i ++ codes " ")

abbrev pub path_below : (ℕ → List ℕ) → Option (ℕ × ℕ) → List ℕ
path_below above None = []
path_below above (Some u) = above u.0 ++ operand_text u.1

-- the operands that lead from the root to a place within so many levels
unfoldable pub path_text : PatternModel → ℕ → ℕ → List ℕ
path_text p zero k = []
path_text p (suc levels) k = if k == p.root then [] else path_below (path_text p levels) (use_of k (old_place p) p.old)

-- ---- values

abbrev pub Header : Type 0
Header = HeadOf (List ℕ) TypeTerm AttrTerm

-- the meaning of a node that is read
abbrev pub header_in : ContextModel → Node → Header
header_in c n = map_head (name_term c) (type_term c) (attr_term c) n.head

-- the operation that defines a value
abbrev pub header_at : Operation → Option Value → Option Header
header_at t None = None
header_at t (Some (Arg x r k)) = None
header_at t (Some (Result x k)) = option_map head (find x t)

abbrev pub operands_in : Option Header → List Value
operands_in None = []
operands_in (Some h) = h.operands

-- the operands of the operation that defines a value
abbrev pub operands_at : Operation → Option Value → List Value
operands_at t v = operands_in (header_at t v)

abbrev pub value_below : Operation → (ℕ → Option Value) → Option (ℕ × ℕ) → Option Value
value_below t above None = None
value_below t above (Some u) = slice_get (operands_at t (above u.0)) u.1

-- the value at a place, which a match at operation x has within so many levels
unfoldable pub value_at : Operation → PatternModel → ℕ → ℕ → ℕ → Option Value
value_at t p x zero k = None
value_at t p x (suc levels) k =
    if k == p.root then Some (Result x 0) else value_below t (value_at t p x levels) (use_of k (old_place p) p.old)

-- ---- words

-- the word of a predicate by its number
abbrev pub number_word : ℕ → List ℕ
number_word n =
    if n == 0 then codes "eq"
    else if n == 1 then codes "ne"
    else if n == 2 then codes "slt"
    else if n == 3 then codes "sle"
    else if n == 4 then codes "sgt"
    else if n == 5 then codes "sge"
    else if n == 6 then codes "ult"
    else if n == 7 then codes "ule"
    else if n == 8 then codes "ugt"
    else if n == 9 then codes "uge"
    else codes "none"

abbrev pub predicate_word : Option ℕ → List ℕ
predicate_word None = codes "none"
predicate_word (Some n) = number_word n

abbrev pub value_or_nothing : Option Value → List ℕ
value_or_nothing None = []
value_or_nothing (Some v) = value_text v

-- a name and a space
abbrev pub name_text : Option Header → List ℕ
name_text None = []
name_text (Some h) = h.name ++ codes " "

-- a first result by its operation, `arith.addi #3`
abbrev pub result_text : Operation → ℕ → ℕ → List ℕ
result_text t x k = if k == 0 then name_text (header_at t (Some (Result x k))) ++ op_text x else value_text (Result x k)

-- a value by the operation that defines it, if the value is a first result
abbrev pub definition_text : Operation → Option Value → List ℕ
definition_text t None = []
definition_text t (Some (Arg x r k)) = value_text (Arg x r k)
definition_text t (Some (Result x k)) = result_text t x k

-- `expected A found B`
abbrev pub expected_text : List ℕ → List ℕ → List ℕ
expected_text a b = codes "expected " ++ (a ++ (codes " found " ++ b))

abbrev pub counts_text : ℕ → ℕ → List ℕ
counts_text a b = (codes "expected " ++ decimal a) ++ (codes " operands found " ++ decimal b)

-- ---- numbers

-- a number with its kind, or none
abbrev pub Number : Type 0
Number = Option (BitsKind × ℕ)

abbrev pub number_view : Option Bits → Number
number_view b = option_map (λ (b : Bits). (b.kind, b.value)) b

abbrev pub numbers_view : List (Option Bits) → List Number
numbers_view bs = map number_view bs

abbrev pub number_or_none : Option Number → List ℕ
number_or_none None = codes "none"
number_or_none (Some None) = codes "none"
number_or_none (Some (Some k)) = number_text k.0 k.1

-- the number at a place
abbrev pub number_in : List Number → ℕ → List ℕ
number_in env k = number_or_none (slice_get env k)

abbrev pub found_or : Operation → Value → Number → List ℕ
found_or t v None = definition_text t (Some v)
found_or t v (Some k) = number_text k.0 k.1

-- the number of a value, if a verified constant defines it, or else its definition
abbrev pub found_text : Operation → Option Value → List ℕ
found_text t None = []
found_text t (Some v) = found_or t v (found_number t v)

-- two numbers in brackets
abbrev pub pair_text : List Number → ℕ → ℕ → List ℕ
pair_text env i j = codes "(" ++ (number_in env i ++ (codes ", " ++ (number_in env j ++ codes ")")))

abbrev pub comparison_text : List Number → Option ConstantExpression → List ℕ
comparison_text env (Some (number.Compare o i j)) = predicate_word (Some (predicate_number o)) ++ pair_text env i j
comparison_text env _ = []

-- a number isn't a power of two
abbrev pub power_text : List Number → ℕ → List ℕ
power_text env k = codes "where power_of_two(" ++ (number_in env k ++ codes ")")

-- the comparison at a place isn't true
abbrev pub requirement_text : PatternModel → List Number → ℕ → List ℕ
requirement_text p env k = codes "where " ++ comparison_text env (computed_at p k)

-- a condition with its numbers
abbrev pub condition_text : PatternModel → List Number → Option ConstantExpression → List ℕ
condition_text p env (Some (number.Log2 k)) = power_text env k
condition_text p env (Some (number.Require k)) = requirement_text p env k
condition_text p env _ = []

-- ---- types

-- the number of the type at a place
abbrev pub type_number : PatternModel → ℕ → Option ℕ
type_number p k = if nat_le (old_place p) k then option_map PatternOp.ty (pattern_op_at p k) else slice_get p.values k

-- the index of the first pattern op with a type number
abbrev pub index_with : ℕ → List PatternOp → Option ℕ
index_with n os = position (λ (o : PatternOp). o.ty == n) os

-- the index of a variable, or else the place of a pattern op by its index
abbrev pub first_place : ℕ → Option ℕ → Option ℕ → ℕ
first_place begins (Some k) other = k
first_place begins None (Some k) = begins + k
first_place begins None None = 0

-- the first place with a type number, among the variables and then among the matched operations
abbrev pub first_with : PatternModel → ℕ → ℕ
first_with p n = first_place (old_place p) (index_of n p.values) (index_with n p.old)

abbrev pub kind_or_another : Option BitsKind → List ℕ
kind_or_another None = codes "another"
kind_or_another (Some k) = kind_text k

-- the type of a value
abbrev pub type_text : Operation → Option Value → List ℕ
type_text t None = []
type_text t (Some v) = kind_or_another (kind_at t v)

-- ---- the first test that fails, at operation x

-- the name of the operation that a pattern op matches
abbrev pub op_name : Option PatternOp → List ℕ
op_name None = []
op_name (Some o) = name_of o.form

-- the predicate that the pattern expects at a place
abbrev pub expected_predicate : PatternModel → ℕ → Option ℕ
expected_predicate p k = option_and_then (λ (o : PatternOp). predicate_of o.form) (pattern_op_at p k)

-- the levels of a left side, with the root
abbrev pub most_levels : ℕ
most_levels = 5

abbrev pub path : PatternModel → ℕ → List ℕ
path p k = path_text p most_levels k

module _ (p : PatternModel) (m : Module) (x : ℕ) where
  -- the value at a place
  abbrev pub matched_value : ℕ → Option Value
  matched_value k = value_at m.tree p x most_levels k

  -- the operation at a place isn't what these bytes say
  abbrev pub unexpected_text : ℕ → List ℕ → List ℕ
  unexpected_text k bytes = path p k ++ expected_text bytes (definition_text m.tree (matched_value k))

  -- the predicate that the pattern expects at a place, and that of the operation there
  abbrev pub predicates_text : ℕ → List ℕ
  predicates_text k = expected_text (predicate_word (expected_predicate p k)) (predicate_word (predicate_at m.tree (matched_value k)))

  -- the operand at place j isn't the value
  abbrev pub operand_pair_text : ℕ → ℕ → Value → List ℕ
  operand_pair_text i j v = operand_text i ++ expected_text (value_or_nothing (matched_value j)) (value_text v)

  -- operand i at place j, and the value that is found
  abbrev pub operand_or_counts : ℕ → ℕ → ℕ → Option ℕ → Option Value → List ℕ
  operand_or_counts a b i None v = counts_text a b
  operand_or_counts a b i (Some j) None = counts_text a b
  operand_or_counts a b i (Some j) (Some v) = operand_pair_text i j v

  -- operands with these places, of the operation that defines a value
  abbrev pub operands_text : ℕ → List ℕ → List Value → List ℕ
  operands_text i js vs = operand_or_counts (length js) (length vs) i (slice_get js i) (slice_get vs i)

  abbrev pub op_operands_text : ℕ → Option PatternOp → List Value → List ℕ
  op_operands_text i None vs = []
  op_operands_text i (Some o) vs = operands_text i (operands_of o.form) vs

  abbrev pub bound_type_text : ℕ → Option PatternType → List ℕ
  bound_type_text n None = []
  bound_type_text n (Some (pattern_types.Concrete k)) = kind_text k
  bound_type_text n (Some (pattern_types.Variable v)) = type_text m.tree (matched_value (first_with p n))

  -- the type that is bound to a type number
  abbrev pub expected_type_text : Option ℕ → List ℕ
  expected_type_text None = []
  expected_type_text (Some n) = bound_type_text n (slice_get p.value_types n)

  -- the type that the pattern expects at a place, and the type of the value there
  abbrev pub types_text : ℕ → List ℕ
  types_text k = expected_text (expected_type_text (type_number p k)) (type_text m.tree (matched_value k))

  -- the number that the pattern expects at a place, and what is found there
  abbrev pub numbers_text : List Number → ℕ → List ℕ
  numbers_text env k = expected_text (number_in env k) (found_text m.tree (matched_value k))

  -- the first failing test in words
  unfoldable pub mismatch_text : Option Mismatch → List ℕ
  mismatch_text None = codes "applies"
  mismatch_text (Some (fails.Operation k)) = unexpected_text k (op_name (pattern_op_at p k))
  mismatch_text (Some (fails.Predicate k)) = path p k ++ predicates_text k
  mismatch_text (Some (fails.Flags k)) = path p k ++ codes "expected none found overflowFlags"
  mismatch_text (Some (fails.Operand k i)) = path p k ++ op_operands_text i (pattern_op_at p k) (operands_at m.tree (matched_value k))
  mismatch_text (Some (fails.Constant k)) = unexpected_text k (codes "arith.constant")
  mismatch_text (Some (fails.NotVerified k)) = unexpected_text k (codes "verified")
  mismatch_text (Some (fails.Unknown k)) = unexpected_text k (codes "verified")
  mismatch_text (Some (fails.Type k)) = path p k ++ types_text k
  mismatch_text (Some fails.NotNumeric) = codes "expected integer or index"
  mismatch_text (Some fails.Types) = codes "other-type"
  mismatch_text (Some (fails.Number k)) = path p k ++ numbers_text (numbers_in m p x (length p.extra)) k
  mismatch_text (Some (fails.Constraint i)) = condition_text p (numbers_in m p x i) (computed_at p (extra_place p + i))
  mismatch_text (Some fails.Unbuildable) = codes "unbuildable"
  mismatch_text (Some fails.Results) = codes "results"
  mismatch_text (Some fails.IsRoot) = codes "root"

-- ---- the answer

-- `why #5 mine`
abbrev pub subject_text : ℕ → List ℕ → List ℕ
subject_text x name = codes "why " ++ (op_text x ++ (codes " " ++ name))

-- `why #5 mine operand 1 expected arith.constant found arith.addi #3`
unfoldable pub why_pattern : Kept → Module → ℕ → List ℕ
why_pattern k m x = subject_text x k.name ++ (codes " " ++ (mismatch_text k.rewrite_pattern m x (user_pattern_mismatch k.rewrite_pattern m x) ++ codes "\n"))
