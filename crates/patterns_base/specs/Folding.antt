-- Rules on values, their constants and their defining operations, and the expanding rules. The operations that a rule
-- makes are inserted before x; the first of them has the id n. The names in brackets are MLIR's.
use Rattle.std.specs.Prelude.{ℕ, ◌+◌, List, [], ◌∷◌, codes, map, Bool, ◌&&◌, ◌||◌, not, eqb, if◌then◌else◌, Option}
use Rattle.std.specs.Prelude.{Some, None}
use Rattle.std.specs.List.{list_all}
use Rattle.ir_types.specs.Readings.{type_width}
use Rattle.ir_types.specs.Terms.{TypeTerm, IntegerOf}
use Rattle.ir_tree.specs.declared.value.Value.{Value}
use Rattle.ir_tree.specs.declared.value.Value.TheVariants.{Result}
use Rattle.ir_tree.specs.declared.place.Place.{Place}
use Rattle.ir_tree.specs.Tree.{head}
use Rattle.ir_tree.specs.Uses.{same_value}
use Rattle.ir_tree.specs.Meaning.{Operation}
use Rattle.op_registry.specs.Registry.{next_to}
use Rattle.patterns_laws.specs.integers.Arithmetic.{all_ones, difference_of, choice_of}
use Rattle.patterns_laws.specs.integers.Folds.{Known, fold_of}
use Rattle.ir_types.specs.SameTypes.{same_type}
use Rattle.rewriter_machine.specs.Contents.{Edit}
use Rattle.rewriter_machine.specs.Edits.{Make, Erase, SetOperand, SetAttr}
use Rattle.patterns_laws.specs.Made.{i1, i64, constant, binary, comparison, choice}
use Rattle.patterns_laws.specs.Keeps.{given, is_true_when_equal, swapped_predicate}
use Rattle.patterns_laws.specs.Words.{named, among, commutative, with_zero_as_right_identity, with_one_as_right_identity, self_inverse, idempotent}
use Rattle.patterns_laws.specs.Words.{remainders, associative, predicate_of_min_max, division_of_remainder}
use Rattle.patterns_base.specs.Looks.{Header, Two, Three, when, is_erasable, source, is_constant, known, is_known}
use Rattle.patterns_base.specs.Looks.{is_number, passes, two, three, predicate}
use Rattle.patterns_base.specs.Makes.{give, give_new, give_constant}

-- whether a known value has all bits set
abbrev pub is_all_ones : TypeTerm → Known → Bool
is_all_ones ty k = eqb k.1 (all_ones (type_width ty))

-- `t` is the tree, `n` the next free id, `o` the verified operation x, and `point` the place before x
module _ (t : Operation) (n : ℕ) (point : Place) (o : Operation) where
  abbrev h : Header
  h = head o

  abbrev x : ℕ
  x = h.id

  -- edits of x, if x has two operands and one result
  abbrev pub on_two : (Two → Option (List Edit)) → Option (List Edit)
  on_two f = given (two h) f

  -- edits of x, if x has three operands and one result
  abbrev pub on_three : (Three → Option (List Edit)) → Option (List Edit)
  on_three f = given (three h) f

  -- `erase-dead`: a dead operation is erased (`isOpTriviallyDead`)
  abbrev pub erase_dead : Option (List Edit)
  erase_dead = when (is_erasable t o) (Some (Erase x ∷ []))

  -- whether an operand isn't a constant, or its value is known; a constant that isn't verified is neither
  abbrev pub may_read : Value → Bool
  may_read v = not (is_constant t v) || is_known t v

  -- a known constant replaces the result
  abbrev pub folded_to : List TypeTerm → Option Known → Option (List Edit)
  folded_to (ty ∷ []) (Some k) = Some (give_constant point n x ty k.1)
  folded_to _ _ = None

  -- `fold-to-constant`: an operation that isn't a constant and folds over its constant operands becomes the constant
  -- (`Operation::fold`)
  abbrev pub fold_to_constant : Option (List Edit)
  fold_to_constant = when (not (named (codes "arith.constant") h.name) && list_all may_read h.operands)
      (folded_to h.results (fold_of h.name h.properties (map (known t) h.operands) h.results))

  -- swaps both operands in place
  abbrev pub swap : Two → List Edit
  swap p = SetOperand x 0 p.second ∷ SetOperand x 1 p.first ∷ []

  -- whether the first operand is a constant and the second isn't
  abbrev pub is_to_swap : Two → Bool
  is_to_swap p = is_known t p.first && not (is_constant t p.second)

  -- `swap-constant`: a constant moves to the second operand (`OpTrait::IsCommutative`)
  abbrev pub swap_constant : Option (List Edit)
  swap_constant = on_two (λ p. when (among commutative p.name && is_to_swap p) (Some (swap p)))

  -- `drop-zero`: a second operand 0 leaves the first operand (`AddIOp::fold` and similar)
  abbrev pub drop_zero : Option (List Edit)
  drop_zero = on_two (λ p. when (among with_zero_as_right_identity p.name && is_number t 0 p.second) (Some (give x p.first)))

  -- `drop-one`: a second operand 1 leaves the first operand (`MulIOp::fold`, `DivSIOp::fold`, `DivUIOp::fold`)
  abbrev pub drop_one : Option (List Edit)
  drop_one = on_two (λ p. when (among with_one_as_right_identity p.name && is_number t 1 p.second) (Some (give x p.first)))

  -- `drop-all-ones`: a second operand with all bits set leaves the first operand (`AndIOp::fold`)
  abbrev pub drop_all_ones : Option (List Edit)
  drop_all_ones = on_two (λ p.
      when (named (codes "arith.andi") p.name && passes (is_all_ones p.ty) (known t p.second)) (Some (give x p.first)))

  -- `cancel-itself`: a value and itself give 0 (`SubIOp::fold`, `XOrIOp::fold`)
  abbrev pub cancel_itself : Option (List Edit)
  cancel_itself = on_two (λ p.
      when (among self_inverse p.name && same_value p.first p.second) (Some (give_constant point n x p.ty 0)))

  -- `keep-itself`: a value and itself give the value (`OpTrait::IsIdempotent`, `MaxSIOp::fold` and similar)
  abbrev pub keep_itself : Option (List Edit)
  keep_itself = on_two (λ p. when (among idempotent p.name && same_value p.first p.second) (Some (give x p.first)))

  -- `zero-remainder`: a remainder by 1 is 0 (`RemSIOp::fold`, `RemUIOp::fold`)
  abbrev pub zero_remainder : Option (List Edit)
  zero_remainder =
      on_two (λ p. when (among remainders p.name && is_number t 1 p.second) (Some (give_constant point n x p.ty 0)))

  -- the constant c op d, and a op that constant
  abbrev pub regrouped : Two → Value → Known → Known → Option (List Edit)
  regrouped p a c d = given (fold_of p.name [] (Some c ∷ Some d ∷ []) (p.ty ∷ []))
      (λ k. Some (Make point (constant p.ty k.1) ∷ give_new point (n + 1) x (binary p.name p.ty a (Result n 0))))

  -- `regroup-constants`: (a op c) op d, with constants c and d, becomes a op (c op d) (`AddIAddConstant`,
  -- `MulIMulIConstant`)
  abbrev pub regroup_constants : Option (List Edit)
  regroup_constants = on_two (λ p. when (among associative p.name)
      (given (known t p.second) (λ d. given (source t p.name p.first) (λ y. given (two y) (λ q.
      given (known t q.second) (λ c. regrouped p q.first c d))))))

  -- `add-negative`: a - c, with a constant c, becomes a + (-c)
  abbrev pub add_negative : Option (List Edit)
  add_negative = on_two (λ p. when (named (codes "arith.subi") p.name)
      (given (known t p.second) (λ c.
      Some (Make point (constant p.ty (difference_of (type_width p.ty) 0 c.1))
      ∷ give_new point (n + 1) x (binary (codes "arith.addi") p.ty p.first (Result n 0))))))

  -- edits of a comparison, with the number of its predicate
  abbrev pub on_comparison : (Two → ℕ → Option (List Edit)) → Option (List Edit)
  on_comparison f = on_two (λ p. when (named (codes "arith.cmpi") p.name) (given (predicate h) (f p)))

  -- `compare-itself`: a comparison of a value and itself becomes true or false (`CmpIOp::fold`)
  abbrev pub compare_itself : Option (List Edit)
  compare_itself = on_comparison
      (λ p asks. when (same_value p.first p.second) (Some (give_constant point n x p.ty (is_true_when_equal asks))))

  -- `mirror-comparison`: a comparison whose first operand is a constant and whose second isn't is swapped and mirrored
  -- in place (`CmpIOp::fold`)
  abbrev pub mirror_comparison : Option (List Edit)
  mirror_comparison = on_comparison
      (λ p asks. when (is_to_swap p) (Some (SetAttr x (codes "predicate") (IntegerOf i64 (swapped_predicate asks)) ∷ swap p)))

  -- `compare-zero`: an unsigned comparison with 0 that is always true or always false becomes that truth value
  abbrev pub compare_zero : Option (List Edit)
  compare_zero = on_comparison (λ p asks.
      when (is_number t 0 p.second && (eqb asks 6 || eqb asks 9))
      (Some (give_constant point n x p.ty (if eqb asks 9 then 1 else 0))))

  -- edits of a select
  abbrev pub on_choice : (Three → Option (List Edit)) → Option (List Edit)
  on_choice f = on_three (λ p. when (named (codes "arith.select") p.name) (f p))

  -- `choose-same`: a select between a value and itself becomes the value (`SelectOp::fold`)
  abbrev pub choose_same : Option (List Edit)
  choose_same = on_choice (λ p. when (same_value p.second p.third) (Some (give x p.second)))

  -- `choose-known`: a select with a constant condition becomes the selected value (`SelectOp::fold`)
  abbrev pub choose_known : Option (List Edit)
  choose_known = on_choice (λ p. given (known t p.first) (λ c. Some (give x (choice_of c.1 p.second p.third))))

  -- `choose-truth`: a select between true and false becomes the condition (`SelectOp::fold`)
  abbrev pub choose_truth : Option (List Edit)
  choose_truth = on_choice
      (λ p. when (same_type p.ty i1 && (is_number t 1 p.second && is_number t 0 p.third)) (Some (give x p.first)))

  -- `choose-opposite`: a select on a negated condition becomes one on the condition, with both values swapped in place
  -- (`SelectNotCond`)
  abbrev pub choose_opposite : Option (List Edit)
  choose_opposite = on_choice (λ p.
      given (source t (codes "arith.xori") p.first) (λ y. given (two y) (λ q. when (is_number t 1 q.second)
      (Some (SetOperand x 0 q.first ∷ SetOperand x 1 p.third ∷ SetOperand x 2 p.second ∷ [])))))

  -- `expand-min-max`: a minimum or maximum becomes a comparison and a select (`MaxMinIOpConverter` of `arith-expand`)
  abbrev pub expand_min_max : Option (List Edit)
  expand_min_max = on_two (λ p. given (next_to p.name predicate_of_min_max) (λ asks.
      Some (Make point (comparison asks p.first p.second)
      ∷ give_new point (n + 1) x (choice p.ty (Result n 0) p.first p.second))))

  -- `expand-difference`: a - b becomes a + ((b xor -1) + 1)
  abbrev pub expand_difference : Option (List Edit)
  expand_difference = on_two (λ p. when (named (codes "arith.subi") p.name) (Some (
      Make point (constant p.ty (all_ones (type_width p.ty)))
      ∷ Make point (binary (codes "arith.xori") p.ty p.second (Result n 0))
      ∷ Make point (constant p.ty 1)
      ∷ Make point (binary (codes "arith.addi") p.ty (Result (n + 1) 0) (Result (n + 2) 0))
      ∷ give_new point (n + 4) x (binary (codes "arith.addi") p.ty p.first (Result (n + 3) 0)))))

  -- `expand-remainder`: a remainder becomes a - (a / b) * b
  abbrev pub expand_remainder : Option (List Edit)
  expand_remainder = on_two (λ p. given (next_to p.name division_of_remainder) (λ division. Some (
      Make point (binary division p.ty p.first p.second)
      ∷ Make point (binary (codes "arith.muli") p.ty (Result n 0) p.second)
      ∷ give_new point (n + 2) x (binary (codes "arith.subi") p.ty p.first (Result (n + 1) 0)))))
