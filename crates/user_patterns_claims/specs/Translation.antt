-- A pattern as claims. Each place of the pattern has an expression that computes its value, and a flag for its
-- poison. There is one claim for each set of poison variables.
use Rattle.std.specs.Prelude.{ℕ, zero, suc, ◌+◌, ◌-◌, ◌*◌, ◌/◌, ◌%◌, ◌==◌, List, [], ◌∷◌, ◌++◌, map, length, Bool, true, not, eqb, nat_le, nat_lt, if◌then◌else◌, Option, Some, None}
use Rattle.std.specs.List.{list_any}
use Rattle.dialects_int.specs.declared.operations.Arithmetic.TheVariants as op
use Rattle.user_patterns_check.specs.Outcomes.{given}
use Rattle.user_patterns_data.specs.declared.pattern.PatternType.{PatternType}
use Rattle.user_patterns_data.specs.declared.pattern.Expression as registry
use Rattle.user_patterns_data.specs.declared.pattern.Expression.TheVariants as op_form
use Rattle.user_patterns_data.specs.declared.pattern.PatternOp as matched
use Rattle.user_patterns_data.specs.declared.pattern.Literal.{Literal}
use Rattle.user_patterns_data.specs.declared.pattern.ExtraConstant.{ExtraConstant}
use Rattle.user_patterns_data.specs.declared.pattern.ExtraConstant.TheVariants as extra
use Rattle.user_patterns_data.specs.declared.pattern.ConstantExpression.{ConstantExpression}
use Rattle.user_patterns_data.specs.declared.pattern.ConstantExpression.TheVariants as number
use Rattle.user_patterns_data.specs.declared.pattern.NewValue.{NewValue}
use Rattle.user_patterns_data.specs.declared.pattern.NewValue.TheVariants as new
use Rattle.user_patterns_data.specs.Shapes.{PatternModel}
use Rattle.width_claims.specs.declared.form.Form.TheVariants as form
use Rattle.width_claims.specs.declared.form.Expr.{Expr}
use Rattle.width_claims.specs.declared.width.Narrower.{Narrower}
use Rattle.width_claims.specs.Emission.{Claim, claim_of}
use Rattle.user_patterns_instructions.specs.declared.operand.Poison.{Poison}
use Rattle.user_patterns_instructions.specs.declared.operand.Poison.TheVariants as poison
use Rattle.user_patterns_instructions.specs.declared.operand.Operand.{Operand}
use Rattle.user_patterns_instructions.specs.declared.instruction.Instruction.{Instruction}
use Rattle.user_patterns_instructions.specs.declared.instruction.Instruction.TheVariants as instruction
use Rattle.user_patterns_claims.specs.declared.aim.Aim.{Aim}
use Rattle.user_patterns_claims.specs.declared.aim.Aim.TheVariants as aim
use Rattle.user_patterns_instructions.specs.Expressions.{type_at, claim_types, narrower_types, Made, push_expr, literal_form, operand, unknown, operand_at, Result, pair_result, divide_result, compare_result, select_result, resize_result}

-- ---- instructions

-- the expressions so far, the operand at each place, and the places of expressions that must be 1
pub record State : Type 0 where
  pub exprs : List Expr
  pub operands : List Operand
  pub conditions : List ℕ

abbrev pub with_result : State → Result → State
with_result s r = record { exprs = r.0; operands = s.operands ++ (r.1 ∷ []); conditions = s.conditions }

abbrev pub with_some : State → Option Result → Option State
with_some s r = given r (λ r. Some (with_result s r))

-- a condition must be known and not 0
abbrev pub with_condition : State → Operand → Made → State
with_condition s x m = record { exprs = m.0; operands = s.operands ++ (x ∷ []); conditions = s.conditions ++ (m.1 ∷ []) }

abbrev pub required : State → Operand → Poison → Option State
required s x poison.Never = Some (with_condition s x (push_expr s.exprs 0 (form.Less 0 x.value)))
required s x _ = None

-- a number n is a power of two if and only if n - 1 is less than the exclusive disjunction of n and n - 1
abbrev pub power_test : ℕ → Made → Made
power_test i m = push_expr m.0 0 (form.Less i m.1)

abbrev pub power_bits : ℕ → ℕ → Made → Made
power_bits i t m = power_test m.1 (push_expr m.0 t (form.ExclusiveOr i m.1))

abbrev pub power_less : ℕ → ℕ → Made → Made
power_less i t m = power_bits i t (push_expr m.0 t (form.Subtract i m.1))

abbrev pub power_made : ℕ → ℕ → List Expr → Made
power_made i t ps = power_less i t (push_expr ps t (form.Literal 1))

-- the operand of a logarithm must be a power of two, and the logarithm isn't known
abbrev pub log_state : State → Operand → Poison → Option State
log_state s x poison.Never = Some (with_condition s unknown (power_made x.value x.ty s.exprs))
log_state s x _ = None

abbrev pub literal_made : Made → Literal → ℕ → Result
literal_made m l t = (m.0, record { value = m.1; poison = poison.Never; ty = t; written = Some l; known = true })

abbrev pub literal_result : Literal → List Expr → ℕ → Result
literal_result l ps t = literal_made (push_expr ps t (literal_form l)) l t

-- the greatest power of two that is at most n; the first number bounds the steps
abbrev pub top_power : ℕ → ℕ → ℕ
top_power zero n = 1
top_power (suc k) n = if nat_le 2 n then 2 * top_power k (n / 2) else 1

-- 0 and 1 are in range of each type; for another literal it is assumed that its type has this power of two
abbrev pub with_fitting : State → Result → Made → State
with_fitting s r m = record { exprs = m.0; operands = s.operands ++ (r.1 ∷ []); conditions = s.conditions ++ (m.1 ∷ []) }

abbrev pub power_there : Made → Made
power_there m = push_expr m.0 0 (form.Less 0 m.1)

abbrev pub with_number : Bool → State → Literal → ℕ → Result → State
with_number small s l t r = if small then with_result s r else with_fitting s r (power_there (push_expr r.0 t (form.Literal (top_power l.magnitude l.magnitude))))

abbrev pub number_state : State → Literal → ℕ → State
number_state s l t = with_number (nat_lt l.magnitude 2) s l t (literal_result l s.exprs t)

abbrev pub unchanged : List Expr → Option Operand → Option Result
unchanged ps r = given r (λ x. Some (ps, x))

module _ (ks : List PatternType) (ns : List Narrower) where
  -- the operand of an instruction
  abbrev pub result_of : Instruction → List Operand → List Expr → Option Result
  result_of (instruction.Number l) os ps = None
  result_of (instruction.Copy i) os ps = given (operand_at os i) (λ x. Some (ps, x))
  result_of (instruction.Pair o i j) os ps = given (operand_at os i) (λ x. given (operand_at os j) (λ y. pair_result o x y ps))
  result_of (instruction.Divide i j) os ps = given (operand_at os i) (λ x. given (operand_at os j) (λ y. unchanged ps (divide_result x y)))
  result_of (instruction.Compare q i j) os ps = given (operand_at os i) (λ x. given (operand_at os j) (λ y. compare_result q x y ps))
  result_of (instruction.Select c i j) os ps = given (operand_at os c) (λ b. given (operand_at os i) (λ x. given (operand_at os j) (λ y. select_result b x y ps)))
  result_of (instruction.Resize c u i) os ps = given (operand_at os i) (λ x. given (type_at ks u) (λ t. resize_result ns c t x ps))
  result_of (instruction.Require i) os ps = None
  result_of (instruction.Width t) os ps = None
  result_of (instruction.Log i) os ps = None

  unfoldable pub translated : Instruction → State → Option State
  translated (instruction.Number l) s = given (type_at ks l.ty) (λ t. Some (number_state s l t))
  translated (instruction.Require i) s = given (operand_at s.operands i) (λ x. required s x x.poison)
  translated (instruction.Log i) s = given (operand_at s.operands i) (λ x. log_state s x x.poison)
  translated n s = with_some s (result_of n s.operands s.exprs)

  abbrev pub all_translated : List Instruction → State → Option State
  all_translated [] s = Some s
  all_translated (n ∷ more) s = given (translated n s) (all_translated more)

-- the instructions of a pattern
abbrev pub extra_instruction : ExtraConstant → Instruction
extra_instruction (extra.Literal l) = instruction.Number l
extra_instruction (extra.SameAs i) = instruction.Copy i

abbrev pub number_instruction : ConstantExpression → Instruction
number_instruction (number.Literal l) = instruction.Number l
number_instruction (number.Width t) = instruction.Width t
number_instruction (number.Binary o i j) = instruction.Pair o i j
number_instruction (number.Compare q i j) = instruction.Compare q i j
number_instruction (number.Log2 i) = instruction.Log i
number_instruction (number.Require i) = instruction.Require i

abbrev pub form_instruction : ℕ → registry.Expression → Instruction
form_instruction t (op_form.Binary o i j) = instruction.Pair o i j
form_instruction t (op_form.Compare q i j) = instruction.Compare q i j
form_instruction t (op_form.Select c i j) = instruction.Select c i j
form_instruction t (op_form.IntegerCast c i) = instruction.Resize c t i
form_instruction t (op_form.IndexCast c i) = instruction.Resize c t i

-- an old division may be undefined: then the new side may compute anything
abbrev pub old_form : ℕ → registry.Expression → Instruction
old_form t (op_form.Binary op.DivideSigned i j) = instruction.Divide i j
old_form t f = form_instruction t f

abbrev pub old_instruction : matched.PatternOp → Instruction
old_instruction p = old_form p.ty p.form

abbrev pub new_instruction : NewValue → Instruction
new_instruction (new.Operation p) = form_instruction p.ty p.form
new_instruction (new.Constant i t) = instruction.Copy i

abbrev pub given_instructions : PatternModel → List Instruction
given_instructions p = map extra_instruction p.extra ++ map number_instruction p.given

abbrev pub old_instructions : PatternModel → List Instruction
old_instructions p = map old_instruction p.old

abbrev pub new_instructions : PatternModel → List Instruction
new_instructions p = map new_instruction p.new

-- ---- variables

-- a set of variables is a number: each variable that isn't a constant has one of its bits
abbrev pub bit_flag : ℕ → Poison
bit_flag b = if b == 1 then poison.Always else poison.Never

abbrev pub variable_result : Made → Poison → ℕ → Result
variable_result m f t = (m.0, operand m.1 f t)

abbrev pub with_variable : State → ℕ → Poison → ℕ → State
with_variable s i f t = with_result s (variable_result (push_expr s.exprs t (form.Value i)) f t)

module _ (p : PatternModel) where
  abbrev pub is_constant : ℕ → Bool
  is_constant i = list_any (eqb i) p.constants

  -- the variables from place i on
  abbrev pub variables : ℕ → List ℕ → ℕ → State → Option State
  variables i [] set s = Some s
  variables i (u ∷ tys) set s =
      given (type_at p.value_types u) (λ t.
      if is_constant i then variables (i + 1) tys set (with_variable s i poison.Never t)
      else variables (i + 1) tys (set / 2) (with_variable s i (bit_flag (set % 2)) t))

  -- the number of sets
  abbrev pub set_count : ℕ → List ℕ → ℕ
  set_count i [] = 1
  set_count i (u ∷ tys) = if is_constant i then set_count (i + 1) tys else 2 * set_count (i + 1) tys

abbrev pub first_state : State
first_state =
    record {
      exprs = record { form = form.Literal 0; ty = 0 } ∷ record { form = form.Literal 1; ty = 0 } ∷ [];
      operands = [];
      conditions = [];
    }

-- ---- both sides

-- the expressions, and the places of two values that are claimed to be equal
abbrev pub Sides : Type 0
Sides = List Expr × ℕ × ℕ

-- the new value is known and the old one
abbrev pub both_true : Made → Made → Made
both_true m n = push_expr n.0 0 (form.And m.1 n.1)

abbrev pub known_and : Poison → Made → Made
known_and poison.Never m = m
known_and poison.Always m = (m.0, 0)
known_and (poison.When g) m = both_true m (push_expr m.0 0 (form.ExclusiveOr g 1))

abbrev pub refined : Operand → Operand → List Expr → Made
refined x y ps = known_and y.poison (push_expr ps 0 (form.Same x.value y.value))

abbrev pub is_one : Made → Sides
is_one m = (m.0, m.1, 1)

abbrev pub poison_or : ℕ → Made → Made
poison_or f m = push_expr m.0 0 (form.Or f m.1)

-- the old value is poison, or the new value refines it; there is nothing to claim if the old value is always poison
abbrev pub sides_by : Poison → Poison → Operand → Operand → List Expr → Option Sides
sides_by poison.Always g x y ps = None
sides_by (poison.When f) g x y ps = Some (is_one (poison_or f (refined x y ps)))
sides_by poison.Never poison.Never x y ps = Some (ps, x.value, y.value)
sides_by poison.Never g x y ps = Some (is_one (refined x y ps))

abbrev pub sides : Operand → Operand → List Expr → Option Sides
sides x y ps = sides_by x.poison y.poison x y ps

-- a goal: nothing, or a claim
abbrev pub Goal : Type 0
Goal = Option Claim

abbrev pub claim_from : PatternModel → List ℕ → Option Sides → Goal
claim_from p hs None = None
claim_from p hs (Some r) = Some (claim_of (length p.values) (claim_types p.value_types) (narrower_types p.value_types p.type_constraints) r.0 hs r.1 r.2)

abbrev pub goal_from : PatternModel → State → Operand → Operand → Option Goal
goal_from p s x y = if x.ty == y.ty then Some (claim_from p s.conditions (sides x y s.exprs)) else None

-- the goal for a set of poison variables, if the pattern can be translated
abbrev pub goal_of : PatternModel → ℕ → Option Goal
goal_of p set =
    let ns = narrower_types p.value_types p.type_constraints in
    given (variables p 0 p.values set first_state) (λ a.
    given (all_translated p.value_types ns (given_instructions p) a) (λ b.
    given (all_translated p.value_types ns (old_instructions p) b) (λ c.
    given (operand_at (State.operands c) p.root) (λ x.
    given (all_translated p.value_types ns (new_instructions p) c) (λ d.
    given (operand_at (State.operands d) p.result) (λ y. goal_from p d x y))))))

-- ---- the old side is never a number

-- the old value is poison; there is nothing to claim if it is always poison
abbrev pub empty_sides : Poison → List Expr → Option Sides
empty_sides poison.Always ps = None
empty_sides (poison.When f) ps = Some (ps, f, 1)
empty_sides poison.Never ps = Some (ps, 0, 1)

abbrev pub empty_goal_from : PatternModel → State → Operand → Option Goal
empty_goal_from p s x = Some (claim_from p s.conditions (empty_sides x.poison s.exprs))

abbrev pub empty_goal_of : PatternModel → ℕ → Option Goal
empty_goal_of p set =
    let ns = narrower_types p.value_types p.type_constraints in
    given (variables p 0 p.values set first_state) (λ a.
    given (all_translated p.value_types ns (given_instructions p) a) (λ b.
    given (all_translated p.value_types ns (old_instructions p) b) (λ c.
    given (operand_at (State.operands c) p.root) (λ x. empty_goal_from p c x))))

-- the goal of an aim for a set of poison variables
abbrev pub goal_for : Aim → PatternModel → ℕ → Option Goal
goal_for aim.Refines p set = goal_of p set
goal_for aim.IsEmpty p set = empty_goal_of p set
