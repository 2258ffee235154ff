-- A pattern and a tree in which it matches: muli(%a, c) => shli(%a, log2(c)).
use Rattle.std.specs.Prelude.{◌≡◌, ℕ, List, [], ◌∷◌, true, false, Some, None, codes}
use Rattle.ir_types.specs.declared.node.Sign.TheVariants.{Signless}
use Rattle.ir_types.specs.Terms.{TypeTerm, Integer, IntegerOf}
use Rattle.ir_tree.specs.declared.value.Value.{Value}
use Rattle.ir_tree.specs.declared.value.Value.TheVariants.{Result}
use Rattle.ir_tree.specs.Tree.{op, no_regions, region, block, next, no_ops}
use Rattle.ir_tree.specs.Meaning.{Operation}
use Rattle.dialects_int.specs.declared.operations.Arithmetic.TheVariants as arithmetic
use Rattle.patterns_laws.specs.Made.{constant, binary}
use Rattle.user_patterns_data.specs.declared.pattern.PatternType.TheVariants as ty
use Rattle.user_patterns_data.specs.declared.pattern.Expression.TheVariants as form
use Rattle.user_patterns_data.specs.declared.pattern.ConstantExpression.TheVariants as number
use Rattle.user_patterns_data.specs.declared.pattern.NewValue.TheVariants as new
use Rattle.user_patterns_data.specs.Shapes.{PatternModel}
use Rattle.user_patterns_data.specs.Planning.{planned}

abbrev pub i8 : TypeTerm
i8 = Integer Signless 8

-- the places: the value, the constant, its logarithm, the product, the new constant, the shift
abbrev pub times_power : PatternModel
times_power =
    record {
      types = 1;
      value_types = ty.Variable 0 ∷ [];
      values = 0 ∷ 0 ∷ [];
      constants = 1 ∷ [];
      extra = [];
      type_constraints = [];
      given = number.Log2 1 ∷ [];
      old = record { form = form.Binary arithmetic.Multiply 0 1; bare = false; ty = 0 } ∷ [];
      root = 3;
      new = new.Constant 2 0 ∷ new.Operation (record { form = form.Binary arithmetic.ShiftLeft 0 4; bare = false; ty = 0 }) ∷ [];
      result = 5;
    }

-- an operation with an id and a name, without properties
abbrev pub small : ℕ → List ℕ → List Value → Operation
small x name operands = op (record { id = x; name = name; operands = operands; results = i8 ∷ []; properties = []; attributes = [] }) no_regions

abbrev pub eight : Operation
eight = op (record { id = 2; name = codes "arith.constant"; operands = []; results = i8 ∷ []; properties = (codes "value", IntegerOf i8 8) ∷ []; attributes = [] }) no_regions

abbrev pub tree : Operation
tree =
    op (record { id = 0; name = codes "builtin.module"; operands = []; results = []; properties = []; attributes = [] })
    (region (block [] (next (small 1 (codes "test.d") []) (next eight (next (small 3 (codes "arith.muli") (Result 1 0 ∷ Result 2 0 ∷ [])) no_ops)))) no_regions)

-- the plan makes the constant 3 and the shift by it, and replaces the product by the shift's result
abbrev pub Planned : Type 0
Planned = planned tree (λ h. true) 4 times_power 3 ≡ Some (constant i8 3 ∷ binary (codes "arith.shli") i8 (Result 1 0) (Result 4 0) ∷ [], Result 5 0)

-- there is no plan at the constant
abbrev pub PlannedNot : Type 0
PlannedNot = planned tree (λ h. true) 4 times_power 2 ≡ None
