-- A tree in which a pattern matches and refines, so the laws aren't vacuous: a product of two bits by 2 becomes a
-- shift by 1. The same holds for that pattern with two numbers for its type variable.
use Rattle.std.specs.Prelude.{◌≡◌, ℕ, List, [], ◌∷◌, get_or, Bool, true, false, Some, None, codes}
use Rattle.ir_types.specs.declared.node.Sign.TheVariants.{Signless}
use Rattle.ir_types.specs.declared.bits.BitsKind.TheVariants as kind
use Rattle.ir_types.specs.Terms.{TypeTerm, Integer, IntegerOf}
use Rattle.ir_tree.specs.declared.value.Value.{Value}
use Rattle.ir_tree.specs.declared.value.Value.TheVariants.{Result, Arg}
use Rattle.ir_tree.specs.Tree.{op, no_regions, region, block, next, no_ops}
use Rattle.ir_tree.specs.Meaning.{Operation}
use Rattle.dialects_int.specs.declared.operations.Arithmetic.TheVariants as operator
use Rattle.patterns_laws.specs.Made.{Entries, binary, constant}
use Rattle.user_patterns_check.specs.declared.verdict.Verdict.TheVariants as verdict
use Rattle.user_patterns_check.specs.Checks.{AlwaysKeeps}
use Rattle.user_patterns_check.specs.Families.{AreWidths, IsVerdict}
use Rattle.user_patterns_data.specs.declared.pattern.Expression.TheVariants as form
use Rattle.user_patterns_data.specs.declared.pattern.PatternType.TheVariants as ty
use Rattle.user_patterns_data.specs.declared.pattern.NewValue.TheVariants as new
use Rattle.user_patterns_data.specs.declared.pattern.ConstantExpression.TheVariants as number
use Rattle.user_patterns_data.specs.Fitting.{content_at, content_with}
use Rattle.user_patterns_data.specs.Matching.{Header}
use Rattle.user_patterns_data.specs.Planning.{planned}
use Rattle.user_patterns_data.specs.Samples.{times_power}
use Rattle.user_patterns_data.specs.Shapes.{PatternModel}
use Rattle.user_patterns_build.specs.Unified.{united}
use Rattle.patterns_refinement.specs.Meaning.{Assignment}
use Rattle.patterns_refinement.specs.Applied.{Computes, IsFound, IsProper, is_typed, kinds_found}

abbrev pub i2 : TypeTerm
i2 = Integer Signless 2

abbrev pub small : ℕ → List ℕ → List Value → Entries → Operation
small x name operands properties = op (record { id = x; name = name; operands = operands; results = i2 ∷ []; properties = properties; attributes = [] }) no_regions

-- some value, the constant 2, and their product
abbrev pub tree : Operation
tree =
    op (record { id = 0; name = codes "builtin.module"; operands = []; results = []; properties = []; attributes = [] })
    (region (block []
    (next (small 1 (codes "test.d") [] [])
    (next (small 2 (codes "arith.constant") [] ((codes "value", IntegerOf i2 2) ∷ []))
    (next (small 3 (codes "arith.muli") (Result 1 0 ∷ Result 2 0 ∷ []) [])
    no_ops)))) no_regions)

-- the value is 3, so the product is 2
abbrev pub outcomes : Assignment
outcomes (Result x k) = get_or (None ∷ Some (kind.Int 2, 3) ∷ Some (kind.Int 2, 2) ∷ Some (kind.Int 2, 2) ∷ []) x None
outcomes (Arg x r k) = None

abbrev pub each : Header → Bool
each h = true

abbrev pub all_done : ℕ → Bool
all_done y = true

-- all premises of the laws
abbrev pub SampleIsKept : Type 0
SampleIsKept =
    IsProper times_power × Computes outcomes all_done 4 tree
    × ((found : IsFound tree each 4 times_power 3 outcomes all_done)
    × (is_typed (kinds_found tree each 4 times_power 3 outcomes all_done found) times_power ≡ true)
    × AlwaysKeeps (content_with (kinds_found tree each 4 times_power 3 outcomes all_done found) times_power))
    × (planned tree each 4 times_power 3 ≡ Some (constant i2 1 ∷ binary (codes "arith.shli") i2 (Result 1 0) (Result 4 0) ∷ [], Result 5 0))

-- ---- the pattern with two numbers for its type variable; the second is the product's type
abbrev pub twice : PatternModel
twice =
    record {
      types = 1;
      value_types = ty.Variable 0 ∷ ty.Variable 0 ∷ [];
      values = 0 ∷ 1 ∷ [];
      constants = 1 ∷ [];
      extra = [];
      type_constraints = [];
      given = number.Log2 1 ∷ [];
      old = record { form = form.Binary operator.Multiply 0 1; bare = false; ty = 1 } ∷ [];
      root = 3;
      new = new.Constant 2 1 ∷ new.Operation (record { form = form.Binary operator.ShiftLeft 0 4; bare = false; ty = 0 }) ∷ [];
      result = 5;
    }

-- After unification the pattern uses only the first number, and a match binds no type to the second. The pattern
-- holds up to two bits, and its instance at the kinds of the match is the one at two bits.
abbrev pub SampleIsChecked : Type 0
SampleIsChecked =
    IsProper (united twice) × IsVerdict (content_at (united twice)) 1 2 verdict.Holds × AreWidths 1 2 (2 ∷ [])
    × ((found : IsFound tree each 4 (united twice) 3 outcomes all_done)
    × (kinds_found tree each 4 (united twice) 3 outcomes all_done found ≡ kind.Int 2 ∷ kind.Int 0 ∷ [])
    × (is_typed (kinds_found tree each 4 (united twice) 3 outcomes all_done found) (united twice) ≡ true)
    × (content_with (kinds_found tree each 4 (united twice) 3 outcomes all_done found) (united twice) ≡ content_at (united twice) (2 ∷ [])))
    × (planned tree each 4 (united twice) 3 ≡ Some (constant i2 1 ∷ binary (codes "arith.shli") i2 (Result 1 0) (Result 4 0) ∷ [], Result 5 0))
