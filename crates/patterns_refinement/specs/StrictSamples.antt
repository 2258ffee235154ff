-- Sample strict patterns: (a + b) - b becomes a, and (a xor b) xor b becomes a. The second applies in a sample module
-- in which b is poison.
use Rattle.std.specs.Prelude.{◌≡◌, zero, suc, [], ◌∷◌, codes, false, true, Some, None}
use Rattle.ir_types.specs.declared.bits.BitsKind.TheVariants as kind
use Rattle.ir_tree.specs.declared.value.Value.TheVariants.{Arg, Result}
use Rattle.ir_tree.specs.Tree.{block, next, no_ops, no_regions, op, region}
use Rattle.ir_event.specs.Modules.{Module}
use Rattle.dialects_int.specs.declared.operations.Arithmetic.{Arithmetic}
use Rattle.dialects_int.specs.declared.operations.Arithmetic.TheVariants as operator
use Rattle.patterns_base.specs.Rewrites.{becomes}
use Rattle.user_patterns_data.specs.declared.pattern.Expression.TheVariants as form
use Rattle.user_patterns_data.specs.declared.pattern.PatternType.TheVariants as ty
use Rattle.user_patterns_data.specs.Shapes.{PatternModel}
use Rattle.user_patterns_widths.specs.AllWidths.{is_bit_by_bit, is_one_polynomial}
use Rattle.user_patterns_apply.specs.Own.{user_pattern_rewrite}
use Rattle.patterns_refinement.specs.Meaning.{Assignment}
use Rattle.patterns_refinement.specs.Applied.{IsProper}
use Rattle.patterns_refinement.specs.Keeping.{Computing, IsReady}
use Rattle.patterns_refinement.specs.Samples.{all_done, small}
use Rattle.patterns_refinement.specs.Strict.{is_strict}

-- an operation on two values, and a second operation on its result and the second value, become the first value; the
-- places are 0 and 1 for the values, 2 for the first operation, 3 for the root
abbrev pub undone : Arithmetic → Arithmetic → PatternModel
undone there back =
    record {
      types = 1;
      value_types = ty.Variable 0 ∷ [];
      values = 0 ∷ 0 ∷ [];
      constants = [];
      extra = [];
      type_constraints = [];
      given = [];
      old = record { form = form.Binary there 0 1; bare = false; ty = 0 } ∷ record { form = form.Binary back 2 1; bare = false; ty = 0 } ∷ [];
      root = 3;
      new = [];
      result = 0;
    }

-- differences undo sums, by polynomials; exclusive or undoes itself, bit by bit
abbrev pub SamplesAreStrict : Type 0
SamplesAreStrict =
    (IsProper (undone operator.Add operator.Subtract) × (is_strict (undone operator.Add operator.Subtract) ≡ true) × (is_one_polynomial (undone operator.Add operator.Subtract) ≡ true))
    × (IsProper (undone operator.ExclusiveOr operator.ExclusiveOr) × (is_strict (undone operator.ExclusiveOr operator.ExclusiveOr) ≡ true) × (is_bit_by_bit (undone operator.ExclusiveOr operator.ExclusiveOr) ≡ true))

-- ---- a module
abbrev pub crossed : Module
crossed =
    record {
      tree =
          op (record { id = 0; name = codes "builtin.module"; operands = []; results = []; properties = []; attributes = [] })
          (region (block []
          (next (small 1 (codes "test.d") [] [])
          (next (small 2 (codes "test.d") [] [])
          (next (small 3 (codes "arith.xori") (Result 1 0 ∷ Result 2 0 ∷ []) [])
          (next (small 4 (codes "arith.xori") (Result 3 0 ∷ Result 2 0 ∷ []) [])
          (next (small 5 (codes "arith.xori") (Result 4 0 ∷ Result 4 0 ∷ []) [])
          no_ops)))))) no_regions);
      next = 6;
    }

-- the module after the pattern is applied at the second exclusive or
abbrev pub uncrossed : Module
uncrossed =
    record {
      tree =
          op (record { id = 0; name = codes "builtin.module"; operands = []; results = []; properties = []; attributes = [] })
          (region (block []
          (next (small 1 (codes "test.d") [] [])
          (next (small 2 (codes "test.d") [] [])
          (next (small 3 (codes "arith.xori") (Result 1 0 ∷ Result 2 0 ∷ []) [])
          (next (small 5 (codes "arith.xori") (Result 1 0 ∷ Result 1 0 ∷ []) [])
          no_ops))))) no_regions);
      next = 6;
    }

-- the first value is 3, the second is poison, and so are the results computed from it
abbrev pub poisoned : Assignment
poisoned (Result (suc zero) k) = Some (kind.Int 2, 3)
poisoned (Result x k) = None
poisoned (Arg x r k) = None

-- the module is ready and computes with these outcomes, and the pattern applies
abbrev pub SampleIsReady : Type 0
SampleIsReady = IsReady crossed × Computing poisoned all_done crossed.tree × (user_pattern_rewrite (undone operator.ExclusiveOr operator.ExclusiveOr) crossed 4 ≡ becomes uncrossed)
