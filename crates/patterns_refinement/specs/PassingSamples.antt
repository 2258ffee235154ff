-- Sample patterns that pass poison on and aren't strict: a product by a power of two becomes a shift, and a
-- truncation of a sum becomes a sum of truncations. The first applies in a sample module whose variable is poison.
use Rattle.std.specs.Prelude.{◌≡◌, zero, suc, [], ◌∷◌, codes, false, true, Some, None}
use Rattle.ir_types.specs.declared.bits.BitsKind.TheVariants as kind
use Rattle.ir_types.specs.Terms.{IntegerOf}
use Rattle.ir_tree.specs.declared.value.Value.TheVariants.{Arg, Result}
use Rattle.ir_tree.specs.Tree.{block, next, no_ops, no_regions, op, region}
use Rattle.ir_event.specs.Modules.{Module}
use Rattle.dialects_int.specs.declared.operations.Arithmetic.TheVariants as operator
use Rattle.dialects_int.specs.declared.operations.Cast.TheVariants as cast
use Rattle.patterns_base.specs.Rewrites.{becomes}
use Rattle.user_patterns_data.specs.declared.pattern.TypeConstraint.TheVariants as requested
use Rattle.user_patterns_data.specs.declared.pattern.Expression.TheVariants as form
use Rattle.user_patterns_data.specs.declared.pattern.PatternType.TheVariants as ty
use Rattle.user_patterns_data.specs.declared.pattern.NewValue.TheVariants as new
use Rattle.user_patterns_data.specs.Samples.{times_power}
use Rattle.user_patterns_data.specs.Shapes.{PatternModel}
use Rattle.user_patterns_apply.specs.Own.{user_pattern_rewrite}
use Rattle.patterns_refinement.specs.Meaning.{Assignment}
use Rattle.patterns_refinement.specs.Applied.{IsProper}
use Rattle.patterns_refinement.specs.ByForm.{is_kinded_by_form}
use Rattle.patterns_refinement.specs.Keeping.{Computing, IsReady}
use Rattle.patterns_refinement.specs.Passing.{KeepsAt, is_passing}
use Rattle.patterns_refinement.specs.Narrow.{HoldsNarrow, IsNarrow}
use Rattle.patterns_refinement.specs.Samples.{all_done, i2, small, tree}
use Rattle.patterns_refinement.specs.Strict.{is_strict}

-- a truncation of a sum becomes the sum of truncations; the places are 0 and 1 for the values, 2 for their sum, 3 for
-- the truncation of the sum, 4 and 5 for the new truncations, and 6 for their sum
abbrev pub cut_sum : PatternModel
cut_sum =
    record {
      types = 2;
      value_types = ty.Variable 0 ∷ ty.Variable 1 ∷ [];
      values = 0 ∷ 0 ∷ [];
      constants = [];
      extra = [];
      type_constraints = requested.Narrower 1 0 ∷ [];
      given = [];
      old = record { form = form.Binary operator.Add 0 1; bare = false; ty = 0 } ∷ record { form = form.IntegerCast cast.Truncate 2; bare = false; ty = 1 } ∷ [];
      root = 3;
      new =
          new.Operation (record { form = form.IntegerCast cast.Truncate 0; bare = false; ty = 1 })
          ∷ new.Operation (record { form = form.IntegerCast cast.Truncate 1; bare = false; ty = 1 })
          ∷ new.Operation (record { form = form.Binary operator.Add 4 5; bare = false; ty = 1 }) ∷ [];
      result = 6;
    }

-- a pattern that passes poison on, isn't strict, and whose new operations take their operands by its form
abbrev pub IsSample : PatternModel → Type 0
IsSample p = IsProper p × (is_passing p ≡ true) × (is_strict p ≡ false) × (is_kinded_by_form p ≡ true)

-- a product that becomes a shift, which has no value for some operands; and casts between two types
abbrev pub SamplesArePassing : Type 0
SamplesArePassing = IsSample times_power × IsSample cut_sum

-- ---- a module: a value, the constant 2, and their product
abbrev pub doubled : Module
doubled = record { tree = tree; next = 4 }

-- the module after the pattern is applied
abbrev pub shifted : Module
shifted =
    record {
      tree =
          op (record { id = 0; name = codes "builtin.module"; operands = []; results = []; properties = []; attributes = [] })
          (region (block []
          (next (small 1 (codes "test.d") [] [])
          (next (small 2 (codes "arith.constant") [] ((codes "value", IntegerOf i2 2) ∷ []))
          (next (small 4 (codes "arith.constant") [] ((codes "value", IntegerOf i2 1) ∷ []))
          (next (small 5 (codes "arith.shli") (Result 1 0 ∷ Result 4 0 ∷ []) [])
          no_ops))))) no_regions);
      next = 6;
    }

-- the value is poison, and so is the product
abbrev pub lost : Assignment
lost (Result (suc (suc zero)) k) = Some (kind.Int 2, 2)
lost (Result x k) = None
lost (Arg x r k) = None

-- the module is ready and computes with these outcomes; the pattern applies, and refines at the kinds of the match
abbrev pub SampleIsDoubled : Type 0
SampleIsDoubled =
    IsReady doubled × Computing lost all_done doubled.tree × (user_pattern_rewrite times_power doubled 3 ≡ becomes shifted)
    × KeepsAt times_power doubled 3

-- ---- the module is narrow, and the pattern holds up to two bits
abbrev pub SampleIsNarrow : Type 0
SampleIsNarrow = HoldsNarrow 2 times_power × IsNarrow 2 doubled
