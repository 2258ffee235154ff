-- The module of the samples is ready, and a pattern applies in it.
use Rattle.std.proofs.Common.{◌≡◌, ℕ, zero, suc, refl, sym, subst, ◌<◌, [], ◌∷◌, true≢false, Some, slice_get, get_or, inl, arith}
use Rattle.std.proofs.lemmas.Option.{none-some, same_Some}
use Rattle.std.proofs.lemmas.Map.Made.{IsDistinct-from_count}
use Rattle.std.proofs.lemmas.Cmp.{nat_eq_equiv}
use Rattle.ir_types.specs.Terms.{TypeTerm}
use Rattle.ir_types.specs.Words as words
use Rattle.ir_types.specs.Words.{is_isolated}
use Rattle.ir_tree.specs.declared.value.Value.TheVariants.{Result}
use Rattle.ir_tree.specs.WellFormed.{IsWellFormed}
use Rattle.op_registry.specs.Registry as registry
use Rattle.op_registry.specs.Rows as rows
use Rattle.op_registry.specs.Properties as properties
use Rattle.dialects_int.specs.Folds as folds
use Rattle.patterns_base.specs.Looks as looks
use Rattle.user_patterns_data.specs.Planning.{planned}
use Rattle.user_patterns_apply.specs.Own.{user_pattern_edits, user_pattern_rewrite}
use Rattle.patterns_refinement.specs.Meaning.{IsOfType}
use Rattle.patterns_refinement.specs.Better.{AreKinded}
use Rattle.patterns_refinement.specs.Keeping.{Computing, IsReady}
use Rattle.patterns_refinement.specs.Samples.{all_done, i2}
use Rattle.patterns_refinement.specs.StrictSamples.{SampleIsReady, crossed, poisoned}

-- ---- the module is well-formed, and its operands have their kinds
five : (k : ℕ) → suc (suc (suc (suc (suc (suc k))))) < 6 → ⊥
five k l = omega (arith, l)

below : (k d : ℕ) → k < 6 → get_or (0 ∷ 1 ∷ 2 ∷ 3 ∷ 4 ∷ 5 ∷ []) k d < 6
below zero d l = omega arith
below (suc zero) d l = omega arith
below (suc (suc zero)) d l = omega arith
below (suc (suc (suc zero))) d l = omega arith
below (suc (suc (suc (suc zero)))) d l = omega arith
below (suc (suc (suc (suc (suc zero))))) d l = omega arith
below (suc (suc (suc (suc (suc (suc k)))))) d l = absurd (five k l)

wellformed : IsWellFormed is_isolated crossed
unfolding words.operations words.is_listed words.is_table words.is_isolated
wellformed = record {
  distinct = IsDistinct-from_count nat_eq_equiv (0 ∷ 1 ∷ 2 ∷ 3 ∷ 4 ∷ 5 ∷ []) refl;
  below = below;
  next = omega arith;
  wellformed = record { visible = refl; shallow = omega arith; counts = refl };
}

kinded : AreKinded crossed.tree
unfolding folds.rule_of folds.rules
kinded = (refl, (((refl, tt), ((refl, tt), ((refl, tt), ((refl, tt), ((refl, tt), tt))))), tt))

ready : IsReady crossed
ready = record { wellformed = wellformed; sorted = refl; kinded = kinded }

-- ---- the module computes
one_type : (x : ℕ) → IsOfType i2 (poisoned (Result x 0)) → (k : ℕ) (ty : TypeTerm) → slice_get (i2 ∷ []) k ≡ Some ty → IsOfType ty (poisoned (Result x k))
one_type x h zero ty e = subst (λ ty. IsOfType ty (poisoned (Result x 0))) (same_Some _ _ e) h
one_type x h (suc k) ty e = absurd (none-some ty e)

computes : Computing poisoned all_done crossed.tree
unfolding folds.rule_of folds.rules
computes = record {
  fits = ((λ d e. absurd (true≢false (sym e))), ((((λ d e. absurd (true≢false (sym e))), tt), (((λ d e. absurd (true≢false (sym e))), tt), (((λ d e. inl (refl, refl)), tt), (((λ d e. inl (refl, refl)), tt), (((λ d e. inl (refl, refl)), tt), tt))))), tt));
  typed = (
    ((λ k ty e. absurd (none-some ty e)), (((one_type 1 (refl, refl), tt), ((one_type 2 tt, tt), ((one_type 3 tt, tt), ((one_type 4 tt, tt), ((one_type 5 tt, tt), tt))))), tt)),
    (((λ k ty e. absurd (none-some ty e)), (tt, (tt, (tt, (tt, (tt, tt)))))), tt),
  );
  sure = ((λ d e. refl), ((((λ d e. refl), tt), (((λ d e. refl), tt), (((λ d e. refl), tt), (((λ d e. refl), tt), (((λ d e. refl), tt), tt))))), tt));
  fed = ((λ d. refl), ((((λ d. refl), tt), (((λ d. refl), tt), (((λ d. refl), tt), (((λ d. refl), tt), (((λ d. refl), tt), tt))))), tt));
}

pub sample_is_ready : SampleIsReady
unfolding planned user_pattern_edits user_pattern_rewrite looks.is_verified folds.fold_of folds.rule_of folds.rules words.operations words.is_inherent words.is_listed words.is_table words.is_isolated properties.is_allowed properties.is_of_kind properties.kind_of properties.property_kinds registry.row_of rows.rows
sample_is_ready = (ready, computes, refl)
