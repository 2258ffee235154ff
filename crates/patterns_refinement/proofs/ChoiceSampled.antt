-- The module with a `select` of memrefs has no diagnostics and computes, and a rule applies in it.
use Rattle.std.proofs.Common.{◌≡◌, ℕ, zero, suc, refl, subst, ◌<◌, [], ◌∷◌, Some, None, true, slice_get, get_or, arith, ap, eqb, ◌≤◌}
use Rattle.std.proofs.lemmas.Option.{none-some, same_Some}
use Rattle.std.proofs.lemmas.Map.Made.{IsDistinct-from_count}
use Rattle.std.proofs.lemmas.Cmp.{nat_eq_equiv}
use Rattle.ir_types.specs.declared.bits.BitsKind.TheVariants as kind
use Rattle.ir_types.specs.Terms.{TypeTerm}
use Rattle.ir_types.specs.Words as words
use Rattle.ir_types.specs.Words.{is_isolated}
use Rattle.ir_tree.specs.declared.value.Value.{Value}
use Rattle.ir_tree.specs.declared.value.Value.TheVariants.{Arg, Result}
use Rattle.ir_tree.specs.WellFormed.{IsWellFormed}
use Rattle.op_registry.specs.Registry as registry
use Rattle.op_registry.specs.Rows as rows
use Rattle.op_registry.specs.Properties as properties
use Rattle.dialects_int.specs.Folds as folds
use Rattle.patterns_base.specs.Looks as looks
use Rattle.patterns_base.specs.Rewrites as rewrites
use Rattle.patterns_base.specs.Rewrites.{becomes, rewrite_of}
use Rattle.patterns_base.specs.Rules as rule_table
use Rattle.patterns_base.specs.declared.rule.Rule.TheVariants.{ChooseSame}
use Rattle.patterns_base.specs.Diagnostics.{diagnostics_of}
use Rattle.patterns_refinement.specs.Meaning.{Each, IsOfType, owner}
use Rattle.patterns_refinement.specs.Keeping.{Computing}
use Rattle.patterns_refinement.specs.Better.{gives}
use Rattle.patterns_refinement.specs.Choices.{AreOrigins}
use Rattle.patterns_refinement.specs.ChoiceSamples.{ChoiceIsRefined, after, before, five_is_stored, inputs, memrefs, other, true_and_five}
use Rattle.patterns_refinement.specs.Refining.{Refined, observed}
use Rattle.patterns_refinement.specs.RefiningSamples.{memory}
use Rattle.patterns_refinement.specs.Samples.{all_done}
use Rattle.patterns_refinement.specs.Verified.{is_in_range, is_within}
use Rattle.patterns_refinement.proofs.RefiningSampled.{seen, which}
use Rattle.patterns_refinement.proofs.ShowingSampled.{never}

below : (k d : ℕ) → k < 5 → get_or (0 ∷ 1 ∷ 2 ∷ 3 ∷ 4 ∷ []) k d < 5
below zero d l = omega arith
below (suc zero) d l = omega arith
below (suc (suc zero)) d l = omega arith
below (suc (suc (suc zero))) d l = omega arith
below (suc (suc (suc (suc zero)))) d l = omega arith
below (suc (suc (suc (suc (suc k))))) d l = absurd (five k l)
  where
    five : (k : ℕ) → suc (suc (suc (suc (suc k)))) < 5 → ⊥
    five k l = omega (arith, l)

wellformed : IsWellFormed is_isolated before
unfolding words.operations words.is_listed words.is_table words.is_isolated
wellformed = record {
  distinct = IsDistinct-from_count nat_eq_equiv (0 ∷ 1 ∷ 2 ∷ 3 ∷ 4 ∷ []) refl;
  below = below;
  next = omega arith;
  wellformed = record { visible = refl; shallow = omega arith; counts = refl };
}

in_range : Each (λ h. is_in_range h ≡ true) before.tree
unfolding folds.fold_of folds.rule_of folds.rules words.operations words.is_inherent words.is_listed properties.is_allowed properties.is_of_kind properties.kind_of properties.property_kinds registry.row_of rows.rows
in_range = (refl, (((refl, (((refl, tt), ((refl, tt), ((refl, tt), tt))), tt)), tt), tt))

within : Each (λ h. is_within before.tree h ≡ true) before.tree
unfolding folds.rule_of folds.rules registry.row_of rows.rows
within = (refl, (((refl, (((refl, tt), ((refl, tt), ((refl, tt), tt))), tt)), tt), tt))

reports_nothing : diagnostics_of before.tree ≡ []
unfolding words.operations words.is_inherent words.is_listed words.is_isolated words.is_table properties.is_allowed properties.is_of_kind properties.kind_of properties.property_kinds registry.row_of rows.rows
reports_nothing = refl

-- ---- the module computes
no_result : (x k : ℕ) (ty : TypeTerm) → slice_get [] k ≡ Some ty → IsOfType ty (true_and_five (Result x k))
no_result x k ty e = absurd (none-some ty e)

choice_typed : (k : ℕ) (ty : TypeTerm) → slice_get (memory ∷ []) k ≡ Some ty → IsOfType ty (true_and_five (Result 2 k))
choice_typed k ty e = tt

inputs_typed : (k : ℕ) (ty : TypeTerm) → slice_get inputs k ≡ Some ty → IsOfType ty (true_and_five (Arg 1 0 k))
inputs_typed zero ty e = subst (λ ty. IsOfType ty (true_and_five (Arg 1 0 0))) (same_Some _ _ e) (refl, refl)
inputs_typed (suc zero) ty e = tt
inputs_typed (suc (suc zero)) ty e = tt
inputs_typed (suc (suc (suc zero))) ty e = subst (λ ty. IsOfType ty (true_and_five (Arg 1 0 3))) (same_Some _ _ e) (refl, refl)
inputs_typed (suc (suc (suc (suc k)))) ty e = absurd (none-some ty e)

computes : Computing true_and_five all_done before.tree
unfolding folds.rule_of folds.rules
computes = record {
  fits = ((λ d e. never e), ((((λ d e. never e), ((((λ d e. never e), tt), (((λ d e. never e), tt), (((λ d e. never e), tt), tt))), tt)), tt), tt));
  typed = (
    (no_result 0, (((no_result 1, (((choice_typed, tt), ((no_result 3, tt), ((no_result 4, tt), tt))), tt)), tt), tt)),
    (((λ k ty e. absurd (none-some ty e)), (((inputs_typed, (tt, (tt, (tt, tt)))), tt), tt)), tt),
  );
  sure = ((λ d e. refl), ((((λ d e. refl), ((((λ d e. refl), tt), (((λ d e. refl), tt), (((λ d e. refl), tt), tt))), tt)), tt), tt));
  fed = ((λ d. refl), ((((λ d. refl), ((((λ d. refl), tt), (((λ d. refl), tt), (((λ d. refl), tt), tt))), tt)), tt), tt));
}

-- ---- what its values represent
computed : (v : Value) → gives (λ x. true) before.tree v ≡ true → memrefs v ≡ None
unfolding folds.rule_of folds.rules
computed (Result zero k) e = refl
computed (Result (suc zero) k) e = refl
computed (Result (suc (suc zero)) zero) e = never e
computed (Result (suc (suc zero)) (suc k)) e = refl
computed (Result (suc (suc (suc x))) k) e = refl
computed (Arg x r k) e = never e

unused : (v : Value) → 5 ≤ owner v → memrefs v ≡ None
unused (Result zero k) l = refl
unused (Result (suc zero) k) l = refl
unused (Result (suc (suc zero)) zero) l = absurd (omega (arith, l))
unused (Result (suc (suc zero)) (suc k)) l = refl
unused (Result (suc (suc (suc x))) k) l = refl
unused (Arg zero r k) l = refl
unused (Arg (suc zero) zero zero) l = refl
unused (Arg (suc zero) zero (suc zero)) l = absurd (omega (arith, l))
unused (Arg (suc zero) zero (suc (suc zero))) l = absurd (omega (arith, l))
unused (Arg (suc zero) zero (suc (suc (suc k)))) l = refl
unused (Arg (suc zero) (suc r) k) l = refl
unused (Arg (suc (suc x)) r k) l = refl

origins : AreOrigins 5 true_and_five memrefs all_done before.tree
unfolding folds.rule_of folds.rules
origins = record {
  chosen = (
    (λ e. never e),
    ((((λ e. never e), ((((λ e y f. (refl, ((kind.Int 1, 1), refl, f))), tt), (((λ e. never e), tt), (((λ e. never e), tt), tt))), tt)), tt), tt),
  );
  computed = computed;
  unused = unused;
}

-- ---- the rule applies
applies : rewrite_of ChooseSame before 2 ≡ becomes after
unfolding rewrites.rewrite_of rewrites.edits_of rewrites.eligible rule_table.rule rule_table.rules_for rule_table.table looks.is_verified looks.known folds.fold_of folds.rule_of folds.rules words.operations words.is_inherent words.is_listed words.is_table words.is_isolated properties.is_allowed properties.is_of_kind properties.kind_of properties.property_kinds registry.row_of rows.rows
applies = refl

-- ---- observations
observed_before : observed true_and_five memrefs all_done before.tree ≡ five_is_stored
unfolding folds.rule_of folds.rules registry.row_of rows.rows
observed_before = refl

observed_after : observed true_and_five memrefs all_done after.tree ≡ five_is_stored
unfolding folds.rule_of folds.rules registry.row_of rows.rows
observed_after = refl

other_memref : Refined true_and_five memrefs all_done before other → ⊥
unfolding folds.rule_of folds.rules registry.row_of rows.rows
other_memref r =
    let s = seen true_and_five memrefs before other r (r.same 1 (omega arith), (r.same 3 (omega arith), (r.same 4 (omega arith), tt))) in
    never (ap (λ v. eqb (which v) 1) (same_Some (Arg 1 0 2) (Arg 1 0 1) s.2.1.2.0))

pub choice_is_refined : ChoiceIsRefined
choice_is_refined = record {
  verified = record { wellformed = wellformed; sorted = refl; in_range = in_range; within = within; reports_nothing = reports_nothing };
  computing = computes;
  origins = origins;
  applies = applies;
  observed_before = observed_before;
  observed_after = observed_after;
  other_memref = other_memref;
}
