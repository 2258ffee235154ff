-- The sample satisfies the premises of the laws.
use Rattle.std.proofs.Common.{◌≡◌, ℕ, zero, suc, ◌<◌, refl, ap, sym, subst, List, [], ◌∷◌, true, true≢false, Some, None, slice_get, inl, arith}
use Rattle.std.specs.Prelude.{is_some}
use Rattle.std.proofs.lemmas.Option.{none-some, same_Some}
use Rattle.ir_types.specs.declared.bits.BitsKind.TheVariants as kind
use Rattle.ir_types.specs.Terms.{TypeTerm}
use Rattle.ir_types.specs.Words as words
use Rattle.ir_tree.specs.declared.value.Value.{Value}
use Rattle.ir_tree.specs.declared.value.Value.TheVariants.{Result}
use Rattle.op_registry.specs.Registry as registry
use Rattle.op_registry.specs.Rows as rows
use Rattle.op_registry.specs.Properties as properties
use Rattle.dialects_int.specs.Arithmetic.{left_shift_of, product_of}
use Rattle.dialects_int.specs.Folds as folds
use Rattle.dialects_int.specs.Folds.{kind_of}
use Rattle.user_patterns_check.specs.Cases.{AreBelow, first_below}
use Rattle.patterns_laws.specs.Words as named
use Rattle.user_patterns_check.specs.Checks.{keeps}
use Rattle.user_patterns_check.specs.Outcomes.{log_of}
use Rattle.user_patterns_data.specs.Fitting.{content_with}
use Rattle.user_patterns_data.specs.Matching.{BoundValues, binding_at}
use Rattle.user_patterns_data.specs.Planning.{planned}
use Rattle.user_patterns_data.specs.Samples.{times_power}
use Rattle.patterns_refinement.specs.Meaning.{IsOfType}
use Rattle.patterns_refinement.specs.Applied.{AreOfKinds, Computes, IsFound}
use Rattle.patterns_refinement.specs.Samples.{SampleIsKept, all_done, each, i2, outcomes, tree}

-- ---- the match
abbrev pub here : BoundValues Value
here = Some (Result 1 0) ∷ Some (Result 2 0) ∷ None ∷ Some (Result 3 0) ∷ None ∷ None ∷ []

abbrev types : BoundValues TypeTerm
types = Some i2 ∷ []

pub known_here : (i : ℕ) (v : Value) → binding_at i here ≡ Some v → is_some (outcomes v) ≡ true
known_here zero v e = ap (λ v. is_some (outcomes v)) (sym (same_Some _ _ e))
known_here (suc zero) v e = ap (λ v. is_some (outcomes v)) (sym (same_Some _ _ e))
known_here (suc (suc zero)) v e = absurd (none-some v e)
known_here (suc (suc (suc zero))) v e = ap (λ v. is_some (outcomes v)) (sym (same_Some _ _ e))
known_here (suc (suc (suc (suc zero)))) v e = absurd (none-some v e)
known_here (suc (suc (suc (suc (suc zero))))) v e = absurd (none-some v e)
known_here (suc (suc (suc (suc (suc (suc i)))))) v e = absurd (none-some v e)

are_of_kinds : AreOfKinds types
are_of_kinds zero ty e = ap (λ ty. is_some (kind_of ty)) (sym (same_Some _ _ e))
are_of_kinds (suc i) ty e = absurd (none-some ty e)

found : IsFound tree each 4 times_power 3 outcomes all_done
found = record {
  here = here;
  is_matched = refl;
  types = types;
  are_types = refl;
  of_kinds = are_of_kinds;
  are_done = λ i v h s g. refl;
  are_unbroken = λ i v h s g f. known_here i v s;
  variables = λ i v l s. known_here i v s;
}

-- ---- the outcomes
one_type : (x n : ℕ) → IsOfType i2 (outcomes (Result x 0)) → (k : ℕ) (ty : TypeTerm) → slice_get (i2 ∷ []) k ≡ Some ty → IsOfType ty (outcomes (Result x k))
one_type x n h zero ty e = subst (λ ty. IsOfType ty (outcomes (Result x 0))) (same_Some _ _ e) h
one_type x n h (suc k) ty e = absurd (none-some ty e)

computes : Computes outcomes all_done 4 tree
unfolding product_of folds.fold_of folds.rule_of folds.rules words.operations words.is_inherent words.is_listed properties.is_allowed properties.is_of_kind properties.kind_of properties.property_kinds registry.row_of rows.rows
computes = record {
  below = (omega arith, (((omega arith, tt), ((omega arith, tt), ((omega arith, tt), tt))), tt));
  fits = ((λ d e. absurd (true≢false (sym e))), ((((λ d e. absurd (true≢false (sym e))), tt), (((λ d e. inl (refl, refl)), tt), (((λ d e. inl (refl, refl)), tt), tt))), tt));
  typed = (
    ((λ k ty e. absurd (none-some ty e)), (((one_type 1 0 (refl, refl), tt), ((one_type 2 0 (refl, refl), tt), ((one_type 3 0 (refl, refl), tt), tt))), tt)),
    (((λ k ty e. absurd (none-some ty e)), (tt, (tt, (tt, tt)))), tt),
  );
}

-- ---- the check at two bits
pub four : (v : ℕ) → suc (suc (suc (suc v))) < 4 → ⊥
four v l = omega (arith, l)

pub keeps_all : (values : List ℕ) → AreBelow (4 ∷ 4 ∷ []) values → keeps (content_with (kind.Int 2 ∷ []) times_power) values ≡ true
unfolding log_of first_below product_of left_shift_of
keeps_all [] l = absurd l
keeps_all (zero ∷ zero ∷ []) l = refl
keeps_all (zero ∷ (suc zero) ∷ []) l = refl
keeps_all (zero ∷ (suc (suc zero)) ∷ []) l = refl
keeps_all (zero ∷ (suc (suc (suc zero))) ∷ []) l = refl
keeps_all (zero ∷ (suc (suc (suc (suc w)))) ∷ []) l = absurd (four w l.1.0)
keeps_all (zero ∷ []) l = absurd l.1
keeps_all (zero ∷ w ∷ z ∷ vs) l = absurd l.1.1
keeps_all ((suc zero) ∷ zero ∷ []) l = refl
keeps_all ((suc zero) ∷ (suc zero) ∷ []) l = refl
keeps_all ((suc zero) ∷ (suc (suc zero)) ∷ []) l = refl
keeps_all ((suc zero) ∷ (suc (suc (suc zero))) ∷ []) l = refl
keeps_all ((suc zero) ∷ (suc (suc (suc (suc w)))) ∷ []) l = absurd (four w l.1.0)
keeps_all ((suc zero) ∷ []) l = absurd l.1
keeps_all ((suc zero) ∷ w ∷ z ∷ vs) l = absurd l.1.1
keeps_all ((suc (suc zero)) ∷ zero ∷ []) l = refl
keeps_all ((suc (suc zero)) ∷ (suc zero) ∷ []) l = refl
keeps_all ((suc (suc zero)) ∷ (suc (suc zero)) ∷ []) l = refl
keeps_all ((suc (suc zero)) ∷ (suc (suc (suc zero))) ∷ []) l = refl
keeps_all ((suc (suc zero)) ∷ (suc (suc (suc (suc w)))) ∷ []) l = absurd (four w l.1.0)
keeps_all ((suc (suc zero)) ∷ []) l = absurd l.1
keeps_all ((suc (suc zero)) ∷ w ∷ z ∷ vs) l = absurd l.1.1
keeps_all ((suc (suc (suc zero))) ∷ zero ∷ []) l = refl
keeps_all ((suc (suc (suc zero))) ∷ (suc zero) ∷ []) l = refl
keeps_all ((suc (suc (suc zero))) ∷ (suc (suc zero)) ∷ []) l = refl
keeps_all ((suc (suc (suc zero))) ∷ (suc (suc (suc zero))) ∷ []) l = refl
keeps_all ((suc (suc (suc zero))) ∷ (suc (suc (suc (suc w)))) ∷ []) l = absurd (four w l.1.0)
keeps_all ((suc (suc (suc zero))) ∷ []) l = absurd l.1
keeps_all ((suc (suc (suc zero))) ∷ w ∷ z ∷ vs) l = absurd l.1.1
keeps_all ((suc (suc (suc (suc v)))) ∷ vs) l = absurd (four v l.0)

pub sample_is_kept : SampleIsKept
unfolding found planned log_of first_below folds.fold_of folds.rule_of folds.rules words.operations words.is_inherent words.is_listed properties.is_allowed properties.is_of_kind properties.kind_of properties.property_kinds named.flagged registry.row_of rows.rows
sample_is_kept = (record { wellformed = refl; buildable = refl; named = refl }, computes, (found, refl, keeps_all), refl)
