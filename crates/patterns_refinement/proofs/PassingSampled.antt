-- The module of the sample is ready, and the pattern applies in it.
use Rattle.std.proofs.Common.{◌≡◌, ℕ, zero, suc, refl, sym, subst, ◌<◌, ◌≤◌, List, [], ◌∷◌, true, true≢false, Some, None, slice_get, get_or, inl, arith}
use Rattle.std.proofs.lemmas.Option.{none-some, same_Some}
use Rattle.std.proofs.lemmas.Map.Made.{IsDistinct-from_count}
use Rattle.std.proofs.lemmas.Cmp.{nat_eq_equiv}
use Rattle.ir_types.specs.declared.bits.BitsKind.TheVariants as kind
use Rattle.ir_types.specs.Terms.{TypeTerm}
use Rattle.ir_types.specs.Words as words
use Rattle.ir_types.specs.Words.{is_isolated}
use Rattle.ir_tree.specs.declared.value.Value.{Value}
use Rattle.ir_tree.specs.declared.value.Value.TheVariants.{Result}
use Rattle.ir_tree.specs.WellFormed.{IsWellFormed}
use Rattle.op_registry.specs.Registry as registry
use Rattle.op_registry.specs.Rows as rows
use Rattle.op_registry.specs.Properties as properties
use Rattle.dialects_int.specs.Arithmetic.{left_shift_of, product_of}
use Rattle.dialects_int.specs.Folds as folds
use Rattle.user_patterns_check.specs.Cases.{first_below}
use Rattle.patterns_laws.specs.Words as named
use Rattle.patterns_base.specs.Looks as looks
use Rattle.user_patterns_check.specs.Checks.{AlwaysKeeps}
use Rattle.user_patterns_check.specs.Families.{AreWidths}
use Rattle.user_patterns_check.specs.Outcomes.{log_of}
use Rattle.user_patterns_data.specs.Fitting.{content_at, content_with, fits, kinds_with}
use Rattle.user_patterns_data.specs.Matching.{BoundValues}
use Rattle.user_patterns_data.specs.Planning.{planned}
use Rattle.user_patterns_data.specs.Samples.{times_power}
use Rattle.user_patterns_apply.specs.Own.{user_pattern_edits, user_pattern_rewrite}
use Rattle.patterns_refinement.specs.Meaning.{IsOfType}
use Rattle.patterns_refinement.specs.Better.{AreKinded}
use Rattle.patterns_refinement.specs.Keeping.{Computing, IsReady}
use Rattle.patterns_refinement.specs.Passing.{FoundAt, KeepsAt, is_kinded_at}
use Rattle.patterns_refinement.specs.Narrow.{HoldsNarrow, IsNarrow, is_narrow}
use Rattle.patterns_refinement.specs.Samples.{all_done, i2}
use Rattle.patterns_refinement.specs.PassingSamples.{SampleIsDoubled, SampleIsNarrow, doubled, lost}
use Rattle.patterns_refinement.proofs.NarrowRules.{AllSmall, alone_small, narrow_of}
use Rattle.patterns_refinement.proofs.PassingKept.{one_way}
use Rattle.patterns_refinement.proofs.Sampled.{four, keeps_all}

-- ---- the module is well-formed, and its operands have their kinds
below : (k d : ℕ) → k < 4 → get_or (0 ∷ 1 ∷ 2 ∷ 3 ∷ []) k d < 4
below zero d l = omega arith
below (suc zero) d l = omega arith
below (suc (suc zero)) d l = omega arith
below (suc (suc (suc zero))) d l = omega arith
below (suc (suc (suc (suc k)))) d l = absurd (four k l)

wellformed : IsWellFormed is_isolated doubled
unfolding words.operations words.is_listed words.is_table words.is_isolated
wellformed = record {
  distinct = IsDistinct-from_count nat_eq_equiv (0 ∷ 1 ∷ 2 ∷ 3 ∷ []) refl;
  below = below;
  next = omega arith;
  wellformed = record { visible = refl; shallow = omega arith; counts = refl };
}

kinded : AreKinded doubled.tree
unfolding folds.fold_of folds.rule_of folds.rules words.operations words.is_inherent words.is_listed properties.is_allowed properties.is_of_kind properties.kind_of properties.property_kinds registry.row_of rows.rows
kinded = (refl, (((refl, tt), ((refl, tt), ((refl, tt), tt))), tt))

ready : IsReady doubled
ready = record { wellformed = wellformed; sorted = refl; kinded = kinded }

-- ---- the module computes
one_type : (x : ℕ) → IsOfType i2 (lost (Result x 0)) → (k : ℕ) (ty : TypeTerm) → slice_get (i2 ∷ []) k ≡ Some ty → IsOfType ty (lost (Result x k))
one_type x h zero ty e = subst (λ ty. IsOfType ty (lost (Result x 0))) (same_Some _ _ e) h
one_type x h (suc k) ty e = absurd (none-some ty e)

computes : Computing lost all_done doubled.tree
unfolding folds.fold_of folds.rule_of folds.rules words.operations words.is_inherent words.is_listed properties.is_allowed properties.is_of_kind properties.kind_of properties.property_kinds registry.row_of rows.rows
computes = record {
  fits = ((λ d e. absurd (true≢false (sym e))), ((((λ d e. absurd (true≢false (sym e))), tt), (((λ d e. inl (refl, refl)), tt), (((λ d e. inl (refl, refl)), tt), tt))), tt));
  typed = (
    ((λ k ty e. absurd (none-some ty e)), (((one_type 1 tt, tt), ((one_type 2 (refl, refl), tt), ((one_type 3 tt, tt), tt))), tt)),
    (((λ k ty e. absurd (none-some ty e)), (tt, (tt, (tt, tt)))), tt),
  );
  sure = ((λ d e. refl), ((((λ d e. refl), tt), (((λ d e. refl), tt), (((λ d e. refl), tt), tt))), tt));
  fed = ((λ d. refl), ((((λ d. refl), tt), (((λ d. refl), tt), (((λ d. refl), tt), tt))), tt));
}

-- ---- the pattern matches
abbrev here : BoundValues Value
here = Some (Result 1 0) ∷ Some (Result 2 0) ∷ None ∷ Some (Result 3 0) ∷ None ∷ None ∷ []

abbrev types : BoundValues TypeTerm
types = Some i2 ∷ []

found : FoundAt times_power doubled 3
unfolding looks.is_verified folds.fold_of folds.rule_of folds.rules words.operations words.is_inherent words.is_listed words.is_table words.is_isolated properties.is_allowed properties.is_of_kind properties.kind_of properties.property_kinds registry.row_of rows.rows
found = record { here = here; is_matched = refl; types = types; are_types = refl }

keeps_at : KeepsAt times_power doubled 3
unfolding found
keeps_at at =
    subst (λ ks. (is_kinded_at ks times_power ≡ true) × AlwaysKeeps (content_with ks times_power)) (sym (one_way times_power doubled 3 at found)) (refl, keeps_all)

pub sample_is_doubled : SampleIsDoubled
unfolding planned log_of first_below user_pattern_edits user_pattern_rewrite looks.is_verified folds.fold_of folds.rule_of folds.rules words.operations words.is_inherent words.is_listed words.is_table words.is_isolated properties.is_allowed properties.is_of_kind properties.kind_of properties.property_kinds named.flagged registry.row_of rows.rows
sample_is_doubled = (ready, computes, refl, keeps_at)

-- ---- the module is narrow
small : AllSmall (is_narrow 2) (i2 ∷ [])
small = alone_small (is_narrow 2) i2 (λ k e. subst (λ k. is_narrow 2 k ≡ true) (same_Some (kind.Int 2) k e) refl)

narrow : IsNarrow 2 doubled
narrow =
    narrow_of (is_narrow 2) doubled
    (record { results = ((λ k ty e. absurd (none-some ty e)), (((small, tt), ((small, tt), ((small, tt), tt))), tt)); arguments = (((λ k ty e. absurd (none-some ty e)), (tt, (tt, (tt, tt)))), tt) })

-- the check, at one bit and at two
two : (v : ℕ) → suc (suc v) < 2 → ⊥
two v l = omega (arith, l)

keeps_one : AlwaysKeeps (content_with (kind.Int 1 ∷ []) times_power)
unfolding log_of first_below product_of left_shift_of
keeps_one [] l = absurd l
keeps_one (zero ∷ zero ∷ []) l = refl
keeps_one (zero ∷ (suc zero) ∷ []) l = refl
keeps_one (zero ∷ (suc (suc w)) ∷ []) l = absurd (two w l.1.0)
keeps_one (zero ∷ []) l = absurd l.1
keeps_one (zero ∷ w ∷ z ∷ vs) l = absurd l.1.1
keeps_one ((suc zero) ∷ zero ∷ []) l = refl
keeps_one ((suc zero) ∷ (suc zero) ∷ []) l = refl
keeps_one ((suc zero) ∷ (suc (suc w)) ∷ []) l = absurd (two w l.1.0)
keeps_one ((suc zero) ∷ []) l = absurd l.1
keeps_one ((suc zero) ∷ w ∷ z ∷ vs) l = absurd l.1.1
keeps_one ((suc (suc v)) ∷ vs) l = absurd (two v l.0)

none_below : 1 ≤ 0 → ⊥
none_below l = omega (arith, l)

none_above : (w : ℕ) → suc (suc (suc w)) ≤ 2 → ⊥
none_above w l = omega (arith, l)

-- widths up to two are one and two
by_width : (P : List ℕ → Type 0) → P (1 ∷ []) → P (2 ∷ []) → (ws : List ℕ) → AreWidths 1 2 ws → P ws
by_width P one two [] l = absurd l
by_width P one two (zero ∷ ws) l = absurd (none_below l.0)
by_width P one two ((suc zero) ∷ []) l = one
by_width P one two ((suc zero) ∷ w ∷ ws) l = absurd l.2
by_width P one two ((suc (suc zero)) ∷ []) l = two
by_width P one two ((suc (suc zero)) ∷ w ∷ ws) l = absurd l.2
by_width P one two ((suc (suc (suc w))) ∷ ws) l = absurd (none_above w l.1)

pub holds_narrow : HoldsNarrow 2 times_power
unfolding log_of first_below product_of left_shift_of
holds_narrow = record {
  proper = record { wellformed = refl; buildable = refl; named = refl };
  passing = refl;
  settled = refl;
  kinded = by_width (λ ws. fits (kinds_with ws times_power.value_types) times_power ≡ true → is_kinded_at (kinds_with ws times_power.value_types) times_power ≡ true) (λ e. refl) (λ e. refl);
  some = omega arith;
  holds = (by_width (λ ws. AlwaysKeeps (content_at times_power ws)) keeps_one keeps_all, (2 ∷ [], 3 ∷ 2 ∷ [], (omega arith, omega arith, tt), (omega arith, (omega arith, tt)), refl));
}

pub sample_is_narrow : SampleIsNarrow
sample_is_narrow = (holds_narrow, narrow)
