-- The module of the samples of refinement has no diagnostics, computes, and a rule applies in it.
use Rattle.patterns_refinement.specs.Observing.{shown_regions}
use Rattle.user_patterns_data.specs.Matching.{Header}
use Rattle.std.specs.List.{filter}
use Rattle.std.specs.Prelude.{if◌then◌else◌}
use Rattle.std.proofs.Common.{◌≡◌, ℕ, zero, suc, refl, sym, subst, ◌<◌, [], ◌∷◌, true≢false, Some, None, true, slice_get, get_or, inl, arith, ap, ◌∙◌, map, Bool, eqb, List}
use Rattle.std.proofs.lemmas.Option.{none-some, same_Some}
use Rattle.std.proofs.lemmas.Map.Made.{IsDistinct-from_count}
use Rattle.std.proofs.lemmas.Cmp.{nat_eq_equiv}
use Rattle.ir_types.specs.declared.bits.BitsKind.TheVariants as kind
use Rattle.ir_types.specs.Terms.{TypeTerm}
use Rattle.ir_types.specs.Words as words
use Rattle.ir_types.specs.Words.{is_isolated}
use Rattle.ir_tree.specs.declared.value.Value.{Value}
use Rattle.ir_tree.specs.declared.value.Value.TheVariants.{Arg, Result}
use Rattle.ir_tree.specs.Tree.{no_ops, regions}
use Rattle.ir_event.specs.Modules.{Module}
use Rattle.ir_tree.specs.WellFormed.{IsWellFormed}
use Rattle.op_registry.specs.Registry as registry
use Rattle.op_registry.specs.Rows as rows
use Rattle.op_registry.specs.Properties as properties
use Rattle.dialects_int.specs.Arithmetic.{absorbs, sum_of}
use Rattle.dialects_int.specs.Folds as folds
use Rattle.patterns_laws.specs.Words as lists
use Rattle.patterns_base.specs.Looks as looks
use Rattle.patterns_base.specs.Rewrites as rewrites
use Rattle.patterns_base.specs.Rewrites.{becomes, rewrite_of}
use Rattle.patterns_base.specs.Rules as rule_table
use Rattle.patterns_base.specs.RuleNames as rule_names
use Rattle.patterns_base.specs.Casting as casting
use Rattle.patterns_base.specs.Canonicalization as canons
use Rattle.patterns_base.specs.Canonicalization.{canonicalization_of, converged, ended}
use Rattle.patterns_base.specs.declared.rule.Rule.TheVariants.{DropZero}
use Rattle.patterns_base.specs.Diagnostics.{diagnostics_of}
use Rattle.patterns_refinement.specs.Meaning.{Each, IsOfType, Assignment}
use Rattle.patterns_refinement.specs.Better.{gives}
use Rattle.patterns_refinement.specs.Canonical.{IsPlain}
use Rattle.patterns_refinement.specs.Choices.{AreOrigins, Origins}
use Rattle.patterns_refinement.specs.Keeping.{Computing}
use Rattle.patterns_refinement.specs.ObservingSamples.{i8, function_of, module_of, returning, storing, summing}
use Rattle.patterns_refinement.specs.Refining.{ObservationsRefine, observed, Refined, lasting, observation}
use Rattle.patterns_refinement.specs.RefiningSamples.{SampleIsRefined, after, arguments_of, before, canonical, ending_observed, five, functions_observed, memory, SamplesArentRefined}
use Rattle.patterns_refinement.specs.Samples.{all_done}
use Rattle.patterns_refinement.specs.Verified.{IsVerified, is_in_range, is_within}
use Rattle.patterns_refinement.proofs.ShowingSampled.{arguments_stand, arguments_unused, never}

below : (k d : ℕ) → k < 8 → get_or (0 ∷ 1 ∷ 2 ∷ 3 ∷ 4 ∷ 5 ∷ 6 ∷ 7 ∷ []) k d < 8
below zero d l = omega arith
below (suc zero) d l = omega arith
below (suc (suc zero)) d l = omega arith
below (suc (suc (suc zero))) d l = omega arith
below (suc (suc (suc (suc zero)))) d l = omega arith
below (suc (suc (suc (suc (suc zero))))) d l = omega arith
below (suc (suc (suc (suc (suc (suc zero)))))) d l = omega arith
below (suc (suc (suc (suc (suc (suc (suc zero))))))) d l = omega arith
below (suc (suc (suc (suc (suc (suc (suc (suc k)))))))) d l = absurd (eight k l)
  where
    eight : (k : ℕ) → suc (suc (suc (suc (suc (suc (suc (suc k))))))) < 8 → ⊥
    eight k l = omega (arith, l)

wellformed : IsWellFormed is_isolated before
unfolding words.operations words.is_listed words.is_table words.is_isolated
wellformed = record {
  distinct = IsDistinct-from_count nat_eq_equiv (0 ∷ 1 ∷ 2 ∷ 3 ∷ 4 ∷ 5 ∷ 6 ∷ 7 ∷ []) refl;
  below = below;
  next = omega arith;
  wellformed = record { visible = refl; shallow = omega arith; counts = refl };
}

in_range : Each (λ h. is_in_range h ≡ true) before.tree
unfolding folds.fold_of folds.rule_of folds.rules words.operations words.is_inherent words.is_listed properties.is_allowed properties.is_of_kind properties.kind_of properties.property_kinds registry.row_of rows.rows
in_range = (refl, (((refl, (tt, tt)), ((refl, (((refl, tt), ((refl, tt), ((refl, tt), ((refl, tt), ((refl, tt), tt))))), tt)), tt)), tt))

within : Each (λ h. is_within before.tree h ≡ true) before.tree
unfolding folds.rule_of folds.rules registry.row_of rows.rows
within = (refl, (((refl, (tt, tt)), ((refl, (((refl, tt), ((refl, tt), ((refl, tt), ((refl, tt), ((refl, tt), tt))))), tt)), tt)), tt))

reports_nothing : diagnostics_of before.tree ≡ []
unfolding words.operations words.is_inherent words.is_listed words.is_isolated words.is_table properties.is_allowed properties.is_of_kind properties.kind_of properties.property_kinds registry.row_of rows.rows
reports_nothing = refl

verified : IsVerified before
verified = record { wellformed = wellformed; sorted = refl; in_range = in_range; within = within; reports_nothing = reports_nothing }

-- ---- the module computes
no_result : (x k : ℕ) (ty : TypeTerm) → slice_get [] k ≡ Some ty → IsOfType ty (five (Result x k))
no_result x k ty e = absurd (none-some ty e)

one_type : (x : ℕ) → IsOfType i8 (five (Result x 0)) → (k : ℕ) (ty : TypeTerm) → slice_get (i8 ∷ []) k ≡ Some ty → IsOfType ty (five (Result x k))
one_type x h zero ty e = subst (λ ty. IsOfType ty (five (Result x 0))) (same_Some _ _ e) h
one_type x h (suc k) ty e = absurd (none-some ty e)

arguments_typed : (k : ℕ) (ty : TypeTerm) → slice_get (i8 ∷ memory ∷ []) k ≡ Some ty → IsOfType ty (five (Arg 2 0 k))
arguments_typed zero ty e = subst (λ ty. IsOfType ty (five (Arg 2 0 0))) (same_Some _ _ e) (refl, refl)
arguments_typed (suc zero) ty e = tt
arguments_typed (suc (suc k)) ty e = absurd (none-some ty e)

computes : Computing five all_done before.tree
unfolding folds.fold_of folds.rule_of folds.rules words.operations words.is_inherent words.is_listed properties.is_allowed properties.is_of_kind properties.kind_of properties.property_kinds registry.row_of rows.rows sum_of
computes = record {
  fits = (
    (λ d e. absurd (true≢false (sym e))),
    (
      (
        ((λ d e. absurd (true≢false (sym e))), (tt, tt)),
        (
          (
            (λ d e. absurd (true≢false (sym e))),
            ((((λ d e. inl (refl, refl)), tt), (((λ d e. inl (refl, refl)), tt), (((λ d e. absurd (true≢false (sym e))), tt), (((λ d e. absurd (true≢false (sym e))), tt), (((λ d e. absurd (true≢false (sym e))), tt), tt))))), tt),
          ),
          tt,
        ),
      ),
      tt,
    ),
  );
  typed = (
    (no_result 0, (((no_result 1, (tt, tt)), ((no_result 2, (((one_type 3 (refl, refl), tt), ((one_type 4 (refl, refl), tt), ((no_result 5, tt), ((one_type 6 (refl, refl), tt), ((no_result 7, tt), tt))))), tt)), tt)), tt)),
    (((λ k ty e. absurd (none-some ty e)), ((tt, tt), (((arguments_typed, (tt, (tt, (tt, (tt, (tt, tt)))))), tt), tt))), tt),
  );
  sure = (
    (λ d e. refl),
    ((((λ d e. refl), (tt, tt)), (((λ d e. refl), ((((λ d e. refl), tt), (((λ d e. refl), tt), (((λ d e. refl), tt), (((λ d e. refl), tt), (((λ d e. refl), tt), tt))))), tt)), tt)), tt),
  );
  fed = (
    (λ d. refl),
    ((((λ d. refl), (tt, tt)), (((λ d. refl), ((((λ d. refl), tt), (((λ d. refl), tt), (((λ d. refl), tt), (((λ d. refl), tt), (((λ d. refl), tt), tt))))), tt)), tt)), tt),
  );
}

-- ---- what its values represent
origins : AreOrigins 8 five (arguments_of 2) all_done before.tree
unfolding folds.rule_of folds.rules
origins = record {
  chosen = ((λ e. never e), ((((λ e. never e), (tt, tt)), (((λ e. never e), ((((λ e. never e), tt), (((λ e. never e), tt), (((λ e. never e), tt), (((λ e. never e), tt), (((λ e. never e), tt), tt))))), tt)), tt)), tt));
  computed = computed;
  unused = arguments_unused 2 8 (omega arith);
}
  where
    computed : (v : Value) → gives (λ x. true) before.tree v ≡ true → arguments_of 2 v ≡ None
    computed (Result x k) e = refl
    computed (Arg x r k) e = never e

-- ---- the rule applies
applies : rewrite_of DropZero before 4 ≡ becomes after
unfolding rewrites.rewrite_of rewrites.edits_of rewrites.eligible rule_table.rule rule_table.rules_for rule_table.table looks.is_verified looks.known lists.with_zero_as_right_identity folds.fold_of folds.rule_of folds.rules words.operations words.is_inherent words.is_listed words.is_table words.is_isolated properties.is_allowed properties.is_of_kind properties.kind_of properties.property_kinds registry.row_of rows.rows
applies = refl

canonicalizes : canonicalization_of 10 before ≡ ended canonical 2 converged
unfolding canons.canonicalization_of canons.canonical_from canons.most_rewrites canons.first_rule canons.first_among rewrites.rewrite_of rewrites.edits_of rewrites.eligible rule_table.rule rule_table.rules_for rule_table.table rule_names.all_rules looks.is_verified looks.is_in_order looks.is_erasable looks.known lists.commutative lists.with_zero_as_right_identity lists.with_one_as_right_identity lists.self_inverse lists.idempotent lists.remainders lists.associative lists.extensions lists.index_casts lists.arithmetic lists.index_users lists.flagged lists.predicate_of_min_max lists.division_of_remainder casting.resizing folds.fold_of folds.rule_of folds.rules words.operations words.is_inherent words.is_listed words.is_table words.is_isolated properties.is_allowed properties.is_of_kind properties.kind_of properties.property_kinds registry.row_of rows.rows sum_of absorbs
canonicalizes = refl

-- ---- observations
observed_before : observed five (arguments_of 2) all_done before.tree ≡ functions_observed (ending_observed (record { value = None; outcome = Some (kind.Int 8, 5) }))
unfolding folds.rule_of folds.rules registry.row_of rows.rows
observed_before = refl

observed_after : observed five (arguments_of 2) all_done after.tree ≡ functions_observed (ending_observed (record { value = Some (Arg 2 0 0); outcome = Some (kind.Int 8, 5) }))
unfolding folds.rule_of folds.rules registry.row_of rows.rows
observed_after = refl

observed_canonical : observed five (arguments_of 2) all_done canonical.tree ≡ observed five (arguments_of 2) all_done after.tree
unfolding folds.rule_of folds.rules registry.row_of rows.rows
observed_canonical = refl

simple : IsPlain before
unfolding rule_table.rules_for rule_table.table
simple = (refl, (((refl, (tt, tt)), ((refl, (((refl, tt), ((refl, tt), ((refl, tt), ((refl, tt), ((refl, tt), tt))))), tt)), tt)), tt))

refined : ObservationsRefine (observed five (arguments_of 2) all_done before.tree) (observed five (arguments_of 2) all_done after.tree)
unfolding folds.rule_of folds.rules registry.row_of rows.rows
refined = (refl, tt, (refl, tt, (refl, (tt, refl, (refl, refl, tt)), (refl, (tt, refl, tt), (refl, (tt, refl, tt), tt)))))

pub sample_is_refined : SampleIsRefined
sample_is_refined = record { verified = verified; computing = computes; origins = origins; applies = applies; simple = simple; canonicalizes = canonicalizes; observed_canonical = observed_canonical; observed_before = observed_before; observed_after = observed_after; refined = refined }

-- ---- modules that are no refinements
abbrev AllDone : (ℕ → Bool) → List Header → Type 0
AllDone done [] = Unit {0}
AllDone done (h ∷ hs) = (done h.id ≡ true) × AllDone done hs

all_left : (done : ℕ → Bool) (hs : List Header) → AllDone done hs → filter (λ (h : Header). done h.id) hs ≡ hs
all_left done [] s = refl
all_left done (h ∷ hs) s =
    ap (λ c. if c then h ∷ filter (λ (h : Header). done h.id) hs else filter (λ (h : Header). done h.id) hs) s.0 ∙ ap (λ l. h ∷ l) (all_left done hs s.1)

abbrev pub which : Value → ℕ
which (Result x k) = k
which (Arg x r k) = k

-- if all operations are executed, all are seen
module _ (a : Assignment) (o : Origins) (m n : Module) (r : Refined a o all_done m n) where
  pub seen : AllDone r.later (lasting (shown_regions (regions n.tree)))
      → ObservationsRefine (map (observation a o) (filter (λ (h : Header). true) (lasting (shown_regions (regions m.tree))))) (map (observation r.now o) (lasting (shown_regions (regions n.tree))))
  seen s = subst (λ l. ObservationsRefine (observed a o all_done m.tree) (map (observation r.now o) l)) (all_left r.later (lasting (shown_regions (regions n.tree))) s) r.refined

wiping : (a : Assignment) (o : Origins) → Refined a o all_done (function_of 5 (returning (Arg 1 0 0))) (module_of 5 no_ops) → ⊥
unfolding folds.rule_of folds.rules registry.row_of rows.rows
wiping a o r = seen a o (function_of 5 (returning (Arg 1 0 0))) (module_of 5 no_ops) r tt

other_argument : (a : Assignment) → Refined a (arguments_of 1) all_done (function_of 5 (returning (Arg 1 0 0))) (function_of 5 (returning (Arg 1 0 1))) → ⊥
unfolding folds.rule_of folds.rules registry.row_of rows.rows
other_argument a r =
    let s = seen a (arguments_of 1) (function_of 5 (returning (Arg 1 0 0))) (function_of 5 (returning (Arg 1 0 1))) r (r.same 1 (omega arith), (r.same 4 (omega arith), tt)) in
    never (ap (λ v. eqb (which v) 0) (same_Some (Arg 1 0 1) (Arg 1 0 0) s.2.1.0))

erased_store : (a : Assignment) (o : Origins) → Refined a o all_done (function_of 5 (summing (storing (returning (Result 2 0))))) (function_of 5 (summing (returning (Result 2 0)))) → ⊥
unfolding folds.rule_of folds.rules registry.row_of rows.rows
erased_store a o r =
    let s = seen a o (function_of 5 (summing (storing (returning (Result 2 0))))) (function_of 5 (summing (returning (Result 2 0)))) r (r.same 1 (omega arith), (r.same 4 (omega arith), tt)) in
    never (sym (ap (λ (h : Header). eqb h.id 3) s.2.0))

pub samples_arent_refined : SamplesArentRefined
samples_arent_refined = record { wiping = wiping; origins = λ a. arguments_stand a all_done; other_argument = other_argument; erased_store = erased_store }
