-- The sample whose type variable has two numbers satisfies the premises of the law of a check.
use Rattle.std.proofs.Common.{zero, suc, refl, ap, sym, [], ◌∷◌, Some, None, arith}
use Rattle.std.specs.Prelude.{is_some}
use Rattle.std.proofs.lemmas.Option.{none-some, same_Some}
use Rattle.ir_types.specs.Terms.{TypeTerm}
use Rattle.ir_types.specs.Words as words
use Rattle.op_registry.specs.Registry as registry
use Rattle.op_registry.specs.Rows as rows
use Rattle.op_registry.specs.Properties as properties
use Rattle.dialects_int.specs.Folds as folds
use Rattle.dialects_int.specs.Folds.{kind_of}
use Rattle.user_patterns_check.specs.Cases.{first_below}
use Rattle.patterns_laws.specs.Words as named
use Rattle.user_patterns_check.specs.Outcomes.{log_of}
use Rattle.user_patterns_data.specs.Matching.{BoundValues}
use Rattle.user_patterns_data.specs.Planning.{planned}
use Rattle.user_patterns_build.specs.Unified.{united}
use Rattle.patterns_refinement.specs.Applied.{AreOfKinds, IsFound}
use Rattle.patterns_refinement.specs.Samples.{SampleIsChecked, all_done, each, i2, outcomes, tree, twice}
use Rattle.patterns_refinement.proofs.PassingSampled.{holds_narrow}
use Rattle.patterns_refinement.proofs.Sampled.{here, known_here}

-- no type is bound to the second number
abbrev types : BoundValues TypeTerm
types = Some i2 ∷ None ∷ []

are_of_kinds : AreOfKinds types
are_of_kinds zero ty e = ap (λ ty. is_some (kind_of ty)) (sym (same_Some _ _ e))
are_of_kinds (suc zero) ty e = absurd (none-some ty e)
are_of_kinds (suc (suc i)) ty e = absurd (none-some ty e)

found : IsFound tree each 4 (united twice) 3 outcomes all_done
found = record {
  here = here;
  is_matched = refl;
  types = types;
  are_types = refl;
  of_kinds = are_of_kinds;
  are_done = λ i v h s g. refl;
  are_unbroken = λ i v h s g f. known_here i v s;
  variables = λ i v l s. known_here i v s;
}

pub sample_is_checked : SampleIsChecked
unfolding found planned log_of first_below folds.fold_of folds.rule_of folds.rules words.operations words.is_inherent words.is_listed properties.is_allowed properties.is_of_kind properties.kind_of properties.property_kinds named.flagged registry.row_of rows.rows
sample_is_checked =
    (record { wellformed = refl; buildable = refl; named = refl }, holds_narrow.holds, (omega arith, omega arith, tt), (found, refl, refl, refl), refl)
