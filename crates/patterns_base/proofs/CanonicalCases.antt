-- Canonicalization of a small module; a reference program outside this project computed the expected result.
use Rattle.std.proofs.Common.{◌≡◌, [], ◌∷◌, false, refl}
use Rattle.std.specs.Prelude.{codes}
use Rattle.ir_types.specs.Terms.{Overflow}
use Rattle.ir_types.specs.declared.refusal.Refusal.TheVariants.{BadLimit}
use Rattle.ir_types.specs.Words as words
use Rattle.ir_types.specs.Readings as readings
use Rattle.ir_tree.specs.declared.value.Value.TheVariants.{Result}
use Rattle.rewriter_machine.specs.events.Modules.{Module}
use Rattle.op_registry.specs.Registry as registry
use Rattle.op_registry.specs.Rows as rows
use Rattle.op_registry.specs.Properties as properties
use Rattle.patterns_laws.specs.integers.Arithmetic as arithmetic
use Rattle.patterns_laws.specs.integers.Folds as folds
use Rattle.patterns_laws.specs.Words as named
use Rattle.patterns_base.specs.Looks.{is_verified, is_in_order, is_erasable, known}
use Rattle.patterns_base.specs.Casting.{resizing}
use Rattle.patterns_base.specs.RuleNames.{all_rules}
use Rattle.patterns_base.specs.Rules.{rule}
use Rattle.patterns_base.specs.Rewrites.{edits_of, rewrite_of, eligible}
use Rattle.patterns_base.specs.Canonicalization.{aborted, ended, converged, limited, first_rule, first_among, canonical_from, most_rewrites, canonicalization_of}
use Rattle.patterns_base.proofs.Small.{i8, holding, source, number, user, simple, kept}

-- the sum of a constant, a value and a constant
abbrev sum : Module
sum =
    holding 7 (
    number 1 i8 3
    ∷ number 2 i8 4
    ∷ source 3 i8
    ∷ simple 4 (codes "arith.addi") (Result 1 0 ∷ Result 3 0 ∷ []) (i8 ∷ [])
    ∷ simple 5 (codes "arith.addi") (Result 4 0 ∷ Result 2 0 ∷ []) (i8 ∷ [])
    ∷ user 6 (Result 5 0)
    ∷ [])

-- the sum of a value and one constant: operands swapped, constants regrouped, three operations erased
abbrev canonical : Module
canonical =
    holding 9 (
    source 3 i8
    ∷ number 7 i8 7
    ∷ kept 8 (codes "arith.addi") (Result 3 0 ∷ Result 7 0 ∷ []) (i8 ∷ []) ((codes "overflowFlags", Overflow false false) ∷ [])
    ∷ user 6 (Result 8 0)
    ∷ [])

-- after the first two rewrites
abbrev regrouped : Module
regrouped =
    holding 9 (
    number 1 i8 3
    ∷ number 2 i8 4
    ∷ source 3 i8
    ∷ simple 4 (codes "arith.addi") (Result 3 0 ∷ Result 1 0 ∷ []) (i8 ∷ [])
    ∷ number 7 i8 7
    ∷ kept 8 (codes "arith.addi") (Result 3 0 ∷ Result 7 0 ∷ []) (i8 ∷ []) ((codes "overflowFlags", Overflow false false) ∷ [])
    ∷ user 6 (Result 8 0)
    ∷ [])

pub converges : canonicalization_of 10 sum ≡ ended canonical 5 converged
unfolding all_rules rewrite_of edits_of rule is_verified is_in_order eligible is_erasable known resizing registry.row_of rows.rows words.operations words.is_inherent words.is_listed words.is_table words.is_isolated properties.is_allowed properties.is_of_kind properties.kind_of properties.property_kinds folds.fold_of folds.rule_of folds.rules folds.predicates arithmetic.absorbs arithmetic.sum_of arithmetic.difference_of arithmetic.product_of arithmetic.signed_quotient_of arithmetic.signed_remainder_of arithmetic.quotient_of arithmetic.remainder_of readings.signed_of readings.wrapped named.commutative named.with_zero_as_right_identity named.with_one_as_right_identity named.self_inverse named.idempotent named.remainders named.associative named.extensions named.index_casts named.arithmetic named.index_users named.flagged named.predicate_of_min_max named.division_of_remainder first_rule first_among canonical_from most_rewrites canonicalization_of
converges = refl

pub stops_at_the_limit : canonicalization_of 2 sum ≡ ended regrouped 2 limited
unfolding all_rules rewrite_of edits_of rule is_verified is_in_order eligible is_erasable known resizing registry.row_of rows.rows words.operations words.is_inherent words.is_listed words.is_table words.is_isolated properties.is_allowed properties.is_of_kind properties.kind_of properties.property_kinds folds.fold_of folds.rule_of folds.rules folds.predicates arithmetic.absorbs arithmetic.sum_of arithmetic.difference_of arithmetic.product_of arithmetic.signed_quotient_of arithmetic.signed_remainder_of arithmetic.quotient_of arithmetic.remainder_of readings.signed_of readings.wrapped named.commutative named.with_zero_as_right_identity named.with_one_as_right_identity named.self_inverse named.idempotent named.remainders named.associative named.extensions named.index_casts named.arithmetic named.index_users named.flagged named.predicate_of_min_max named.division_of_remainder first_rule first_among canonical_from most_rewrites canonicalization_of
stops_at_the_limit = refl

pub converges_at_the_limit : canonicalization_of 5 sum ≡ ended canonical 5 converged
unfolding all_rules rewrite_of edits_of rule is_verified is_in_order eligible is_erasable known resizing registry.row_of rows.rows words.operations words.is_inherent words.is_listed words.is_table words.is_isolated properties.is_allowed properties.is_of_kind properties.kind_of properties.property_kinds folds.fold_of folds.rule_of folds.rules folds.predicates arithmetic.absorbs arithmetic.sum_of arithmetic.difference_of arithmetic.product_of arithmetic.signed_quotient_of arithmetic.signed_remainder_of arithmetic.quotient_of arithmetic.remainder_of readings.signed_of readings.wrapped named.commutative named.with_zero_as_right_identity named.with_one_as_right_identity named.self_inverse named.idempotent named.remainders named.associative named.extensions named.index_casts named.arithmetic named.index_users named.flagged named.predicate_of_min_max named.division_of_remainder first_rule first_among canonical_from most_rewrites canonicalization_of
converges_at_the_limit = refl

pub no_limit : canonicalization_of 0 sum ≡ aborted BadLimit
unfolding most_rewrites canonicalization_of
no_limit = refl

pub past_the_greatest_limit : canonicalization_of 1000001 sum ≡ aborted BadLimit
unfolding most_rewrites canonicalization_of
past_the_greatest_limit = refl
