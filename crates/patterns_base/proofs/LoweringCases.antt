-- The rules on index at operations of small modules; a reference program outside this project computed the expected
-- results.
use Rattle.std.proofs.Common.{◌≡◌, List, [], ◌∷◌, true, false, refl}
use Rattle.std.specs.Prelude.{codes, map}
use Rattle.ir_types.specs.Terms.{Index, Overflow, Flag}
use Rattle.ir_types.specs.Words as words
use Rattle.ir_types.specs.Readings as readings
use Rattle.ir_tree.specs.declared.value.Value.TheVariants.{Result, Arg}
use Rattle.ir_tree.specs.Tree.{no_regions, region, empty}
use Rattle.op_registry.specs.Registry as registry
use Rattle.op_registry.specs.Rows as rows
use Rattle.op_registry.specs.Properties as properties
use Rattle.patterns_laws.specs.integers.Arithmetic as arithmetic
use Rattle.patterns_laws.specs.integers.Folds as folds
use Rattle.patterns_laws.specs.Made.{i1, i64}
use Rattle.patterns_laws.specs.Words as named
use Rattle.patterns_base.specs.declared.rule.Rule.TheVariants.{LowerIndex, LowerLoop, LowerChoice}
use Rattle.patterns_base.specs.Looks.{is_verified, is_in_order, is_erasable, known}
use Rattle.patterns_base.specs.Casting.{resizing}
use Rattle.patterns_base.specs.Rules.{rule}
use Rattle.patterns_base.specs.Rewrites.{none, becomes, edits_of, rewrite_of, eligible}
use Rattle.patterns_base.proofs.Small.{i8, Case, at_rule, answer, body, holding, source, number, user, bridged, simple, compared, whole}

abbrev lower_index_sum : Case
lower_index_sum =
    at_rule LowerIndex 2
    (holding 4 (
    source 1 Index
    ∷ whole 2 (codes "arith.addi") (Result 1 0 ∷ Result 1 0 ∷ []) (Index ∷ []) ((codes "overflowFlags", Overflow false true) ∷ []) ((codes "note", Flag) ∷ []) no_regions
    ∷ user 3 (Result 2 0)
    ∷ []))
    (becomes (holding 8 (
    source 1 Index
    ∷ bridged 4 i64 (Result 1 0)
    ∷ bridged 5 i64 (Result 1 0)
    ∷ whole 6 (codes "arith.addi") (Result 4 0 ∷ Result 5 0 ∷ []) (i64 ∷ []) ((codes "overflowFlags", Overflow false true) ∷ []) ((codes "note", Flag) ∷ []) no_regions
    ∷ bridged 7 Index (Result 6 0)
    ∷ user 3 (Result 7 0)
    ∷ [])))

abbrev lower_index_constant : Case
lower_index_constant =
    at_rule LowerIndex 1
    (holding 3 (
    number 1 Index 18446744073709551615
    ∷ user 2 (Result 1 0)
    ∷ []))
    (becomes (holding 5 (
    number 3 i64 18446744073709551615
    ∷ bridged 4 Index (Result 3 0)
    ∷ user 2 (Result 4 0)
    ∷ [])))

abbrev lower_index_comparison : Case
lower_index_comparison =
    at_rule LowerIndex 2
    (holding 4 (
    source 1 Index
    ∷ compared 2 2 (Result 1 0) (Result 1 0)
    ∷ user 3 (Result 2 0)
    ∷ []))
    (becomes (holding 7 (
    source 1 Index
    ∷ bridged 4 i64 (Result 1 0)
    ∷ bridged 5 i64 (Result 1 0)
    ∷ compared 6 2 (Result 4 0) (Result 5 0)
    ∷ user 3 (Result 6 0)
    ∷ [])))

abbrev lower_index_choice : Case
lower_index_choice =
    at_rule LowerIndex 3
    (holding 5 (
    source 1 i1
    ∷ source 2 Index
    ∷ simple 3 (codes "arith.select") (Result 1 0 ∷ Result 2 0 ∷ Result 2 0 ∷ []) (Index ∷ [])
    ∷ user 4 (Result 3 0)
    ∷ []))
    (becomes (holding 9 (
    source 1 i1
    ∷ source 2 Index
    ∷ bridged 5 i64 (Result 2 0)
    ∷ bridged 6 i64 (Result 2 0)
    ∷ simple 7 (codes "arith.select") (Result 1 0 ∷ Result 5 0 ∷ Result 6 0 ∷ []) (i64 ∷ [])
    ∷ bridged 8 Index (Result 7 0)
    ∷ user 4 (Result 8 0)
    ∷ [])))

abbrev lower_index_no_index : Case
lower_index_no_index =
    at_rule LowerIndex 2
    (holding 4 (
    source 1 i8
    ∷ simple 2 (codes "arith.addi") (Result 1 0 ∷ Result 1 0 ∷ []) (i8 ∷ [])
    ∷ user 3 (Result 2 0)
    ∷ []))
    none

abbrev lower_loop_loop : Case
lower_loop_loop =
    at_rule LowerLoop 3
    (holding 7 (
    source 1 Index
    ∷ source 2 i8
    ∷ whole 3 (codes "scf.for") (Result 1 0 ∷ Result 1 0 ∷ Result 1 0 ∷ Result 2 0 ∷ Result 1 0 ∷ []) (i8 ∷ Index ∷ []) [] ((codes "note", Flag) ∷ [])
    (region (body (Index ∷ i8 ∷ Index ∷ []) (
    simple 4 (codes "t.f") (Arg 3 0 0 ∷ Arg 3 0 1 ∷ Arg 3 0 2 ∷ []) []
    ∷ simple 5 (codes "scf.yield") (Arg 3 0 1 ∷ Arg 3 0 0 ∷ []) []
    ∷ [])) no_regions)
    ∷ user 6 (Result 3 1)
    ∷ []))
    (becomes (holding 19 (
    source 1 Index
    ∷ source 2 i8
    ∷ bridged 7 i64 (Result 1 0)
    ∷ bridged 8 i64 (Result 1 0)
    ∷ bridged 9 i64 (Result 1 0)
    ∷ bridged 10 i64 (Result 1 0)
    ∷ whole 14 (codes "scf.for") (Result 7 0 ∷ Result 8 0 ∷ Result 9 0 ∷ Result 2 0 ∷ Result 10 0 ∷ []) (i8 ∷ i64 ∷ []) [] ((codes "note", Flag) ∷ [])
    (region (body (i64 ∷ i8 ∷ i64 ∷ []) (
    bridged 15 Index (Arg 14 0 0)
    ∷ bridged 16 Index (Arg 14 0 2)
    ∷ simple 4 (codes "t.f") (Result 15 0 ∷ Arg 14 0 1 ∷ Result 16 0 ∷ []) []
    ∷ bridged 17 i64 (Result 15 0)
    ∷ simple 5 (codes "scf.yield") (Arg 14 0 1 ∷ Result 17 0 ∷ []) []
    ∷ [])) no_regions)
    ∷ bridged 18 Index (Result 14 1)
    ∷ user 6 (Result 18 0)
    ∷ [])))

abbrev lower_loop_no_index : Case
lower_loop_no_index =
    at_rule LowerLoop 2
    (holding 4 (
    source 1 i8
    ∷ whole 2 (codes "scf.for") (Result 1 0 ∷ Result 1 0 ∷ Result 1 0 ∷ []) [] [] []
    (region (body (i8 ∷ []) (simple 3 (codes "scf.yield") [] [] ∷ [])) no_regions)
    ∷ []))
    none

abbrev lower_choice_if : Case
lower_choice_if =
    at_rule LowerChoice 3
    (holding 8 (
    source 1 i1
    ∷ source 2 Index
    ∷ whole 3 (codes "scf.if") (Result 1 0 ∷ []) (Index ∷ i1 ∷ []) [] []
    (region (body [] (
    simple 4 (codes "t.x") [] []
    ∷ simple 5 (codes "scf.yield") (Result 2 0 ∷ Result 1 0 ∷ []) []
    ∷ [])) (region (body [] (simple 6 (codes "scf.yield") (Result 2 0 ∷ Result 1 0 ∷ []) [] ∷ [])) no_regions))
    ∷ user 7 (Result 3 0)
    ∷ []))
    (becomes (holding 12 (
    source 1 i1
    ∷ source 2 Index
    ∷ whole 8 (codes "scf.if") (Result 1 0 ∷ []) (i64 ∷ i1 ∷ []) [] []
    (region (body [] (
    simple 4 (codes "t.x") [] []
    ∷ bridged 9 i64 (Result 2 0)
    ∷ simple 5 (codes "scf.yield") (Result 9 0 ∷ Result 1 0 ∷ []) []
    ∷ [])) (region (body [] (
    bridged 10 i64 (Result 2 0)
    ∷ simple 6 (codes "scf.yield") (Result 10 0 ∷ Result 1 0 ∷ []) []
    ∷ [])) no_regions))
    ∷ bridged 11 Index (Result 8 0)
    ∷ user 7 (Result 11 0)
    ∷ [])))

abbrev lower_choice_no_index : Case
lower_choice_no_index =
    at_rule LowerChoice 2
    (holding 4 (
    source 1 i1
    ∷ whole 2 (codes "scf.if") (Result 1 0 ∷ []) [] [] []
    (region (body [] (simple 3 (codes "scf.yield") [] [] ∷ [])) (region empty no_regions))
    ∷ []))
    none

abbrev cases : List Case
cases =
    lower_index_sum ∷ lower_index_constant ∷ lower_index_comparison ∷ lower_index_choice ∷ lower_index_no_index ∷ lower_loop_loop
    ∷ lower_loop_no_index ∷ lower_choice_if ∷ lower_choice_no_index ∷ []

-- each result is that of the definitions (to find one that isn't, shorten the list)
pub answered : map answer cases ≡ map (λ c. c.after) cases
unfolding rewrite_of edits_of rule is_verified is_in_order eligible is_erasable known resizing registry.row_of rows.rows words.operations words.is_inherent words.is_listed words.is_table words.is_isolated properties.is_allowed properties.is_of_kind properties.kind_of properties.property_kinds folds.fold_of folds.rule_of folds.rules folds.predicates arithmetic.absorbs arithmetic.sum_of arithmetic.difference_of arithmetic.product_of arithmetic.signed_quotient_of arithmetic.signed_remainder_of arithmetic.quotient_of arithmetic.remainder_of readings.signed_of readings.wrapped named.commutative named.with_zero_as_right_identity named.with_one_as_right_identity named.self_inverse named.idempotent named.remainders named.associative named.extensions named.index_casts named.arithmetic named.index_users named.flagged named.predicate_of_min_max named.division_of_remainder
answered = refl
