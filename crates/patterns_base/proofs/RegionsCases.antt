-- The rules on casts, branches and loops at operations of small modules; a reference program outside this project
-- computed the expected results.
use Rattle.std.proofs.Common.{◌≡◌, List, [], ◌∷◌, refl}
use Rattle.std.specs.Prelude.{codes, map}
use Rattle.ir_types.specs.Terms.{Index}
use Rattle.ir_types.specs.Words as words
use Rattle.ir_types.specs.Readings as readings
use Rattle.ir_tree.specs.declared.value.Value.TheVariants.{Result, Arg}
use Rattle.ir_tree.specs.Tree.{no_regions, region, empty}
use Rattle.op_registry.specs.Registry as registry
use Rattle.op_registry.specs.Rows as rows
use Rattle.op_registry.specs.Properties as properties
use Rattle.patterns_laws.specs.integers.Arithmetic as arithmetic
use Rattle.patterns_laws.specs.integers.Folds as folds
use Rattle.patterns_laws.specs.Made.{i1, i64}
use Rattle.patterns_laws.specs.Words as named
use Rattle.patterns_base.specs.declared.rule.Rule.TheVariants.{ExtendExtension, CutCast, CastBack, OpenBranch}
use Rattle.patterns_base.specs.declared.rule.Rule.TheVariants.{OpenLoop, StopLoop}
use Rattle.patterns_base.specs.Looks.{is_verified, is_in_order, is_erasable, known}
use Rattle.patterns_base.specs.Casting.{resizing}
use Rattle.patterns_base.specs.Rules.{rule}
use Rattle.patterns_base.specs.Rewrites.{none, becomes, edits_of, rewrite_of, eligible}
use Rattle.patterns_base.proofs.Small.{i8, i16, i32, i63, i65, Case, at_rule, answer, body, holding, source, number, user, bridged, simple, whole}

abbrev extend_extension_signed_of_unsigned : Case
extend_extension_signed_of_unsigned =
    at_rule ExtendExtension 3
    (holding 5 (
    source 1 i8
    ∷ simple 2 (codes "arith.extui") (Result 1 0 ∷ []) (i16 ∷ [])
    ∷ simple 3 (codes "arith.extsi") (Result 2 0 ∷ []) (i32 ∷ [])
    ∷ user 4 (Result 3 0)
    ∷ []))
    (becomes (holding 6 (
    source 1 i8
    ∷ simple 2 (codes "arith.extui") (Result 1 0 ∷ []) (i16 ∷ [])
    ∷ simple 5 (codes "arith.extui") (Result 1 0 ∷ []) (i32 ∷ [])
    ∷ user 4 (Result 5 0)
    ∷ [])))

abbrev extend_extension_unsigned_of_signed : Case
extend_extension_unsigned_of_signed =
    at_rule ExtendExtension 3
    (holding 5 (
    source 1 i8
    ∷ simple 2 (codes "arith.extsi") (Result 1 0 ∷ []) (i16 ∷ [])
    ∷ simple 3 (codes "arith.extui") (Result 2 0 ∷ []) (i32 ∷ [])
    ∷ user 4 (Result 3 0)
    ∷ []))
    none

abbrev cut_cast_cut_twice : Case
cut_cast_cut_twice =
    at_rule CutCast 3
    (holding 5 (
    source 1 i32
    ∷ simple 2 (codes "arith.trunci") (Result 1 0 ∷ []) (i16 ∷ [])
    ∷ simple 3 (codes "arith.trunci") (Result 2 0 ∷ []) (i8 ∷ [])
    ∷ user 4 (Result 3 0)
    ∷ []))
    (becomes (holding 6 (
    source 1 i32
    ∷ simple 2 (codes "arith.trunci") (Result 1 0 ∷ []) (i16 ∷ [])
    ∷ simple 5 (codes "arith.trunci") (Result 1 0 ∷ []) (i8 ∷ [])
    ∷ user 4 (Result 5 0)
    ∷ [])))

abbrev cut_cast_back : Case
cut_cast_back =
    at_rule CutCast 3
    (holding 5 (
    source 1 i8
    ∷ simple 2 (codes "arith.extsi") (Result 1 0 ∷ []) (i16 ∷ [])
    ∷ simple 3 (codes "arith.trunci") (Result 2 0 ∷ []) (i8 ∷ [])
    ∷ user 4 (Result 3 0)
    ∷ []))
    (becomes (holding 5 (
    source 1 i8
    ∷ simple 2 (codes "arith.extsi") (Result 1 0 ∷ []) (i16 ∷ [])
    ∷ user 4 (Result 1 0)
    ∷ [])))

abbrev cut_cast_another_width : Case
cut_cast_another_width =
    at_rule CutCast 3
    (holding 5 (
    source 1 i8
    ∷ simple 2 (codes "arith.extsi") (Result 1 0 ∷ []) (i32 ∷ [])
    ∷ simple 3 (codes "arith.trunci") (Result 2 0 ∷ []) (i16 ∷ [])
    ∷ user 4 (Result 3 0)
    ∷ []))
    none

abbrev cast_back_back_to_64 : Case
cast_back_back_to_64 =
    at_rule CastBack 3
    (holding 5 (
    source 1 i64
    ∷ simple 2 (codes "arith.index_cast") (Result 1 0 ∷ []) (Index ∷ [])
    ∷ simple 3 (codes "arith.index_cast") (Result 2 0 ∷ []) (i64 ∷ [])
    ∷ user 4 (Result 3 0)
    ∷ []))
    (becomes (holding 5 (
    source 1 i64
    ∷ simple 2 (codes "arith.index_cast") (Result 1 0 ∷ []) (Index ∷ [])
    ∷ user 4 (Result 1 0)
    ∷ [])))

abbrev rule_cast_back_65_bits : Case
rule_cast_back_65_bits =
    at_rule CastBack 3
    (holding 5 (
    source 1 i65
    ∷ simple 2 (codes "arith.index_cast") (Result 1 0 ∷ []) (Index ∷ [])
    ∷ simple 3 (codes "arith.index_cast") (Result 2 0 ∷ []) (i65 ∷ [])
    ∷ user 4 (Result 3 0)
    ∷ []))
    none

abbrev cast_back_index_through_65 : Case
cast_back_index_through_65 =
    at_rule CastBack 3
    (holding 5 (
    source 1 Index
    ∷ simple 2 (codes "arith.index_castui") (Result 1 0 ∷ []) (i65 ∷ [])
    ∷ simple 3 (codes "arith.index_castui") (Result 2 0 ∷ []) (Index ∷ [])
    ∷ user 4 (Result 3 0)
    ∷ []))
    (becomes (holding 5 (
    source 1 Index
    ∷ simple 2 (codes "arith.index_castui") (Result 1 0 ∷ []) (i65 ∷ [])
    ∷ user 4 (Result 1 0)
    ∷ [])))

abbrev cast_back_index_through_63 : Case
cast_back_index_through_63 =
    at_rule CastBack 3
    (holding 5 (
    source 1 Index
    ∷ simple 2 (codes "arith.index_cast") (Result 1 0 ∷ []) (i63 ∷ [])
    ∷ simple 3 (codes "arith.index_cast") (Result 2 0 ∷ []) (Index ∷ [])
    ∷ user 4 (Result 3 0)
    ∷ []))
    none

abbrev cast_back_unrealized : Case
cast_back_unrealized =
    at_rule CastBack 3
    (holding 5 (
    source 1 i64
    ∷ bridged 2 Index (Result 1 0)
    ∷ bridged 3 i64 (Result 2 0)
    ∷ user 4 (Result 3 0)
    ∷ []))
    (becomes (holding 5 (
    source 1 i64
    ∷ bridged 2 Index (Result 1 0)
    ∷ user 4 (Result 1 0)
    ∷ [])))

abbrev cast_back_unrealized_same : Case
cast_back_unrealized_same =
    at_rule CastBack 2
    (holding 4 (
    source 1 i64
    ∷ bridged 2 i64 (Result 1 0)
    ∷ user 3 (Result 2 0)
    ∷ []))
    (becomes (holding 4 (
    source 1 i64
    ∷ user 3 (Result 1 0)
    ∷ [])))

abbrev open_branch_then : Case
open_branch_then =
    at_rule OpenBranch 3
    (holding 9 (
    number 1 i1 1
    ∷ source 2 i8
    ∷ whole 3 (codes "scf.if") (Result 1 0 ∷ []) (i8 ∷ []) [] []
    (region (body [] (
    simple 4 (codes "arith.addi") (Result 2 0 ∷ Result 2 0 ∷ []) (i8 ∷ [])
    ∷ user 5 (Result 4 0)
    ∷ simple 6 (codes "scf.yield") (Result 4 0 ∷ []) []
    ∷ [])) (region (body [] (simple 7 (codes "scf.yield") (Result 2 0 ∷ []) [] ∷ [])) no_regions))
    ∷ user 8 (Result 3 0)
    ∷ []))
    (becomes (holding 9 (
    number 1 i1 1
    ∷ source 2 i8
    ∷ simple 4 (codes "arith.addi") (Result 2 0 ∷ Result 2 0 ∷ []) (i8 ∷ [])
    ∷ user 5 (Result 4 0)
    ∷ user 8 (Result 4 0)
    ∷ [])))

abbrev open_branch_no_else : Case
open_branch_no_else =
    at_rule OpenBranch 2
    (holding 5 (
    number 1 i1 0
    ∷ whole 2 (codes "scf.if") (Result 1 0 ∷ []) [] [] []
    (region (body [] (
    simple 3 (codes "t.x") [] []
    ∷ simple 4 (codes "scf.yield") [] []
    ∷ [])) (region empty no_regions))
    ∷ []))
    (becomes (holding 5 (number 1 i1 0 ∷ [])))

abbrev open_loop_never : Case
open_loop_never =
    at_rule OpenLoop 5
    (holding 9 (
    number 1 i8 5
    ∷ number 2 i8 251
    ∷ source 3 i8
    ∷ source 4 i8
    ∷ whole 5 (codes "scf.for") (Result 1 0 ∷ Result 2 0 ∷ Result 3 0 ∷ Result 4 0 ∷ []) (i8 ∷ []) [] []
    (region (body (i8 ∷ i8 ∷ []) (
    simple 6 (codes "t.f") (Arg 5 0 0 ∷ Arg 5 0 1 ∷ []) (i8 ∷ [])
    ∷ simple 7 (codes "scf.yield") (Result 6 0 ∷ []) []
    ∷ [])) no_regions)
    ∷ user 8 (Result 5 0)
    ∷ []))
    (becomes (holding 9 (
    number 1 i8 5
    ∷ number 2 i8 251
    ∷ source 3 i8
    ∷ source 4 i8
    ∷ user 8 (Result 4 0)
    ∷ [])))

abbrev open_loop_once : Case
open_loop_once =
    at_rule OpenLoop 5
    (holding 9 (
    number 1 i8 100
    ∷ number 2 i8 127
    ∷ number 3 i8 100
    ∷ source 4 i8
    ∷ whole 5 (codes "scf.for") (Result 1 0 ∷ Result 2 0 ∷ Result 3 0 ∷ Result 4 0 ∷ []) (i8 ∷ []) [] []
    (region (body (i8 ∷ i8 ∷ []) (
    simple 6 (codes "t.f") (Arg 5 0 0 ∷ Arg 5 0 1 ∷ []) (i8 ∷ [])
    ∷ simple 7 (codes "scf.yield") (Result 6 0 ∷ []) []
    ∷ [])) no_regions)
    ∷ user 8 (Result 5 0)
    ∷ []))
    (becomes (holding 9 (
    number 1 i8 100
    ∷ number 2 i8 127
    ∷ number 3 i8 100
    ∷ source 4 i8
    ∷ simple 6 (codes "t.f") (Result 1 0 ∷ Result 4 0 ∷ []) (i8 ∷ [])
    ∷ user 8 (Result 6 0)
    ∷ [])))

abbrev open_loop_once_hands_on_argument : Case
open_loop_once_hands_on_argument =
    at_rule OpenLoop 5
    (holding 9 (
    number 1 Index 0
    ∷ number 2 Index 1
    ∷ number 3 Index 1
    ∷ source 4 i8
    ∷ whole 5 (codes "scf.for") (Result 1 0 ∷ Result 2 0 ∷ Result 3 0 ∷ Result 4 0 ∷ []) (i8 ∷ []) [] []
    (region (body (Index ∷ i8 ∷ []) (
    simple 6 (codes "t.f") (Arg 5 0 0 ∷ Arg 5 0 1 ∷ []) (i8 ∷ [])
    ∷ simple 7 (codes "scf.yield") (Arg 5 0 1 ∷ []) []
    ∷ [])) no_regions)
    ∷ user 8 (Result 5 0)
    ∷ []))
    (becomes (holding 9 (
    number 1 Index 0
    ∷ number 2 Index 1
    ∷ number 3 Index 1
    ∷ source 4 i8
    ∷ simple 6 (codes "t.f") (Result 1 0 ∷ Result 4 0 ∷ []) (i8 ∷ [])
    ∷ user 8 (Result 4 0)
    ∷ [])))

abbrev open_loop_twice : Case
open_loop_twice =
    at_rule OpenLoop 5
    (holding 9 (
    number 1 i8 0
    ∷ number 2 i8 2
    ∷ number 3 i8 1
    ∷ source 4 i8
    ∷ whole 5 (codes "scf.for") (Result 1 0 ∷ Result 2 0 ∷ Result 3 0 ∷ Result 4 0 ∷ []) (i8 ∷ []) [] []
    (region (body (i8 ∷ i8 ∷ []) (
    simple 6 (codes "t.f") (Arg 5 0 0 ∷ Arg 5 0 1 ∷ []) (i8 ∷ [])
    ∷ simple 7 (codes "scf.yield") (Result 6 0 ∷ []) []
    ∷ [])) no_regions)
    ∷ user 8 (Result 5 0)
    ∷ []))
    none

abbrev open_loop_step_below_zero : Case
open_loop_step_below_zero =
    at_rule OpenLoop 5
    (holding 9 (
    number 1 i8 0
    ∷ number 2 i8 2
    ∷ number 3 i8 255
    ∷ source 4 i8
    ∷ whole 5 (codes "scf.for") (Result 1 0 ∷ Result 2 0 ∷ Result 3 0 ∷ Result 4 0 ∷ []) (i8 ∷ []) [] []
    (region (body (i8 ∷ i8 ∷ []) (
    simple 6 (codes "t.f") (Arg 5 0 0 ∷ Arg 5 0 1 ∷ []) (i8 ∷ [])
    ∷ simple 7 (codes "scf.yield") (Result 6 0 ∷ []) []
    ∷ [])) no_regions)
    ∷ user 8 (Result 5 0)
    ∷ []))
    none

abbrev stop_loop_false : Case
stop_loop_false =
    at_rule StopLoop 2
    (holding 8 (
    source 1 i8
    ∷ whole 2 (codes "scf.while") (Result 1 0 ∷ []) (i8 ∷ []) [] []
    (region (body (i8 ∷ []) (
    simple 3 (codes "t.x") (Arg 2 0 0 ∷ []) []
    ∷ number 4 i1 0
    ∷ simple 5 (codes "scf.condition") (Result 4 0 ∷ Arg 2 0 0 ∷ []) []
    ∷ [])) (region (body (i8 ∷ []) (simple 6 (codes "scf.yield") (Arg 2 1 0 ∷ []) [] ∷ [])) no_regions))
    ∷ user 7 (Result 2 0)
    ∷ []))
    (becomes (holding 8 (
    source 1 i8
    ∷ simple 3 (codes "t.x") (Result 1 0 ∷ []) []
    ∷ number 4 i1 0
    ∷ user 7 (Result 1 0)
    ∷ [])))

abbrev stop_loop_true : Case
stop_loop_true =
    at_rule StopLoop 2
    (holding 8 (
    source 1 i8
    ∷ whole 2 (codes "scf.while") (Result 1 0 ∷ []) (i8 ∷ []) [] []
    (region (body (i8 ∷ []) (
    simple 3 (codes "t.x") (Arg 2 0 0 ∷ []) []
    ∷ number 4 i1 1
    ∷ simple 5 (codes "scf.condition") (Result 4 0 ∷ Arg 2 0 0 ∷ []) []
    ∷ [])) (region (body (i8 ∷ []) (simple 6 (codes "scf.yield") (Arg 2 1 0 ∷ []) [] ∷ [])) no_regions))
    ∷ user 7 (Result 2 0)
    ∷ []))
    none

abbrev cases : List Case
cases =
    extend_extension_signed_of_unsigned ∷ extend_extension_unsigned_of_signed ∷ cut_cast_cut_twice ∷ cut_cast_back
    ∷ cut_cast_another_width ∷ cast_back_back_to_64 ∷ rule_cast_back_65_bits ∷ cast_back_index_through_65
    ∷ cast_back_index_through_63 ∷ cast_back_unrealized ∷ cast_back_unrealized_same ∷ open_branch_then ∷ open_branch_no_else
    ∷ open_loop_never ∷ open_loop_once ∷ open_loop_once_hands_on_argument ∷ open_loop_twice ∷ open_loop_step_below_zero
    ∷ stop_loop_false ∷ stop_loop_true ∷ []

-- each result is that of the definitions (to find one that isn't, shorten the list)
pub answered : map answer cases ≡ map (λ c. c.after) cases
unfolding rewrite_of edits_of rule is_verified is_in_order eligible is_erasable known resizing registry.row_of rows.rows words.operations words.is_inherent words.is_listed words.is_table words.is_isolated properties.is_allowed properties.is_of_kind properties.kind_of properties.property_kinds folds.fold_of folds.rule_of folds.rules folds.predicates arithmetic.absorbs arithmetic.sum_of arithmetic.difference_of arithmetic.product_of arithmetic.signed_quotient_of arithmetic.signed_remainder_of arithmetic.quotient_of arithmetic.remainder_of readings.signed_of readings.wrapped named.commutative named.with_zero_as_right_identity named.with_one_as_right_identity named.self_inverse named.idempotent named.remainders named.associative named.extensions named.index_casts named.arithmetic named.index_users named.flagged named.predicate_of_min_max named.division_of_remainder
answered = refl
