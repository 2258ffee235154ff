-- The rules on values at operations of small modules; a reference program outside this project computed the expected
-- results.
use Rattle.std.proofs.Common.{◌≡◌, List, [], ◌∷◌, true, false, Some, refl}
use Rattle.std.specs.Prelude.{codes, map}
use Rattle.ir_types.specs.declared.refusal.Refusal.TheVariants.{IdsExhausted}
use Rattle.ir_types.specs.Terms.{Index, Memref, IntegerOf, Overflow, Flag}
use Rattle.ir_types.specs.Words as words
use Rattle.ir_types.specs.Readings as readings
use Rattle.ir_tree.specs.declared.value.Value.TheVariants.{Result}
use Rattle.ir_tree.specs.Tree.{no_regions}
use Rattle.op_registry.specs.Registry as registry
use Rattle.op_registry.specs.Rows as rows
use Rattle.op_registry.specs.Properties as properties
use Rattle.patterns_laws.specs.integers.Arithmetic as arithmetic
use Rattle.patterns_laws.specs.integers.Folds as folds
use Rattle.patterns_laws.specs.Made.{i1, i64}
use Rattle.patterns_laws.specs.Words as named
use Rattle.patterns_base.specs.declared.rule.Rule.TheVariants.{EraseDead, FoldToConstant, SwapConstant, DropZero}
use Rattle.patterns_base.specs.declared.rule.Rule.TheVariants.{DropOne, DropAllOnes, CancelItself, KeepItself}
use Rattle.patterns_base.specs.declared.rule.Rule.TheVariants.{ZeroRemainder, RegroupConstants, AddNegative}
use Rattle.patterns_base.specs.declared.rule.Rule.TheVariants.{CompareItself, MirrorComparison, CompareZero}
use Rattle.patterns_base.specs.declared.rule.Rule.TheVariants.{ChooseSame, ChooseKnown, ChooseTruth, ChooseOpposite}
use Rattle.patterns_base.specs.declared.rule.Rule.TheVariants.{ExpandMinMax, ExpandDifference, ExpandRemainder}
use Rattle.patterns_base.specs.Looks.{is_verified, is_in_order, is_erasable, known}
use Rattle.patterns_base.specs.Casting.{resizing}
use Rattle.patterns_base.specs.Rules.{rule}
use Rattle.patterns_base.specs.Rewrites.{none, refused, becomes, edits_of, rewrite_of, eligible}
use Rattle.patterns_base.proofs.Small.{i8, i32, Case, at_rule, answer, holding, source, number, user, simple, kept, compared, whole}

abbrev erase_dead_dead : Case
erase_dead_dead =
    at_rule EraseDead 2
    (holding 3 (
    source 1 i32
    ∷ simple 2 (codes "arith.addi") (Result 1 0 ∷ Result 1 0 ∷ []) (i32 ∷ [])
    ∷ []))
    (becomes (holding 3 (source 1 i32 ∷ [])))

abbrev erase_dead_used : Case
erase_dead_used =
    at_rule EraseDead 2
    (holding 4 (
    source 1 i32
    ∷ simple 2 (codes "arith.addi") (Result 1 0 ∷ Result 1 0 ∷ []) (i32 ∷ [])
    ∷ user 3 (Result 2 0)
    ∷ []))
    none

abbrev fold_to_constant_i1_sum_wraps : Case
fold_to_constant_i1_sum_wraps =
    at_rule FoldToConstant 3
    (holding 5 (
    number 1 i1 1
    ∷ number 2 i1 1
    ∷ simple 3 (codes "arith.addi") (Result 1 0 ∷ Result 2 0 ∷ []) (i1 ∷ [])
    ∷ user 4 (Result 3 0)
    ∷ []))
    (becomes (holding 6 (
    number 1 i1 1
    ∷ number 2 i1 1
    ∷ number 5 i1 0
    ∷ user 4 (Result 5 0)
    ∷ [])))

abbrev fold_to_constant_zero_alone : Case
fold_to_constant_zero_alone =
    at_rule FoldToConstant 3
    (holding 5 (
    source 1 i32
    ∷ number 2 i32 0
    ∷ simple 3 (codes "arith.muli") (Result 1 0 ∷ Result 2 0 ∷ []) (i32 ∷ [])
    ∷ user 4 (Result 3 0)
    ∷ []))
    (becomes (holding 6 (
    source 1 i32
    ∷ number 2 i32 0
    ∷ number 5 i32 0
    ∷ user 4 (Result 5 0)
    ∷ [])))

abbrev fold_to_constant_division_by_zero : Case
fold_to_constant_division_by_zero =
    at_rule FoldToConstant 3
    (holding 5 (
    number 1 i32 4
    ∷ number 2 i32 0
    ∷ simple 3 (codes "arith.divsi") (Result 1 0 ∷ Result 2 0 ∷ []) (i32 ∷ [])
    ∷ user 4 (Result 3 0)
    ∷ []))
    none

abbrev fold_to_constant_bad_constant : Case
fold_to_constant_bad_constant =
    at_rule FoldToConstant 3
    (holding 5 (
    source 1 i32
    ∷ kept 2 (codes "arith.constant") [] (i32 ∷ []) ((codes "other", IntegerOf i32 1) ∷ (codes "value", IntegerOf i32 0) ∷ [])
    ∷ simple 3 (codes "arith.muli") (Result 1 0 ∷ Result 2 0 ∷ []) (i32 ∷ [])
    ∷ user 4 (Result 3 0)
    ∷ []))
    none

abbrev swap_constant_swaps : Case
swap_constant_swaps =
    at_rule SwapConstant 3
    (holding 4 (
    number 1 i32 4
    ∷ source 2 i32
    ∷ simple 3 (codes "arith.addi") (Result 1 0 ∷ Result 2 0 ∷ []) (i32 ∷ [])
    ∷ []))
    (becomes (holding 4 (
    number 1 i32 4
    ∷ source 2 i32
    ∷ simple 3 (codes "arith.addi") (Result 2 0 ∷ Result 1 0 ∷ []) (i32 ∷ [])
    ∷ [])))

abbrev swap_constant_two_constants : Case
swap_constant_two_constants =
    at_rule SwapConstant 3
    (holding 4 (
    number 1 i32 4
    ∷ number 2 i32 4
    ∷ simple 3 (codes "arith.addi") (Result 1 0 ∷ Result 2 0 ∷ []) (i32 ∷ [])
    ∷ []))
    none

abbrev swap_constant_bad_second_constant : Case
swap_constant_bad_second_constant =
    at_rule SwapConstant 3
    (holding 4 (
    number 1 i32 4
    ∷ kept 2 (codes "arith.constant") [] (i32 ∷ []) ((codes "value", IntegerOf i64 0) ∷ [])
    ∷ simple 3 (codes "arith.addi") (Result 1 0 ∷ Result 2 0 ∷ []) (i32 ∷ [])
    ∷ []))
    none

abbrev drop_zero_shift_by_zero : Case
drop_zero_shift_by_zero =
    at_rule DropZero 3
    (holding 5 (
    source 1 i8
    ∷ number 2 i8 0
    ∷ simple 3 (codes "arith.shrsi") (Result 1 0 ∷ Result 2 0 ∷ []) (i8 ∷ [])
    ∷ user 4 (Result 3 0)
    ∷ []))
    (becomes (holding 5 (
    source 1 i8
    ∷ number 2 i8 0
    ∷ user 4 (Result 1 0)
    ∷ [])))

abbrev drop_zero_not_muli : Case
drop_zero_not_muli =
    at_rule DropZero 3
    (holding 5 (
    source 1 i8
    ∷ number 2 i8 0
    ∷ simple 3 (codes "arith.muli") (Result 1 0 ∷ Result 2 0 ∷ []) (i8 ∷ [])
    ∷ user 4 (Result 3 0)
    ∷ []))
    none

abbrev drop_one_by_true : Case
drop_one_by_true =
    at_rule DropOne 3
    (holding 5 (
    source 1 i1
    ∷ number 2 i1 1
    ∷ simple 3 (codes "arith.divsi") (Result 1 0 ∷ Result 2 0 ∷ []) (i1 ∷ [])
    ∷ user 4 (Result 3 0)
    ∷ []))
    (becomes (holding 5 (
    source 1 i1
    ∷ number 2 i1 1
    ∷ user 4 (Result 1 0)
    ∷ [])))

abbrev drop_all_ones_all_ones : Case
drop_all_ones_all_ones =
    at_rule DropAllOnes 3
    (holding 5 (
    source 1 Index
    ∷ number 2 Index 18446744073709551615
    ∷ simple 3 (codes "arith.andi") (Result 1 0 ∷ Result 2 0 ∷ []) (Index ∷ [])
    ∷ user 4 (Result 3 0)
    ∷ []))
    (becomes (holding 5 (
    source 1 Index
    ∷ number 2 Index 18446744073709551615
    ∷ user 4 (Result 1 0)
    ∷ [])))

abbrev drop_all_ones_one_bit_short : Case
drop_all_ones_one_bit_short =
    at_rule DropAllOnes 3
    (holding 5 (
    source 1 i8
    ∷ number 2 i8 127
    ∷ simple 3 (codes "arith.andi") (Result 1 0 ∷ Result 2 0 ∷ []) (i8 ∷ [])
    ∷ user 4 (Result 3 0)
    ∷ []))
    none

abbrev cancel_itself_itself : Case
cancel_itself_itself =
    at_rule CancelItself 2
    (holding 4 (
    source 1 i8
    ∷ simple 2 (codes "arith.xori") (Result 1 0 ∷ Result 1 0 ∷ []) (i8 ∷ [])
    ∷ user 3 (Result 2 0)
    ∷ []))
    (becomes (holding 5 (
    source 1 i8
    ∷ number 4 i8 0
    ∷ user 3 (Result 4 0)
    ∷ [])))

abbrev keep_itself_itself : Case
keep_itself_itself =
    at_rule KeepItself 2
    (holding 4 (
    source 1 i8
    ∷ simple 2 (codes "arith.minui") (Result 1 0 ∷ Result 1 0 ∷ []) (i8 ∷ [])
    ∷ user 3 (Result 2 0)
    ∷ []))
    (becomes (holding 4 (
    source 1 i8
    ∷ user 3 (Result 1 0)
    ∷ [])))

abbrev zero_remainder_by_one : Case
zero_remainder_by_one =
    at_rule ZeroRemainder 3
    (holding 5 (
    source 1 i8
    ∷ number 2 i8 1
    ∷ simple 3 (codes "arith.remsi") (Result 1 0 ∷ Result 2 0 ∷ []) (i8 ∷ [])
    ∷ user 4 (Result 3 0)
    ∷ []))
    (becomes (holding 6 (
    source 1 i8
    ∷ number 2 i8 1
    ∷ number 5 i8 0
    ∷ user 4 (Result 5 0)
    ∷ [])))

abbrev regroup_constants_sums : Case
regroup_constants_sums =
    at_rule RegroupConstants 5
    (holding 7 (
    source 1 i8
    ∷ number 2 i8 100
    ∷ kept 3 (codes "arith.addi") (Result 1 0 ∷ Result 2 0 ∷ []) (i8 ∷ []) ((codes "overflowFlags", Overflow true false) ∷ [])
    ∷ number 4 i8 100
    ∷ whole 5 (codes "arith.addi") (Result 3 0 ∷ Result 4 0 ∷ []) (i8 ∷ []) [] ((codes "note", Flag) ∷ []) no_regions
    ∷ user 6 (Result 5 0)
    ∷ []))
    (becomes (holding 9 (
    source 1 i8
    ∷ number 2 i8 100
    ∷ kept 3 (codes "arith.addi") (Result 1 0 ∷ Result 2 0 ∷ []) (i8 ∷ []) ((codes "overflowFlags", Overflow true false) ∷ [])
    ∷ number 4 i8 100
    ∷ number 7 i8 200
    ∷ kept 8 (codes "arith.addi") (Result 1 0 ∷ Result 7 0 ∷ []) (i8 ∷ []) ((codes "overflowFlags", Overflow false false) ∷ [])
    ∷ user 6 (Result 8 0)
    ∷ [])))

abbrev regroup_constants_another_operation : Case
regroup_constants_another_operation =
    at_rule RegroupConstants 5
    (holding 7 (
    source 1 i8
    ∷ number 2 i8 100
    ∷ simple 3 (codes "arith.muli") (Result 1 0 ∷ Result 2 0 ∷ []) (i8 ∷ [])
    ∷ number 4 i8 100
    ∷ simple 5 (codes "arith.addi") (Result 3 0 ∷ Result 4 0 ∷ []) (i8 ∷ [])
    ∷ user 6 (Result 5 0)
    ∷ []))
    none

abbrev regroup_constants_constant_first : Case
regroup_constants_constant_first =
    at_rule RegroupConstants 5
    (holding 7 (
    source 1 i8
    ∷ number 2 i8 100
    ∷ simple 3 (codes "arith.addi") (Result 2 0 ∷ Result 1 0 ∷ []) (i8 ∷ [])
    ∷ number 4 i8 100
    ∷ simple 5 (codes "arith.addi") (Result 3 0 ∷ Result 4 0 ∷ []) (i8 ∷ [])
    ∷ user 6 (Result 5 0)
    ∷ []))
    none

abbrev add_negative_negated : Case
add_negative_negated =
    at_rule AddNegative 3
    (holding 5 (
    source 1 i8
    ∷ number 2 i8 1
    ∷ simple 3 (codes "arith.subi") (Result 1 0 ∷ Result 2 0 ∷ []) (i8 ∷ [])
    ∷ user 4 (Result 3 0)
    ∷ []))
    (becomes (holding 7 (
    source 1 i8
    ∷ number 2 i8 1
    ∷ number 5 i8 255
    ∷ kept 6 (codes "arith.addi") (Result 1 0 ∷ Result 5 0 ∷ []) (i8 ∷ []) ((codes "overflowFlags", Overflow false false) ∷ [])
    ∷ user 4 (Result 6 0)
    ∷ [])))

abbrev compare_itself_itself : Case
compare_itself_itself =
    at_rule CompareItself 2
    (holding 4 (
    source 1 i8
    ∷ compared 2 3 (Result 1 0) (Result 1 0)
    ∷ user 3 (Result 2 0)
    ∷ []))
    (becomes (holding 5 (
    source 1 i8
    ∷ number 4 i1 1
    ∷ user 3 (Result 4 0)
    ∷ [])))

abbrev compare_itself_not_itself : Case
compare_itself_not_itself =
    at_rule CompareItself 2
    (holding 4 (
    source 1 i8
    ∷ compared 2 6 (Result 1 0) (Result 1 0)
    ∷ user 3 (Result 2 0)
    ∷ []))
    (becomes (holding 5 (
    source 1 i8
    ∷ number 4 i1 0
    ∷ user 3 (Result 4 0)
    ∷ [])))

abbrev mirror_comparison_mirrored : Case
mirror_comparison_mirrored =
    at_rule MirrorComparison 3
    (holding 4 (
    number 1 i8 3
    ∷ source 2 i8
    ∷ compared 3 7 (Result 1 0) (Result 2 0)
    ∷ []))
    (becomes (holding 4 (
    number 1 i8 3
    ∷ source 2 i8
    ∷ compared 3 9 (Result 2 0) (Result 1 0)
    ∷ [])))

abbrev mirror_comparison_equal_stays : Case
mirror_comparison_equal_stays =
    at_rule MirrorComparison 3
    (holding 4 (
    number 1 i8 3
    ∷ source 2 i8
    ∷ compared 3 0 (Result 1 0) (Result 2 0)
    ∷ []))
    (becomes (holding 4 (
    number 1 i8 3
    ∷ source 2 i8
    ∷ compared 3 0 (Result 2 0) (Result 1 0)
    ∷ [])))

abbrev compare_zero_below_zero : Case
compare_zero_below_zero =
    at_rule CompareZero 3
    (holding 5 (
    source 1 i8
    ∷ number 2 i8 0
    ∷ compared 3 6 (Result 1 0) (Result 2 0)
    ∷ user 4 (Result 3 0)
    ∷ []))
    (becomes (holding 6 (
    source 1 i8
    ∷ number 2 i8 0
    ∷ number 5 i1 0
    ∷ user 4 (Result 5 0)
    ∷ [])))

abbrev compare_zero_at_least_zero : Case
compare_zero_at_least_zero =
    at_rule CompareZero 3
    (holding 5 (
    source 1 i8
    ∷ number 2 i8 0
    ∷ compared 3 9 (Result 1 0) (Result 2 0)
    ∷ user 4 (Result 3 0)
    ∷ []))
    (becomes (holding 6 (
    source 1 i8
    ∷ number 2 i8 0
    ∷ number 5 i1 1
    ∷ user 4 (Result 5 0)
    ∷ [])))

abbrev compare_zero_signed : Case
compare_zero_signed =
    at_rule CompareZero 3
    (holding 5 (
    source 1 i8
    ∷ number 2 i8 0
    ∷ compared 3 2 (Result 1 0) (Result 2 0)
    ∷ user 4 (Result 3 0)
    ∷ []))
    none

abbrev choose_same_same : Case
choose_same_same =
    at_rule ChooseSame 3
    (holding 5 (
    source 1 i1
    ∷ source 2 (Memref (Some 2 ∷ []) i8)
    ∷ simple 3 (codes "arith.select") (Result 1 0 ∷ Result 2 0 ∷ Result 2 0 ∷ []) (Memref (Some 2 ∷ []) i8 ∷ [])
    ∷ user 4 (Result 3 0)
    ∷ []))
    (becomes (holding 5 (
    source 1 i1
    ∷ source 2 (Memref (Some 2 ∷ []) i8)
    ∷ user 4 (Result 2 0)
    ∷ [])))

abbrev choose_known_true : Case
choose_known_true =
    at_rule ChooseKnown 4
    (holding 6 (
    number 1 i1 1
    ∷ source 2 i8
    ∷ source 3 i8
    ∷ simple 4 (codes "arith.select") (Result 1 0 ∷ Result 2 0 ∷ Result 3 0 ∷ []) (i8 ∷ [])
    ∷ user 5 (Result 4 0)
    ∷ []))
    (becomes (holding 6 (
    number 1 i1 1
    ∷ source 2 i8
    ∷ source 3 i8
    ∷ user 5 (Result 2 0)
    ∷ [])))

abbrev choose_known_false : Case
choose_known_false =
    at_rule ChooseKnown 4
    (holding 6 (
    number 1 i1 0
    ∷ source 2 i8
    ∷ source 3 i8
    ∷ simple 4 (codes "arith.select") (Result 1 0 ∷ Result 2 0 ∷ Result 3 0 ∷ []) (i8 ∷ [])
    ∷ user 5 (Result 4 0)
    ∷ []))
    (becomes (holding 6 (
    number 1 i1 0
    ∷ source 2 i8
    ∷ source 3 i8
    ∷ user 5 (Result 3 0)
    ∷ [])))

abbrev choose_truth_itself : Case
choose_truth_itself =
    at_rule ChooseTruth 4
    (holding 6 (
    source 1 i1
    ∷ number 2 i1 1
    ∷ number 3 i1 0
    ∷ simple 4 (codes "arith.select") (Result 1 0 ∷ Result 2 0 ∷ Result 3 0 ∷ []) (i1 ∷ [])
    ∷ user 5 (Result 4 0)
    ∷ []))
    (becomes (holding 6 (
    source 1 i1
    ∷ number 2 i1 1
    ∷ number 3 i1 0
    ∷ user 5 (Result 1 0)
    ∷ [])))

abbrev choose_truth_wider : Case
choose_truth_wider =
    at_rule ChooseTruth 4
    (holding 6 (
    source 1 i1
    ∷ number 2 i8 1
    ∷ number 3 i8 0
    ∷ simple 4 (codes "arith.select") (Result 1 0 ∷ Result 2 0 ∷ Result 3 0 ∷ []) (i8 ∷ [])
    ∷ user 5 (Result 4 0)
    ∷ []))
    none

abbrev choose_opposite_opposite : Case
choose_opposite_opposite =
    at_rule ChooseOpposite 6
    (holding 7 (
    source 1 i1
    ∷ number 2 i1 1
    ∷ simple 3 (codes "arith.xori") (Result 1 0 ∷ Result 2 0 ∷ []) (i1 ∷ [])
    ∷ source 4 i8
    ∷ source 5 i8
    ∷ simple 6 (codes "arith.select") (Result 3 0 ∷ Result 4 0 ∷ Result 5 0 ∷ []) (i8 ∷ [])
    ∷ []))
    (becomes (holding 7 (
    source 1 i1
    ∷ number 2 i1 1
    ∷ simple 3 (codes "arith.xori") (Result 1 0 ∷ Result 2 0 ∷ []) (i1 ∷ [])
    ∷ source 4 i8
    ∷ source 5 i8
    ∷ simple 6 (codes "arith.select") (Result 1 0 ∷ Result 5 0 ∷ Result 4 0 ∷ []) (i8 ∷ [])
    ∷ [])))

abbrev expand_min_max_maxui : Case
expand_min_max_maxui =
    at_rule ExpandMinMax 3
    (holding 5 (
    source 1 i8
    ∷ source 2 i8
    ∷ simple 3 (codes "arith.maxui") (Result 1 0 ∷ Result 2 0 ∷ []) (i8 ∷ [])
    ∷ user 4 (Result 3 0)
    ∷ []))
    (becomes (holding 7 (
    source 1 i8
    ∷ source 2 i8
    ∷ compared 5 8 (Result 1 0) (Result 2 0)
    ∷ simple 6 (codes "arith.select") (Result 5 0 ∷ Result 1 0 ∷ Result 2 0 ∷ []) (i8 ∷ [])
    ∷ user 4 (Result 6 0)
    ∷ [])))

abbrev expand_difference_index : Case
expand_difference_index =
    at_rule ExpandDifference 3
    (holding 5 (
    source 1 Index
    ∷ source 2 Index
    ∷ simple 3 (codes "arith.subi") (Result 1 0 ∷ Result 2 0 ∷ []) (Index ∷ [])
    ∷ user 4 (Result 3 0)
    ∷ []))
    (becomes (holding 10 (
    source 1 Index
    ∷ source 2 Index
    ∷ number 5 Index 18446744073709551615
    ∷ simple 6 (codes "arith.xori") (Result 2 0 ∷ Result 5 0 ∷ []) (Index ∷ [])
    ∷ number 7 Index 1
    ∷ kept 8 (codes "arith.addi") (Result 6 0 ∷ Result 7 0 ∷ []) (Index ∷ []) ((codes "overflowFlags", Overflow false false) ∷ [])
    ∷ kept 9 (codes "arith.addi") (Result 1 0 ∷ Result 8 0 ∷ []) (Index ∷ []) ((codes "overflowFlags", Overflow false false) ∷ [])
    ∷ user 4 (Result 9 0)
    ∷ [])))

abbrev expand_remainder_remsi : Case
expand_remainder_remsi =
    at_rule ExpandRemainder 3
    (holding 5 (
    source 1 i8
    ∷ source 2 i8
    ∷ simple 3 (codes "arith.remsi") (Result 1 0 ∷ Result 2 0 ∷ []) (i8 ∷ [])
    ∷ user 4 (Result 3 0)
    ∷ []))
    (becomes (holding 8 (
    source 1 i8
    ∷ source 2 i8
    ∷ simple 5 (codes "arith.divsi") (Result 1 0 ∷ Result 2 0 ∷ []) (i8 ∷ [])
    ∷ kept 6 (codes "arith.muli") (Result 5 0 ∷ Result 2 0 ∷ []) (i8 ∷ []) ((codes "overflowFlags", Overflow false false) ∷ [])
    ∷ kept 7 (codes "arith.subi") (Result 1 0 ∷ Result 6 0 ∷ []) (i8 ∷ []) ((codes "overflowFlags", Overflow false false) ∷ [])
    ∷ user 4 (Result 7 0)
    ∷ [])))

abbrev erase_dead_root : Case
erase_dead_root = at_rule EraseDead 0 (holding 2 (source 1 i32 ∷ [])) none

abbrev erase_dead_not_there : Case
erase_dead_not_there = at_rule EraseDead 7 (holding 2 (source 1 i32 ∷ [])) none

abbrev erase_dead_past_the_last_id : Case
erase_dead_past_the_last_id =
    at_rule EraseDead 2
    (holding 4294967295 (
    source 1 i32
    ∷ simple 2 (codes "arith.addi") (Result 1 0 ∷ Result 1 0 ∷ []) (i32 ∷ [])
    ∷ []))
    (becomes (holding 4294967295 (source 1 i32 ∷ [])))

abbrev cancel_itself_last_id : Case
cancel_itself_last_id =
    at_rule CancelItself 2
    (holding 4294967294 (
    source 1 i8
    ∷ simple 2 (codes "arith.xori") (Result 1 0 ∷ Result 1 0 ∷ []) (i8 ∷ [])
    ∷ user 3 (Result 2 0)
    ∷ []))
    (becomes (holding 4294967295 (
    source 1 i8
    ∷ number 4294967294 i8 0
    ∷ user 3 (Result 4294967294 0)
    ∷ [])))

abbrev cancel_itself_past_the_last_id : Case
cancel_itself_past_the_last_id =
    at_rule CancelItself 2
    (holding 4294967295 (
    source 1 i8
    ∷ simple 2 (codes "arith.xori") (Result 1 0 ∷ Result 1 0 ∷ []) (i8 ∷ [])
    ∷ user 3 (Result 2 0)
    ∷ []))
    (refused IdsExhausted)

abbrev expand_min_max_second_past_the_last_id : Case
expand_min_max_second_past_the_last_id =
    at_rule ExpandMinMax 3
    (holding 4294967294 (
    source 1 i8
    ∷ source 2 i8
    ∷ simple 3 (codes "arith.maxui") (Result 1 0 ∷ Result 2 0 ∷ []) (i8 ∷ [])
    ∷ user 4 (Result 3 0)
    ∷ []))
    (refused IdsExhausted)

abbrev cases : List Case
cases =
    erase_dead_dead ∷ erase_dead_used ∷ fold_to_constant_i1_sum_wraps ∷ fold_to_constant_zero_alone ∷ fold_to_constant_division_by_zero
    ∷ fold_to_constant_bad_constant ∷ swap_constant_swaps ∷ swap_constant_two_constants ∷ swap_constant_bad_second_constant ∷ drop_zero_shift_by_zero
    ∷ drop_zero_not_muli ∷ drop_one_by_true ∷ drop_all_ones_all_ones ∷ drop_all_ones_one_bit_short ∷ cancel_itself_itself ∷ keep_itself_itself
    ∷ zero_remainder_by_one ∷ regroup_constants_sums ∷ regroup_constants_another_operation ∷ regroup_constants_constant_first ∷ add_negative_negated
    ∷ compare_itself_itself ∷ compare_itself_not_itself ∷ mirror_comparison_mirrored ∷ mirror_comparison_equal_stays ∷ compare_zero_below_zero
    ∷ compare_zero_at_least_zero ∷ compare_zero_signed ∷ choose_same_same ∷ choose_known_true ∷ choose_known_false ∷ choose_truth_itself
    ∷ choose_truth_wider ∷ choose_opposite_opposite ∷ expand_min_max_maxui ∷ expand_difference_index ∷ expand_remainder_remsi
    ∷ erase_dead_root ∷ erase_dead_not_there ∷ erase_dead_past_the_last_id ∷ cancel_itself_last_id ∷ cancel_itself_past_the_last_id
    ∷ expand_min_max_second_past_the_last_id ∷ []

-- each result is that of the definitions (to find one that isn't, shorten the list)
pub answered : map answer cases ≡ map (λ c. c.after) cases
unfolding rewrite_of edits_of rule is_verified is_in_order eligible is_erasable known resizing registry.row_of rows.rows words.operations words.is_inherent words.is_listed words.is_table words.is_isolated properties.is_allowed properties.is_of_kind properties.kind_of properties.property_kinds folds.fold_of folds.rule_of folds.rules folds.predicates arithmetic.absorbs arithmetic.sum_of arithmetic.difference_of arithmetic.product_of arithmetic.signed_quotient_of arithmetic.signed_remainder_of arithmetic.quotient_of arithmetic.remainder_of readings.signed_of readings.wrapped named.commutative named.with_zero_as_right_identity named.with_one_as_right_identity named.self_inverse named.idempotent named.remainders named.associative named.extensions named.index_casts named.arithmetic named.index_users named.flagged named.predicate_of_min_max named.division_of_remainder
answered = refl
