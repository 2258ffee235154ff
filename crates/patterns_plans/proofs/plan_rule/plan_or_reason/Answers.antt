use Rattle.std.proofs.Common.{refl}
use Rattle.patterns_matchers.specs.Casting.{extend_extension, cut_cast, cast_back}
use Rattle.patterns_matchers.specs.Folding.{fold_to_constant, swap_constant, drop_zero, drop_one, drop_all_ones}
use Rattle.patterns_matchers.specs.Folding.{cancel_itself, keep_itself, zero_remainder, regroup_constants, add_negative}
use Rattle.patterns_matchers.specs.Folding.{compare_itself, mirror_comparison, compare_zero, choose_same, choose_known}
use Rattle.patterns_matchers.specs.Folding.{choose_truth, choose_opposite, expand_min_max, expand_difference}
use Rattle.patterns_matchers.specs.Folding.{expand_remainder}
use Rattle.patterns_matchers.specs.Rule.TheVariants.{FoldToConstant, SwapConstant, DropZero, DropOne, DropAllOnes}
use Rattle.patterns_matchers.specs.Rule.TheVariants.{CancelItself, KeepItself, ZeroRemainder, RegroupConstants}
use Rattle.patterns_matchers.specs.Rule.TheVariants.{AddNegative, CompareItself, MirrorComparison, CompareZero, ChooseSame}
use Rattle.patterns_matchers.specs.Rule.TheVariants.{ChooseKnown, ChooseTruth, ChooseOpposite, ExtendExtension, CutCast}
use Rattle.patterns_matchers.specs.Rule.TheVariants.{CastBack, ExpandMinMax, ExpandDifference, ExpandRemainder}
use Rattle.patterns_plans.specs.RuleTests as tests
use Rattle.patterns_plans.proofs.Answered.{answer_at, answered_at, applying_at}
use Rattle.patterns_plans.proofs.Headed.{at_fold_to_constant, at_swap_constant, at_drop_zero, at_drop_one}
use Rattle.patterns_plans.proofs.Headed.{at_drop_all_ones, at_cancel_itself, at_keep_itself, at_zero_remainder}
use Rattle.patterns_plans.proofs.Headed.{at_regroup_constants, at_add_negative, at_compare_itself, at_mirror_comparison}
use Rattle.patterns_plans.proofs.Headed.{at_compare_zero, at_choose_same, at_choose_known, at_choose_truth}
use Rattle.patterns_plans.proofs.Headed.{at_choose_opposite, at_extend_extension, at_cut_cast, at_cast_back}
use Rattle.patterns_plans.proofs.Headed.{at_expand_min_max, at_expand_difference, at_expand_remainder}
use Rattle.patterns_plans.proofs.Passing.{passes}
use Rattle.patterns_plans.proofs.plan_rule.plan_or_reason.Goals as goal

pub returns-in-FoldToConstant-clause-answer : goal.returns-in-FoldToConstant-clause-answer
returns-in-FoldToConstant-clause-answer c =
    applying_at fold_to_constant FoldToConstant at_fold_to_constant c.args.rule c.in-FoldToConstant.is c.args.world.now c.args.op c.args.node.now c.requires.shown c.plan_fold_to_constant.result (c.plan_fold_to_constant.ensures.edits c.args.op) c.plan_fold_to_constant.ensures.reason

pub returns-in-SwapConstant-clause-answer : goal.returns-in-SwapConstant-clause-answer
returns-in-SwapConstant-clause-answer c =
    answered_at swap_constant SwapConstant at_swap_constant tests.swap_constant (λ t h b. refl) (λ t n point o. passes t n point o SwapConstant)
    c.args.rule c.in-SwapConstant.is c.args.world.now c.args.op c.args.node.now c.requires.shown c.plan_swap_constant.result c.plan_swap_constant.ensures.edits c.plan_swap_constant.ensures.reason

pub returns-in-DropZero-clause-answer : goal.returns-in-DropZero-clause-answer
returns-in-DropZero-clause-answer c =
    answered_at drop_zero DropZero at_drop_zero tests.drop_zero (λ t h b. refl) (λ t n point o. passes t n point o DropZero)
    c.args.rule c.in-DropZero.is c.args.world.now c.args.op c.args.node.now c.requires.shown c.plan_drop_zero.result c.plan_drop_zero.ensures.edits c.plan_drop_zero.ensures.reason

pub returns-in-DropOne-clause-answer : goal.returns-in-DropOne-clause-answer
returns-in-DropOne-clause-answer c =
    answered_at drop_one DropOne at_drop_one tests.drop_one (λ t h b. refl) (λ t n point o. passes t n point o DropOne)
    c.args.rule c.in-DropOne.is c.args.world.now c.args.op c.args.node.now c.requires.shown c.plan_drop_one.result c.plan_drop_one.ensures.edits c.plan_drop_one.ensures.reason

pub returns-in-DropAllOnes-clause-answer : goal.returns-in-DropAllOnes-clause-answer
returns-in-DropAllOnes-clause-answer c =
    answered_at drop_all_ones DropAllOnes at_drop_all_ones tests.drop_all_ones (λ t h b. refl) (λ t n point o. passes t n point o DropAllOnes)
    c.args.rule c.in-DropAllOnes.is c.args.world.now c.args.op c.args.node.now c.requires.shown c.plan_drop_all_ones.result c.plan_drop_all_ones.ensures.edits c.plan_drop_all_ones.ensures.reason

pub returns-in-CancelItself-clause-answer : goal.returns-in-CancelItself-clause-answer
returns-in-CancelItself-clause-answer c =
    answer_at cancel_itself CancelItself at_cancel_itself tests.cancel_itself (λ t h b. refl) (λ t n point o. passes t n point o CancelItself)
    c.args.rule c.in-CancelItself.is c.args.world.now c.args.op c.args.node.now c.requires.shown c.plan_cancel_itself.result (c.plan_cancel_itself.ensures.edits c.args.op) c.plan_cancel_itself.ensures.reason

pub returns-in-KeepItself-clause-answer : goal.returns-in-KeepItself-clause-answer
returns-in-KeepItself-clause-answer c =
    answer_at keep_itself KeepItself at_keep_itself tests.keep_itself (λ t h b. refl) (λ t n point o. passes t n point o KeepItself)
    c.args.rule c.in-KeepItself.is c.args.world.now c.args.op c.args.node.now c.requires.shown c.plan_keep_itself.result c.plan_keep_itself.ensures.edits c.plan_keep_itself.ensures.reason

pub returns-in-ZeroRemainder-clause-answer : goal.returns-in-ZeroRemainder-clause-answer
returns-in-ZeroRemainder-clause-answer c =
    answered_at zero_remainder ZeroRemainder at_zero_remainder tests.zero_remainder (λ t h b. refl) (λ t n point o. passes t n point o ZeroRemainder)
    c.args.rule c.in-ZeroRemainder.is c.args.world.now c.args.op c.args.node.now c.requires.shown c.plan_zero_remainder.result (c.plan_zero_remainder.ensures.edits c.args.op) c.plan_zero_remainder.ensures.reason

pub returns-in-RegroupConstants-clause-answer : goal.returns-in-RegroupConstants-clause-answer
returns-in-RegroupConstants-clause-answer c =
    applying_at regroup_constants RegroupConstants at_regroup_constants c.args.rule c.in-RegroupConstants.is c.args.world.now c.args.op c.args.node.now c.requires.shown c.plan_regroup_constants.result (c.plan_regroup_constants.ensures.edits c.args.op) c.plan_regroup_constants.ensures.reason

pub returns-in-AddNegative-clause-answer : goal.returns-in-AddNegative-clause-answer
returns-in-AddNegative-clause-answer c =
    answered_at add_negative AddNegative at_add_negative tests.add_negative (λ t h b. refl) (λ t n point o. passes t n point o AddNegative)
    c.args.rule c.in-AddNegative.is c.args.world.now c.args.op c.args.node.now c.requires.shown c.plan_add_negative.result (c.plan_add_negative.ensures.edits c.args.op) c.plan_add_negative.ensures.reason

pub returns-in-CompareItself-clause-answer : goal.returns-in-CompareItself-clause-answer
returns-in-CompareItself-clause-answer c =
    answer_at compare_itself CompareItself at_compare_itself tests.compare_itself (λ t h b. refl) (λ t n point o. passes t n point o CompareItself)
    c.args.rule c.in-CompareItself.is c.args.world.now c.args.op c.args.node.now c.requires.shown c.plan_compare_itself.result (c.plan_compare_itself.ensures.edits c.args.op) c.plan_compare_itself.ensures.reason

pub returns-in-MirrorComparison-clause-answer : goal.returns-in-MirrorComparison-clause-answer
returns-in-MirrorComparison-clause-answer c =
    answered_at mirror_comparison MirrorComparison at_mirror_comparison tests.mirror_comparison (λ t h b. refl) (λ t n point o. passes t n point o MirrorComparison)
    c.args.rule c.in-MirrorComparison.is c.args.world.now c.args.op c.args.node.now c.requires.shown c.plan_mirror_comparison.result (c.plan_mirror_comparison.ensures.edits c.args.op) c.plan_mirror_comparison.ensures.reason

pub returns-in-CompareZero-clause-answer : goal.returns-in-CompareZero-clause-answer
returns-in-CompareZero-clause-answer c =
    answered_at compare_zero CompareZero at_compare_zero tests.compare_zero (λ t h b. refl) (λ t n point o. passes t n point o CompareZero)
    c.args.rule c.in-CompareZero.is c.args.world.now c.args.op c.args.node.now c.requires.shown c.plan_compare_zero.result (c.plan_compare_zero.ensures.edits c.args.op) c.plan_compare_zero.ensures.reason

pub returns-in-ChooseSame-clause-answer : goal.returns-in-ChooseSame-clause-answer
returns-in-ChooseSame-clause-answer c =
    answer_at choose_same ChooseSame at_choose_same tests.choose_same (λ t h b. refl) (λ t n point o. passes t n point o ChooseSame)
    c.args.rule c.in-ChooseSame.is c.args.world.now c.args.op c.args.node.now c.requires.shown c.plan_choose_same.result c.plan_choose_same.ensures.edits c.plan_choose_same.ensures.reason

pub returns-in-ChooseKnown-clause-answer : goal.returns-in-ChooseKnown-clause-answer
returns-in-ChooseKnown-clause-answer c =
    answered_at choose_known ChooseKnown at_choose_known tests.choose_known (λ t h b. refl) (λ t n point o. passes t n point o ChooseKnown)
    c.args.rule c.in-ChooseKnown.is c.args.world.now c.args.op c.args.node.now c.requires.shown c.plan_choose_known.result c.plan_choose_known.ensures.edits c.plan_choose_known.ensures.reason

pub returns-in-ChooseTruth-clause-answer : goal.returns-in-ChooseTruth-clause-answer
returns-in-ChooseTruth-clause-answer c =
    answered_at choose_truth ChooseTruth at_choose_truth tests.choose_truth (λ t h b. refl) (λ t n point o. passes t n point o ChooseTruth)
    c.args.rule c.in-ChooseTruth.is c.args.world.now c.args.op c.args.node.now c.requires.shown c.plan_choose_truth.result c.plan_choose_truth.ensures.edits c.plan_choose_truth.ensures.reason

pub returns-in-ChooseOpposite-clause-answer : goal.returns-in-ChooseOpposite-clause-answer
returns-in-ChooseOpposite-clause-answer c =
    answered_at choose_opposite ChooseOpposite at_choose_opposite tests.choose_opposite (λ t h b. refl) (λ t n point o. passes t n point o ChooseOpposite)
    c.args.rule c.in-ChooseOpposite.is c.args.world.now c.args.op c.args.node.now c.requires.shown c.plan_choose_opposite.result c.plan_choose_opposite.ensures.edits c.plan_choose_opposite.ensures.reason

pub returns-in-ExtendExtension-clause-answer : goal.returns-in-ExtendExtension-clause-answer
returns-in-ExtendExtension-clause-answer c =
    answered_at extend_extension ExtendExtension at_extend_extension tests.extend_extension (λ t h b. refl) (λ t n point o. passes t n point o ExtendExtension)
    c.args.rule c.in-ExtendExtension.is c.args.world.now c.args.op c.args.node.now c.requires.shown c.plan_extend_extension.result (c.plan_extend_extension.ensures.edits c.args.op) c.plan_extend_extension.ensures.reason

pub returns-in-CutCast-clause-answer : goal.returns-in-CutCast-clause-answer
returns-in-CutCast-clause-answer c =
    answered_at cut_cast CutCast at_cut_cast tests.cut_cast (λ t h b. refl) (λ t n point o. passes t n point o CutCast)
    c.args.rule c.in-CutCast.is c.args.world.now c.args.op c.args.node.now c.requires.shown c.plan_cut_cast.result c.plan_cut_cast.ensures.edits c.plan_cut_cast.ensures.reason

pub returns-in-CastBack-clause-answer : goal.returns-in-CastBack-clause-answer
returns-in-CastBack-clause-answer c =
    answered_at cast_back CastBack at_cast_back tests.cast_back (λ t h b. refl) (λ t n point o. passes t n point o CastBack)
    c.args.rule c.in-CastBack.is c.args.world.now c.args.op c.args.node.now c.requires.shown c.plan_cast_back.result c.plan_cast_back.ensures.edits c.plan_cast_back.ensures.reason

pub returns-in-ExpandMinMax-clause-answer : goal.returns-in-ExpandMinMax-clause-answer
returns-in-ExpandMinMax-clause-answer c =
    answered_at expand_min_max ExpandMinMax at_expand_min_max tests.expand_min_max (λ t h b. refl) (λ t n point o. passes t n point o ExpandMinMax)
    c.args.rule c.in-ExpandMinMax.is c.args.world.now c.args.op c.args.node.now c.requires.shown c.plan_expand_min_max.result (c.plan_expand_min_max.ensures.edits c.args.op) c.plan_expand_min_max.ensures.reason

pub returns-in-ExpandDifference-clause-answer : goal.returns-in-ExpandDifference-clause-answer
returns-in-ExpandDifference-clause-answer c =
    answered_at expand_difference ExpandDifference at_expand_difference tests.expand_difference (λ t h b. refl) (λ t n point o. passes t n point o ExpandDifference)
    c.args.rule c.in-ExpandDifference.is c.args.world.now c.args.op c.args.node.now c.requires.shown c.plan_expand_difference.result (c.plan_expand_difference.ensures.edits c.args.op) c.plan_expand_difference.ensures.reason

pub returns-in-ExpandRemainder-clause-answer : goal.returns-in-ExpandRemainder-clause-answer
returns-in-ExpandRemainder-clause-answer c =
    answered_at expand_remainder ExpandRemainder at_expand_remainder tests.expand_remainder (λ t h b. refl) (λ t n point o. passes t n point o ExpandRemainder)
    c.args.rule c.in-ExpandRemainder.is c.args.world.now c.args.op c.args.node.now c.requires.shown c.plan_expand_remainder.result (c.plan_expand_remainder.ensures.edits c.args.op) c.plan_expand_remainder.ensures.reason
