use Rattle.std.proofs.Common.{◌≡◌, ◌∙◌, sym, subst, None}
use Rattle.ir_event.specs.Modules.{module_in}
use Rattle.patterns_matchers.specs.Casting.{extend_extension, cut_cast}
use Rattle.patterns_matchers.specs.Folding.{fold_to_constant, swap_constant, drop_zero, drop_one, drop_all_ones}
use Rattle.patterns_matchers.specs.Folding.{cancel_itself, keep_itself, zero_remainder, regroup_constants, add_negative}
use Rattle.patterns_matchers.specs.Folding.{compare_itself, mirror_comparison, compare_zero, choose_same, choose_known}
use Rattle.patterns_matchers.specs.Folding.{choose_truth, choose_opposite}
use Rattle.patterns_matchers.specs.Reads.{bare_in}
use Rattle.patterns_matchers.specs.Rule.TheVariants.{FoldToConstant, SwapConstant, DropZero, DropOne, DropAllOnes}
use Rattle.patterns_matchers.specs.Rule.TheVariants.{CancelItself, KeepItself, ZeroRemainder, RegroupConstants}
use Rattle.patterns_matchers.specs.Rule.TheVariants.{AddNegative, CompareItself, MirrorComparison, CompareZero, ChooseSame}
use Rattle.patterns_matchers.specs.Rule.TheVariants.{ChooseKnown, ChooseTruth, ChooseOpposite, ExtendExtension, CutCast}
use Rattle.patterns_matchers.specs.Rules.{rule}
use Rattle.patterns_plans.proofs.Headed.{none_dead, planned_at, at_fold_to_constant, at_swap_constant, at_drop_zero}
use Rattle.patterns_plans.proofs.Headed.{at_drop_one, at_drop_all_ones, at_cancel_itself, at_keep_itself}
use Rattle.patterns_plans.proofs.Headed.{at_zero_remainder, at_regroup_constants, at_add_negative, at_compare_itself}
use Rattle.patterns_plans.proofs.Headed.{at_mirror_comparison, at_compare_zero, at_choose_same, at_choose_known}
use Rattle.patterns_plans.proofs.Headed.{at_choose_truth, at_choose_opposite, at_extend_extension, at_cut_cast}
use Rattle.patterns_plans.proofs.Never.{never_swap_constant, never_drop_zero, never_drop_one, never_drop_all_ones}
use Rattle.patterns_plans.proofs.Never.{never_cancel_itself, never_keep_itself, never_zero_remainder}
use Rattle.patterns_plans.proofs.Never.{never_regroup_constants, never_add_negative, never_compare_itself}
use Rattle.patterns_plans.proofs.Never.{never_mirror_comparison, never_compare_zero, never_choose_same}
use Rattle.patterns_plans.proofs.Never.{never_choose_known, never_choose_truth, never_choose_opposite}
use Rattle.patterns_plans.proofs.Never.{never_extend_extension, never_cut_cast}
use Rattle.patterns_plans.proofs.Unfolded.{never_fold_to_constant}
use Rattle.patterns_plans.proofs.quick_checks.may_match.Goals as goal

pub returns-in-EraseDead : goal.returns-in-EraseDead
returns-in-EraseDead c e o f n insertion =
    subst (λ r. None ≡ rule r (module_in c.args.world.now).tree n insertion o) (sym c.in-EraseDead.is)
    (none_dead c.args.op (module_in c.args.world.now).tree o c.dead_op.result c.dead_op.ensures e f n insertion)

pub returns-in-FoldToConstant : goal.returns-in-FoldToConstant
returns-in-FoldToConstant c e =
    planned_at fold_to_constant FoldToConstant at_fold_to_constant c.args.rule c.in-FoldToConstant.is c.args.world.now c.args.op c.args.node.now None c.requires
    (λ n insertion. never_fold_to_constant (module_in c.args.world.now).tree n insertion (bare_in c.args.world.now.ctx c.args.op c.args.node.now)
    (sym c.may_fold.ensures ∙ e))

pub returns-in-SwapConstant : goal.returns-in-SwapConstant
returns-in-SwapConstant c e =
    planned_at swap_constant SwapConstant at_swap_constant c.args.rule c.in-SwapConstant.is c.args.world.now c.args.op c.args.node.now None c.requires
    (λ n insertion. never_swap_constant (module_in c.args.world.now).tree n insertion (bare_in c.args.world.now.ctx c.args.op c.args.node.now)
    (sym c.first_is_constant.ensures ∙ e))

pub returns-in-DropZero : goal.returns-in-DropZero
returns-in-DropZero c e =
    planned_at drop_zero DropZero at_drop_zero c.args.rule c.in-DropZero.is c.args.world.now c.args.op c.args.node.now None c.requires
    (λ n insertion. never_drop_zero (module_in c.args.world.now).tree n insertion (bare_in c.args.world.now.ctx c.args.op c.args.node.now)
    (sym c.second_is_constant.ensures ∙ e))

pub returns-in-DropOne : goal.returns-in-DropOne
returns-in-DropOne c e =
    planned_at drop_one DropOne at_drop_one c.args.rule c.in-DropOne.is c.args.world.now c.args.op c.args.node.now None c.requires
    (λ n insertion. never_drop_one (module_in c.args.world.now).tree n insertion (bare_in c.args.world.now.ctx c.args.op c.args.node.now)
    (sym c.second_is_constant-in-DropOne.ensures ∙ e))

pub returns-in-DropAllOnes : goal.returns-in-DropAllOnes
returns-in-DropAllOnes c e =
    planned_at drop_all_ones DropAllOnes at_drop_all_ones c.args.rule c.in-DropAllOnes.is c.args.world.now c.args.op c.args.node.now None c.requires
    (λ n insertion. never_drop_all_ones (module_in c.args.world.now).tree n insertion (bare_in c.args.world.now.ctx c.args.op c.args.node.now)
    (sym c.second_is_constant-in-DropAllOnes.ensures ∙ e))

pub returns-in-CancelItself : goal.returns-in-CancelItself
returns-in-CancelItself c e =
    planned_at cancel_itself CancelItself at_cancel_itself c.args.rule c.in-CancelItself.is c.args.world.now c.args.op c.args.node.now None c.requires
    (λ n insertion. never_cancel_itself (module_in c.args.world.now).tree n insertion (bare_in c.args.world.now.ctx c.args.op c.args.node.now)
    (sym c.has_duplicates.ensures ∙ e))

pub returns-in-KeepItself : goal.returns-in-KeepItself
returns-in-KeepItself c e =
    planned_at keep_itself KeepItself at_keep_itself c.args.rule c.in-KeepItself.is c.args.world.now c.args.op c.args.node.now None c.requires
    (λ n insertion. never_keep_itself (module_in c.args.world.now).tree n insertion (bare_in c.args.world.now.ctx c.args.op c.args.node.now)
    (sym c.has_duplicates-in-KeepItself.ensures ∙ e))

pub returns-in-ZeroRemainder : goal.returns-in-ZeroRemainder
returns-in-ZeroRemainder c e =
    planned_at zero_remainder ZeroRemainder at_zero_remainder c.args.rule c.in-ZeroRemainder.is c.args.world.now c.args.op c.args.node.now None c.requires
    (λ n insertion. never_zero_remainder (module_in c.args.world.now).tree n insertion (bare_in c.args.world.now.ctx c.args.op c.args.node.now)
    (sym c.second_is_constant-in-ZeroRemainder.ensures ∙ e))

pub returns-in-RegroupConstants : goal.returns-in-RegroupConstants
returns-in-RegroupConstants c e =
    planned_at regroup_constants RegroupConstants at_regroup_constants c.args.rule c.in-RegroupConstants.is c.args.world.now c.args.op c.args.node.now None c.requires
    (λ n insertion. never_regroup_constants (module_in c.args.world.now).tree n insertion (bare_in c.args.world.now.ctx c.args.op c.args.node.now)
    (sym c.second_is_constant-in-RegroupConstants.ensures ∙ e))

pub returns-in-AddNegative : goal.returns-in-AddNegative
returns-in-AddNegative c e =
    planned_at add_negative AddNegative at_add_negative c.args.rule c.in-AddNegative.is c.args.world.now c.args.op c.args.node.now None c.requires
    (λ n insertion. never_add_negative (module_in c.args.world.now).tree n insertion (bare_in c.args.world.now.ctx c.args.op c.args.node.now)
    (sym c.second_is_constant-in-AddNegative.ensures ∙ e))

pub returns-in-CompareItself : goal.returns-in-CompareItself
returns-in-CompareItself c e =
    planned_at compare_itself CompareItself at_compare_itself c.args.rule c.in-CompareItself.is c.args.world.now c.args.op c.args.node.now None c.requires
    (λ n insertion. never_compare_itself (module_in c.args.world.now).tree n insertion (bare_in c.args.world.now.ctx c.args.op c.args.node.now)
    (sym c.has_duplicates-in-CompareItself.ensures ∙ e))

pub returns-in-MirrorComparison : goal.returns-in-MirrorComparison
returns-in-MirrorComparison c e =
    planned_at mirror_comparison MirrorComparison at_mirror_comparison c.args.rule c.in-MirrorComparison.is c.args.world.now c.args.op c.args.node.now None c.requires
    (λ n insertion. never_mirror_comparison (module_in c.args.world.now).tree n insertion (bare_in c.args.world.now.ctx c.args.op c.args.node.now)
    (sym c.first_is_constant-in-MirrorComparison.ensures ∙ e))

pub returns-in-CompareZero : goal.returns-in-CompareZero
returns-in-CompareZero c e =
    planned_at compare_zero CompareZero at_compare_zero c.args.rule c.in-CompareZero.is c.args.world.now c.args.op c.args.node.now None c.requires
    (λ n insertion. never_compare_zero (module_in c.args.world.now).tree n insertion (bare_in c.args.world.now.ctx c.args.op c.args.node.now)
    (sym c.second_is_constant-in-CompareZero.ensures ∙ e))

pub returns-in-ChooseSame : goal.returns-in-ChooseSame
returns-in-ChooseSame c e =
    planned_at choose_same ChooseSame at_choose_same c.args.rule c.in-ChooseSame.is c.args.world.now c.args.op c.args.node.now None c.requires
    (λ n insertion. never_choose_same (module_in c.args.world.now).tree n insertion (bare_in c.args.world.now.ctx c.args.op c.args.node.now)
    (sym c.chooses_duplicates.ensures ∙ e))

pub returns-in-ChooseKnown : goal.returns-in-ChooseKnown
returns-in-ChooseKnown c e =
    planned_at choose_known ChooseKnown at_choose_known c.args.rule c.in-ChooseKnown.is c.args.world.now c.args.op c.args.node.now None c.requires
    (λ n insertion. never_choose_known (module_in c.args.world.now).tree n insertion (bare_in c.args.world.now.ctx c.args.op c.args.node.now)
    (sym c.chooses_by_constant.ensures ∙ e))

pub returns-in-ChooseTruth : goal.returns-in-ChooseTruth
returns-in-ChooseTruth c e =
    planned_at choose_truth ChooseTruth at_choose_truth c.args.rule c.in-ChooseTruth.is c.args.world.now c.args.op c.args.node.now None c.requires
    (λ n insertion. never_choose_truth (module_in c.args.world.now).tree n insertion (bare_in c.args.world.now.ctx c.args.op c.args.node.now)
    (sym c.chooses_constant.ensures ∙ e))

pub returns-in-ChooseOpposite : goal.returns-in-ChooseOpposite
returns-in-ChooseOpposite c e =
    planned_at choose_opposite ChooseOpposite at_choose_opposite c.args.rule c.in-ChooseOpposite.is c.args.world.now c.args.op c.args.node.now None c.requires
    (λ n insertion. never_choose_opposite (module_in c.args.world.now).tree n insertion (bare_in c.args.world.now.ctx c.args.op c.args.node.now)
    (sym c.chooses_by_opposite.ensures ∙ e))

pub returns-in-ExtendExtension : goal.returns-in-ExtendExtension
returns-in-ExtendExtension c e =
    planned_at extend_extension ExtendExtension at_extend_extension c.args.rule c.in-ExtendExtension.is c.args.world.now c.args.op c.args.node.now None c.requires
    (λ n insertion. never_extend_extension (module_in c.args.world.now).tree n insertion (bare_in c.args.world.now.ctx c.args.op c.args.node.now)
    (sym c.extends_extension.ensures ∙ e))

pub returns-in-CutCast : goal.returns-in-CutCast
returns-in-CutCast c e =
    planned_at cut_cast CutCast at_cut_cast c.args.rule c.in-CutCast.is c.args.world.now c.args.op c.args.node.now None c.requires
    (λ n insertion. never_cut_cast (module_in c.args.world.now).tree n insertion (bare_in c.args.world.now.ctx c.args.op c.args.node.now)
    (sym c.cuts_cast.ensures ∙ e))
