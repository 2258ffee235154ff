-- The soundness of each rule.
use Rattle.std.proofs.Common.{◌≡◌, refl, Bool, true, false, ◌&&◌, not}
use Rattle.patterns_soundness.specs.base.declared.rule.Rule.{Rule}
use Rattle.patterns_soundness.specs.base.declared.rule.Rule.TheVariants.{EraseDead, FoldToConstant, SwapConstant, DropZero}
use Rattle.patterns_soundness.specs.base.declared.rule.Rule.TheVariants.{DropOne, DropAllOnes, CancelItself, KeepItself}
use Rattle.patterns_soundness.specs.base.declared.rule.Rule.TheVariants.{ZeroRemainder, RegroupConstants, AddNegative}
use Rattle.patterns_soundness.specs.base.declared.rule.Rule.TheVariants.{CompareItself, MirrorComparison, CompareZero}
use Rattle.patterns_soundness.specs.base.declared.rule.Rule.TheVariants.{ChooseSame, ChooseKnown, ChooseTruth, ChooseOpposite}
use Rattle.patterns_soundness.specs.base.declared.rule.Rule.TheVariants.{ExtendExtension, CutCast, CastBack, OpenBranch}
use Rattle.patterns_soundness.specs.base.declared.rule.Rule.TheVariants.{OpenLoop, StopLoop, ExpandMinMax, ExpandDifference}
use Rattle.patterns_soundness.specs.base.declared.rule.Rule.TheVariants.{ExpandRemainder, LowerIndex, LowerLoop, LowerChoice}
use Rattle.patterns_soundness.specs.base.RuleNames.{is_canonical, is_expanding, is_lowering}
use Rattle.patterns_soundness.specs.Soundness.{Soundness}
use Rattle.patterns_soundness.proofs.Erasing.{erase_dead_facts}
use Rattle.patterns_soundness.proofs.Pairs.{swap_constant_facts, drop_zero_facts, drop_one_facts, drop_all_ones_facts, cancel_itself_facts, keep_itself_facts, zero_remainder_facts}
use Rattle.patterns_soundness.proofs.Constants.{fold_to_constant_facts, regroup_constants_facts, add_negative_facts}
use Rattle.patterns_soundness.proofs.Comparisons.{compare_itself_facts, mirror_comparison_facts, compare_zero_facts}
use Rattle.patterns_soundness.proofs.Choices.{choose_same_facts, choose_known_facts, choose_truth_facts, choose_opposite_facts}
use Rattle.patterns_soundness.proofs.Casts.{extend_extension_facts, cut_cast_facts, cast_back_facts}
use Rattle.patterns_soundness.proofs.Blocks.{open_branch_facts, open_loop_facts, stop_loop_facts}
use Rattle.patterns_soundness.proofs.Expanding.{expand_min_max_facts, expand_difference_facts, expand_remainder_facts}
use Rattle.patterns_soundness.proofs.Lowering.{lower_index_facts, lower_loop_facts, lower_choice_facts}

pub soundness : (r : Rule) → Soundness r
soundness EraseDead = erase_dead_facts
soundness FoldToConstant = fold_to_constant_facts
soundness SwapConstant = swap_constant_facts
soundness DropZero = drop_zero_facts
soundness DropOne = drop_one_facts
soundness DropAllOnes = drop_all_ones_facts
soundness CancelItself = cancel_itself_facts
soundness KeepItself = keep_itself_facts
soundness ZeroRemainder = zero_remainder_facts
soundness RegroupConstants = regroup_constants_facts
soundness AddNegative = add_negative_facts
soundness CompareItself = compare_itself_facts
soundness MirrorComparison = mirror_comparison_facts
soundness CompareZero = compare_zero_facts
soundness ChooseSame = choose_same_facts
soundness ChooseKnown = choose_known_facts
soundness ChooseTruth = choose_truth_facts
soundness ChooseOpposite = choose_opposite_facts
soundness ExtendExtension = extend_extension_facts
soundness CutCast = cut_cast_facts
soundness CastBack = cast_back_facts
soundness OpenBranch = open_branch_facts
soundness OpenLoop = open_loop_facts
soundness StopLoop = stop_loop_facts
soundness ExpandMinMax = expand_min_max_facts
soundness ExpandDifference = expand_difference_facts
soundness ExpandRemainder = expand_remainder_facts
soundness LowerIndex = lower_index_facts
soundness LowerLoop = lower_loop_facts
soundness LowerChoice = lower_choice_facts

-- a rule of canonicalization isn't a lowering rule
pub lowers_not : (r : Rule) → is_canonical r ≡ true → is_lowering r ≡ false
lowers_not r canonical = go (is_expanding r) (is_lowering r) canonical
  where
    go : (a b : Bool) → (not a && not b) ≡ true → b ≡ false
    go true b e = absurd cc
    go false true e = absurd cc
    go false false e = refl
