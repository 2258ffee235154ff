-- The listed rules keep modules ready and refine what they compute.
use Rattle.std.proofs.Common.{List, [], ◌∷◌, inl, inr, subst, sym}
use Rattle.ir_tree_laws.specs.Members.{In}
use Rattle.patterns_base.specs.declared.rule.Rule.{Rule}
use Rattle.patterns_soundness.specs.Accepted.{AreAccepted}
use Rattle.patterns_refinement.specs.Keeping.{KeepsComputing, KeepsReady}
use Rattle.patterns_refinement.specs.Runs.{KeptAreKept, kept_rules}
use Rattle.patterns_refinement.proofs.Conditions.{choose_truth_is}
use Rattle.patterns_refinement.proofs.Swapping.{swap_constant_computing, swap_constant_ready}
use Rattle.patterns_refinement.proofs.TruthRules.{compare_itself_computing, compare_itself_ready, compare_zero_computing, compare_zero_ready}
use Rattle.patterns_refinement.proofs.NumberRules.{cancel_itself_computing, cancel_itself_ready, zero_remainder_computing, zero_remainder_ready}
use Rattle.patterns_refinement.proofs.Casts.{cut_cast_computing, cut_cast_ready}
use Rattle.patterns_refinement.proofs.Choosing.{choose_opposite_computing, choose_opposite_ready}
use Rattle.patterns_refinement.proofs.Erasing.{erase_dead_computing, erase_dead_ready}
use Rattle.patterns_refinement.proofs.Expanding.{expand_difference_computing, expand_difference_ready}
use Rattle.patterns_refinement.proofs.Extremes.{expand_min_max_computing, expand_min_max_ready}
use Rattle.patterns_refinement.proofs.Extending.{extend_extension_computing, extend_extension_ready}
use Rattle.patterns_refinement.proofs.Folding.{fold_to_constant_computing, fold_to_constant_ready}
use Rattle.patterns_refinement.proofs.Joining.{add_negative_computing, add_negative_ready, regroup_constants_computing, regroup_constants_ready}
use Rattle.patterns_refinement.proofs.Mirroring.{mirror_comparison_computing, mirror_comparison_ready}
use Rattle.patterns_refinement.proofs.OldRules.{choose_known_is, choose_same_is, drop_all_ones_is, drop_one_is, drop_zero_is, keep_itself_is}

abbrev Kept : Rule → Type 0
Kept r = KeepsReady r × KeepsComputing r

abbrev EachKept : List Rule → Type 0
EachKept [] = Unit {0}
EachKept (r ∷ rs) = Kept r × EachKept rs

one_kept : (rs : List Rule) → EachKept rs → (r : Rule) → In r rs → Kept r
one_kept [] k r i = absurd i
one_kept (s ∷ rs) k r (inl i) = subst Kept (sym i) k.0
one_kept (s ∷ rs) k r (inr i) = one_kept rs k.1 r i

each_kept : AreAccepted → EachKept kept_rules
each_kept accepted =
    ((erase_dead_ready accepted, erase_dead_computing accepted), ((fold_to_constant_ready accepted, fold_to_constant_computing accepted), ((swap_constant_ready accepted, swap_constant_computing accepted), (drop_zero_is accepted, (drop_one_is accepted, (drop_all_ones_is accepted, ((cancel_itself_ready accepted, cancel_itself_computing accepted), (keep_itself_is accepted, ((zero_remainder_ready accepted, zero_remainder_computing accepted), ((regroup_constants_ready accepted, regroup_constants_computing accepted), ((add_negative_ready accepted, add_negative_computing accepted), ((compare_itself_ready accepted, compare_itself_computing accepted), ((mirror_comparison_ready accepted, mirror_comparison_computing accepted), ((compare_zero_ready accepted, compare_zero_computing accepted), (choose_same_is accepted, (choose_known_is accepted, (choose_truth_is accepted, ((choose_opposite_ready accepted, choose_opposite_computing accepted), ((extend_extension_ready accepted, extend_extension_computing accepted), ((cut_cast_ready accepted, cut_cast_computing accepted), ((expand_min_max_ready accepted, expand_min_max_computing accepted), ((expand_difference_ready accepted, expand_difference_computing accepted), tt))))))))))))))))))))))

pub all_kept : AreAccepted → KeptAreKept
all_kept accepted rs within r i = one_kept kept_rules (each_kept accepted) r (within r i)
