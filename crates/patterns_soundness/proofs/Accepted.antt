-- No edit of any rule is refused.
use Rattle.std.proofs.Common.{◌≡◌, refl, ap, sym, ◌∙◌, ℕ, ◌+◌, Bool, true, false, List, Some, leb-true, if◌then◌else◌}
use Rattle.std.specs.Prelude.{nat_le}
use Rattle.ir_event.specs.trees.WellFormed.{IsWellFormed}
use Rattle.ir_event.specs.Step.{IsSorted}
use Rattle.ir_event.specs.types.Words.{is_isolated}
use Rattle.ir_event.specs.types.declared.refusal.Refusal.TheVariants.{Full, IdsExhausted}
use Rattle.ir_event.specs.trees.declared.place.Place.{Place}
use Rattle.ir_event.specs.trees.Tree.{head}
use Rattle.ir_event.specs.trees.Ids.{find, op_count}
use Rattle.ir_event.specs.trees.Limits.{most_next, most_ops}
use Rattle.ir_event.specs.trees.Meaning.{Operation}
use Rattle.ir_event.proofs.of_tree_laws.Members.{found_stands}
use Rattle.ir_event.specs.Modules.{Module}
use Rattle.rewriter_machine.specs.Contents.{Edit, all_edited}
use Rattle.patterns_base.specs.Lists.{Free}
use Rattle.patterns_soundness.specs.base.RuleNames.{is_erasing}
use Rattle.patterns_soundness.specs.base.declared.rule.Rule.{Rule}
use Rattle.patterns_soundness.specs.base.declared.rule.Rule.TheVariants.{EraseDead, FoldToConstant, SwapConstant, DropZero}
use Rattle.patterns_soundness.specs.base.declared.rule.Rule.TheVariants.{DropOne, DropAllOnes, CancelItself, KeepItself}
use Rattle.patterns_soundness.specs.base.declared.rule.Rule.TheVariants.{ZeroRemainder, RegroupConstants, AddNegative}
use Rattle.patterns_soundness.specs.base.declared.rule.Rule.TheVariants.{CompareItself, MirrorComparison, CompareZero}
use Rattle.patterns_soundness.specs.base.declared.rule.Rule.TheVariants.{ChooseSame, ChooseKnown, ChooseTruth, ChooseOpposite}
use Rattle.patterns_soundness.specs.base.declared.rule.Rule.TheVariants.{ExtendExtension, CutCast, CastBack, OpenBranch}
use Rattle.patterns_soundness.specs.base.declared.rule.Rule.TheVariants.{OpenLoop, StopLoop, ExpandMinMax, ExpandDifference}
use Rattle.patterns_soundness.specs.base.declared.rule.Rule.TheVariants.{ExpandRemainder, LowerIndex, LowerLoop, LowerChoice}
use Rattle.patterns_soundness.specs.base.Keeps.{given}
use Rattle.patterns_soundness.specs.base.Looks.{insertion_of, when}
use Rattle.patterns_soundness.specs.base.Makes.{made_by}
use Rattle.patterns_soundness.specs.base.Rules.{rule}
use Rattle.patterns_soundness.specs.base.Rewrites.{becomes, carried_out, edits_of, refused, eligible}
use Rattle.patterns_soundness.specs.Accepted.{AreAccepted}
use Rattle.patterns_soundness.proofs.Points.{Point}
use Rattle.patterns_soundness.proofs.Given.{HasHeadroom, free_drop_zero, free_drop_one, free_drop_all_ones, free_keep_itself, free_choose_same, free_choose_known, free_choose_truth, free_cast_back}
use Rattle.patterns_soundness.proofs.New.{free_fold_to_constant, free_cancel_itself, free_zero_remainder, free_regroup_constants, free_add_negative, free_compare_itself, free_compare_zero, free_extend_extension, free_cut_cast, free_expand_min_max, free_expand_difference, free_expand_remainder}
use Rattle.patterns_soundness.proofs.Opened.{free_open_branch}
use Rattle.patterns_soundness.proofs.Loops.{free_open_loop, free_stop_loop}
use Rattle.patterns_soundness.proofs.Indexed.{free_lower_index}
use Rattle.patterns_soundness.proofs.Chosen.{free_lower_choice}
use Rattle.patterns_soundness.proofs.LoweredLoop.{free_lower_loop}
use Rattle.patterns_soundness.proofs.InPlace.{free_erase_dead, free_swap_constant, free_mirror_comparison, free_choose_opposite}
use Rattle.patterns_soundness.proofs.of_base.Facts.{edits_are, others_suit, when_some}
use Rattle.patterns_laws.proofs.KnownFolds.{given_some}

-- an operation of a module that is eligible for rule r, with the place before it
record Suited (r : Rule) (m : Module) (o : Operation) (insertion : Place) : Type 0 where
  wellformed : IsWellFormed is_isolated m
  sorted : IsSorted m
  found : find (head o).id m.tree ≡ Some o
  place : insertion_of (head o).id m.tree ≡ Some insertion
  fits : eligible r m.tree (head o) ≡ true

-- if the rule doesn't erase, the operation is verified
point : (r : Rule) (m : Module) (o : Operation) (insertion : Place) → Suited r m o insertion → is_erasing r ≡ false → Point m o insertion
point r m o insertion s other = record {
  wellformed = s.wellformed;
  sorted = s.sorted;
  found = s.found;
  place = s.place;
  verified = sym (others_suit r m.tree (head o) other) ∙ s.fits;
}

-- the edits of a rule at an eligible operation are accepted
abbrev IsFree : Rule → Type 0
IsFree r = (m : Module) (o : Operation) (insertion : Place) → Suited r m o insertion → (es : List Edit) → rule r m.tree m.next insertion o ≡ Some es → HasHeadroom m es → Free es m

-- the edits of each rule are accepted
each_rule : (r : Rule) → IsFree r
unfolding rule
each_rule EraseDead m o insertion s es e headroom = free_erase_dead m o insertion s.wellformed s.place m.next es e
each_rule FoldToConstant m o insertion s es e headroom = free_fold_to_constant m o insertion (point FoldToConstant m o insertion s refl) es e headroom
each_rule SwapConstant m o insertion s es e headroom = free_swap_constant m o insertion (point SwapConstant m o insertion s refl) m.next es e
each_rule DropZero m o insertion s es e headroom = free_drop_zero m o insertion (point DropZero m o insertion s refl) m.next es e headroom
each_rule DropOne m o insertion s es e headroom = free_drop_one m o insertion (point DropOne m o insertion s refl) m.next es e headroom
each_rule DropAllOnes m o insertion s es e headroom = free_drop_all_ones m o insertion (point DropAllOnes m o insertion s refl) m.next es e headroom
each_rule CancelItself m o insertion s es e headroom = free_cancel_itself m o insertion (point CancelItself m o insertion s refl) es e headroom
each_rule KeepItself m o insertion s es e headroom = free_keep_itself m o insertion (point KeepItself m o insertion s refl) m.next es e headroom
each_rule ZeroRemainder m o insertion s es e headroom = free_zero_remainder m o insertion (point ZeroRemainder m o insertion s refl) es e headroom
each_rule RegroupConstants m o insertion s es e headroom = free_regroup_constants m o insertion (point RegroupConstants m o insertion s refl) es e headroom
each_rule AddNegative m o insertion s es e headroom = free_add_negative m o insertion (point AddNegative m o insertion s refl) es e headroom
each_rule CompareItself m o insertion s es e headroom = free_compare_itself m o insertion (point CompareItself m o insertion s refl) es e headroom
each_rule MirrorComparison m o insertion s es e headroom = free_mirror_comparison m o insertion (point MirrorComparison m o insertion s refl) m.next es e
each_rule CompareZero m o insertion s es e headroom = free_compare_zero m o insertion (point CompareZero m o insertion s refl) es e headroom
each_rule ChooseSame m o insertion s es e headroom = free_choose_same m o insertion (point ChooseSame m o insertion s refl) m.next es e headroom
each_rule ChooseKnown m o insertion s es e headroom = free_choose_known m o insertion (point ChooseKnown m o insertion s refl) m.next es e headroom
each_rule ChooseTruth m o insertion s es e headroom = free_choose_truth m o insertion (point ChooseTruth m o insertion s refl) m.next es e headroom
each_rule ChooseOpposite m o insertion s es e headroom = free_choose_opposite m o insertion (point ChooseOpposite m o insertion s refl) m.next es e
each_rule ExtendExtension m o insertion s es e headroom = free_extend_extension m o insertion (point ExtendExtension m o insertion s refl) es e headroom
each_rule CutCast m o insertion s es e headroom = free_cut_cast m o insertion (point CutCast m o insertion s refl) es e headroom
each_rule CastBack m o insertion s es e headroom = free_cast_back m o insertion (point CastBack m o insertion s refl) m.next es e headroom
each_rule OpenBranch m o insertion s es e headroom = free_open_branch m o insertion (point OpenBranch m o insertion s refl) es e
each_rule OpenLoop m o insertion s es e headroom = free_open_loop m o insertion (point OpenLoop m o insertion s refl) es e
each_rule StopLoop m o insertion s es e headroom = free_stop_loop m o insertion (point StopLoop m o insertion s refl) es e
each_rule ExpandMinMax m o insertion s es e headroom = free_expand_min_max m o insertion (point ExpandMinMax m o insertion s refl) es e headroom
each_rule ExpandDifference m o insertion s es e headroom = free_expand_difference m o insertion (point ExpandDifference m o insertion s refl) es e headroom
each_rule ExpandRemainder m o insertion s es e headroom = free_expand_remainder m o insertion (point ExpandRemainder m o insertion s refl) es e headroom
each_rule LowerIndex m o insertion s es e headroom = free_lower_index m o insertion (point LowerIndex m o insertion s refl) es e headroom
each_rule LowerLoop m o insertion s es e headroom = free_lower_loop m o insertion (point LowerLoop m o insertion s refl) es e headroom
each_rule LowerChoice m o insertion s es e headroom = free_lower_choice m o insertion (point LowerChoice m o insertion s refl) es e headroom

-- the operations that edits make are within the limits if the edits are carried out
has_headroom : (es : List Edit) (m n : Module) → carried_out es m ≡ becomes n → HasHeadroom m es
has_headroom es m n e = go (nat_le (op_count m.tree + made_by es) most_ops) refl (nat_le (m.next + made_by es) most_next) refl e
  where
    go : (a : Bool) → nat_le (op_count m.tree + made_by es) most_ops ≡ a → (b : Bool) → nat_le (m.next + made_by es) most_next ≡ b → (if a then (if b then becomes (all_edited es m) else refused IdsExhausted) else refused Full) ≡ becomes n → HasHeadroom m es
    go true p true q e = (leb-true (op_count m.tree + made_by es) most_ops p, leb-true (m.next + made_by es) most_next q)
    go true p false q e = absurd cc
    go false p b q e = absurd cc

pub are_accepted : AreAccepted
are_accepted r m x wellformed sorted es n e carried =
    let o = given_some (find x m.tree) _ es (sym (edits_are r m x) ∙ e) in
    let insertion = given_some (insertion_of x m.tree) _ es o.2 in
    let w = when_some (eligible r m.tree (head o.0)) _ es insertion.2 in
    let id : (head o.0).id ≡ x = (let s = found_stands x m.tree o.0 o.1 in ap (λ (z : Operation). (head z).id) (sym s.3) ∙ s.2) in
    let suited : Suited r m o.0 insertion.0 = record { wellformed = wellformed; sorted = sorted; found = ap (λ z. find z m.tree) id ∙ o.1; place = ap (λ z. insertion_of z m.tree) id ∙ insertion.1; fits = w.0 } in
    each_rule r m o.0 insertion.0 suited es w.1 (has_headroom es m n carried)
