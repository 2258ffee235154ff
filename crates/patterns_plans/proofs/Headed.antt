-- The rules that are planned from what the store shows of an operation read only its head.
use Rattle.std.proofs.Common.{◌≡◌, ap, sym, ◌∙◌, ℕ, Bool, true, false, [], ◌∷◌, Option, Some, None, option_map}
use Rattle.ir_event.specs.trees.declared.place.Place.{Place}
use Rattle.ir_event.specs.trees.Tree.{op, no_regions, head}
use Rattle.ir_event.specs.trees.Ids.{find}
use Rattle.ir_event.specs.trees.Meaning.{Operation}
use Rattle.ir_event.proofs.of_tree_laws.Members.{found_stands}
use Rattle.ir_event.specs.store.Nodes.{Node}
use Rattle.ir_event.specs.declared.world.World.{World}
use Rattle.ir_event.specs.Modules.{module_in}
use Rattle.effects.specs.Dead.{dead_at, dead_in, is_dead}
use Rattle.patterns_base.specs.Edits.{Erase}
use Rattle.patterns_matchers.specs.Folding.{fold_to_constant, swap_constant, drop_zero, drop_one, drop_all_ones, cancel_itself, keep_itself, zero_remainder, regroup_constants, add_negative, compare_itself, mirror_comparison, compare_zero, choose_same, choose_known, choose_truth, choose_opposite, expand_min_max, expand_difference, expand_remainder}
use Rattle.patterns_matchers.specs.Casting.{extend_extension, cut_cast, cast_back}
use Rattle.patterns_matchers.specs.Looks.{Header, is_erasable, when}
use Rattle.patterns_matchers.specs.Reads.{head_at, header_of_node}
use Rattle.patterns_matchers.specs.Rule.{Rule}
use Rattle.patterns_matchers.specs.Rule.TheVariants.{EraseDead, FoldToConstant, SwapConstant, DropZero, DropOne, DropAllOnes, CancelItself, KeepItself}
use Rattle.patterns_matchers.specs.Rule.TheVariants.{ZeroRemainder, RegroupConstants, AddNegative, CompareItself, MirrorComparison, CompareZero, ChooseSame}
use Rattle.patterns_matchers.specs.Rule.TheVariants.{ChooseKnown, ChooseTruth, ChooseOpposite, ExtendExtension, CutCast, CastBack, ExpandMinMax}
use Rattle.patterns_matchers.specs.Rule.TheVariants.{ExpandDifference, ExpandRemainder}
use Rattle.patterns_matchers.specs.Rules.{rule}
use Rattle.patterns_matchers.specs.declared.plan.RewritePlan.{RewritePlan}
use Rattle.patterns_plans.specs.Planned.{Making, IsPlanned, IsPlanAt}
use Rattle.ir_event.proofs.Facts.{found_id}

-- what the store shows of x, with its id, is its head
same_head : (x : ℕ) (t : Operation) (h : Header) (o : Operation) → Some h ≡ head_at x t → find x t ≡ Some o → record h { id = x } ≡ head o
same_head x t h o e f =
    let w = found_stands x t o f in
    let shown : Some h ≡ Some (head o) = e ∙ ap (option_map (λ o. head o)) f in
    let one : h ≡ head o = cc in
    let id : x ≡ (head o).id = sym w.2 ∙ ap (λ (z : Operation). (head z).id) w.3 in
    λ i. record (one i) { id = id i }

-- a rule makes these edits, and reads only the head of an operation
abbrev pub LooksAtHead : Making → Rule → Type 0
LooksAtHead makes r = (t : Operation) (n : ℕ) (insertion : Place) (h : Header) (o : Operation) → h ≡ head o → makes t n insertion (op h no_regions) ≡ rule r t n insertion o

-- a plan for the head is a plan for the operation
pub planned_at : (makes : Making) (s : Rule) → LooksAtHead makes s → (r : Rule) → r ≡ s → (w : World) (x : ℕ) (node : Node) (p : Option RewritePlan)
    → Some (header_of_node w.ctx node) ≡ head_at x (module_in w).tree → IsPlanned makes w x node p → IsPlanAt r w x p
planned_at makes s looks r is w x node p e planned o f n insertion =
    planned n insertion
    ∙ looks (module_in w).tree n insertion (record (header_of_node w.ctx node) { id = x }) o (same_head x (module_in w).tree (header_of_node w.ctx node) o e f)
    ∙ ap (λ r. rule r (module_in w).tree n insertion o) (sym is)

pub at_fold_to_constant : LooksAtHead fold_to_constant FoldToConstant
unfolding rule
at_fold_to_constant t n insertion h o e = ap (λ z. fold_to_constant t n insertion (op z no_regions)) e

pub at_swap_constant : LooksAtHead swap_constant SwapConstant
unfolding rule
at_swap_constant t n insertion h o e = ap (λ z. swap_constant t n insertion (op z no_regions)) e

pub at_drop_zero : LooksAtHead drop_zero DropZero
unfolding rule
at_drop_zero t n insertion h o e = ap (λ z. drop_zero t n insertion (op z no_regions)) e

pub at_drop_one : LooksAtHead drop_one DropOne
unfolding rule
at_drop_one t n insertion h o e = ap (λ z. drop_one t n insertion (op z no_regions)) e

pub at_drop_all_ones : LooksAtHead drop_all_ones DropAllOnes
unfolding rule
at_drop_all_ones t n insertion h o e = ap (λ z. drop_all_ones t n insertion (op z no_regions)) e

pub at_cancel_itself : LooksAtHead cancel_itself CancelItself
unfolding rule
at_cancel_itself t n insertion h o e = ap (λ z. cancel_itself t n insertion (op z no_regions)) e

pub at_keep_itself : LooksAtHead keep_itself KeepItself
unfolding rule
at_keep_itself t n insertion h o e = ap (λ z. keep_itself t n insertion (op z no_regions)) e

pub at_zero_remainder : LooksAtHead zero_remainder ZeroRemainder
unfolding rule
at_zero_remainder t n insertion h o e = ap (λ z. zero_remainder t n insertion (op z no_regions)) e

pub at_regroup_constants : LooksAtHead regroup_constants RegroupConstants
unfolding rule
at_regroup_constants t n insertion h o e = ap (λ z. regroup_constants t n insertion (op z no_regions)) e

pub at_add_negative : LooksAtHead add_negative AddNegative
unfolding rule
at_add_negative t n insertion h o e = ap (λ z. add_negative t n insertion (op z no_regions)) e

pub at_compare_itself : LooksAtHead compare_itself CompareItself
unfolding rule
at_compare_itself t n insertion h o e = ap (λ z. compare_itself t n insertion (op z no_regions)) e

pub at_mirror_comparison : LooksAtHead mirror_comparison MirrorComparison
unfolding rule
at_mirror_comparison t n insertion h o e = ap (λ z. mirror_comparison t n insertion (op z no_regions)) e

pub at_compare_zero : LooksAtHead compare_zero CompareZero
unfolding rule
at_compare_zero t n insertion h o e = ap (λ z. compare_zero t n insertion (op z no_regions)) e

pub at_choose_same : LooksAtHead choose_same ChooseSame
unfolding rule
at_choose_same t n insertion h o e = ap (λ z. choose_same t n insertion (op z no_regions)) e

pub at_choose_known : LooksAtHead choose_known ChooseKnown
unfolding rule
at_choose_known t n insertion h o e = ap (λ z. choose_known t n insertion (op z no_regions)) e

pub at_choose_truth : LooksAtHead choose_truth ChooseTruth
unfolding rule
at_choose_truth t n insertion h o e = ap (λ z. choose_truth t n insertion (op z no_regions)) e

pub at_choose_opposite : LooksAtHead choose_opposite ChooseOpposite
unfolding rule
at_choose_opposite t n insertion h o e = ap (λ z. choose_opposite t n insertion (op z no_regions)) e

pub at_extend_extension : LooksAtHead extend_extension ExtendExtension
unfolding rule
at_extend_extension t n insertion h o e = ap (λ z. extend_extension t n insertion (op z no_regions)) e

pub at_cut_cast : LooksAtHead cut_cast CutCast
unfolding rule
at_cut_cast t n insertion h o e = ap (λ z. cut_cast t n insertion (op z no_regions)) e

pub at_cast_back : LooksAtHead cast_back CastBack
unfolding rule
at_cast_back t n insertion h o e = ap (λ z. cast_back t n insertion (op z no_regions)) e

pub at_expand_min_max : LooksAtHead expand_min_max ExpandMinMax
unfolding rule
at_expand_min_max t n insertion h o e = ap (λ z. expand_min_max t n insertion (op z no_regions)) e

pub at_expand_difference : LooksAtHead expand_difference ExpandDifference
unfolding rule
at_expand_difference t n insertion h o e = ap (λ z. expand_difference t n insertion (op z no_regions)) e

pub at_expand_remainder : LooksAtHead expand_remainder ExpandRemainder
unfolding rule
at_expand_remainder t n insertion h o e = ap (λ z. expand_remainder t n insertion (op z no_regions)) e

dead_is : (x : ℕ) (t o : Operation) (b : Bool) → b ≡ dead_at x t → find x t ≡ Some o → b ≡ is_dead t o
dead_is x t o b e f = e ∙ ap (dead_in t) f

pub none_dead : (x : ℕ) (t o : Operation) (b : Bool) → b ≡ dead_at x t → b ≡ false → find x t ≡ Some o → (n : ℕ) (insertion : Place) → None ≡ rule EraseDead t n insertion o
unfolding rule is_erasable
none_dead x t o b e k f n insertion = sym (ap (λ c. when c (Some (Erase (head o).id ∷ []))) (sym (dead_is x t o b e f) ∙ k))

pub one_dead : (x : ℕ) (t o : Operation) (b : Bool) → b ≡ dead_at x t → b ≡ true → find x t ≡ Some o → (n : ℕ) (insertion : Place) → Some (Erase x ∷ []) ≡ rule EraseDead t n insertion o
unfolding rule is_erasable
one_dead x t o b e k f n insertion = sym (ap (λ c. when c (Some (Erase (head o).id ∷ []))) (sym (dead_is x t o b e f) ∙ k) ∙ ap (λ y. Some (Erase y ∷ [])) (found_id x t o f))
