-- The edits of each rule, and the table of the rules for each operation name.
use Rattle.std.specs.Prelude.{◌≡◌, false, ℕ, List, [], ◌∷◌, codes, Bool, unwrap_or, Option, None}
use Rattle.std.specs.List.{list_any}
use Rattle.ir_tree.specs.declared.place.Place.{Place}
use Rattle.ir_tree.specs.Tree.{head}
use Rattle.ir_tree.specs.Meaning.{Operation}
use Rattle.op_registry.specs.Registry.{next_to}
use Rattle.rewriter_machine.specs.Contents.{Edit}
use Rattle.patterns_base.specs.declared.rule.Rule.{Rule}
use Rattle.patterns_base.specs.declared.rule.Rule.TheVariants.{EraseDead, FoldToConstant, SwapConstant, DropZero}
use Rattle.patterns_base.specs.declared.rule.Rule.TheVariants.{DropOne, DropAllOnes, CancelItself, KeepItself}
use Rattle.patterns_base.specs.declared.rule.Rule.TheVariants.{ZeroRemainder, RegroupConstants, AddNegative}
use Rattle.patterns_base.specs.declared.rule.Rule.TheVariants.{CompareItself, MirrorComparison, CompareZero}
use Rattle.patterns_base.specs.declared.rule.Rule.TheVariants.{ChooseSame, ChooseKnown, ChooseTruth, ChooseOpposite}
use Rattle.patterns_base.specs.declared.rule.Rule.TheVariants.{ExtendExtension, CutCast, CastBack, OpenBranch}
use Rattle.patterns_base.specs.declared.rule.Rule.TheVariants.{OpenLoop, StopLoop, ExpandMinMax, ExpandDifference}
use Rattle.patterns_base.specs.declared.rule.Rule.TheVariants.{ExpandRemainder, LowerIndex, LowerLoop, LowerChoice}
use Rattle.patterns_base.specs.RuleNames.{same_rule}
use Rattle.patterns_base.specs.Folding.{erase_dead, fold_to_constant, swap_constant, drop_zero, drop_one}
use Rattle.patterns_base.specs.Folding.{drop_all_ones, cancel_itself, keep_itself, zero_remainder, regroup_constants}
use Rattle.patterns_base.specs.Folding.{add_negative, compare_itself, mirror_comparison, compare_zero, choose_same}
use Rattle.patterns_base.specs.Folding.{choose_known, choose_truth, choose_opposite, expand_min_max}
use Rattle.patterns_base.specs.Folding.{expand_difference, expand_remainder}
use Rattle.patterns_base.specs.Casting.{extend_extension, cut_cast, cast_back}
use Rattle.patterns_base.specs.Opening.{open_branch, open_loop, stop_loop}
use Rattle.patterns_base.specs.Lowering.{lower_index, lower_loop, lower_choice}

-- the rules for each listed operation name, by ascending number; the entries are in the order of the operations' words
unfoldable pub table : List (List ℕ × List Rule)
table =
    (codes "builtin.module", [])
    ∷ (codes "builtin.unrealized_conversion_cast", EraseDead ∷ CastBack ∷ [])
    ∷ (codes "func.func", [])
    ∷ (codes "func.call", [])
    ∷ (codes "func.return", [])
    ∷ (codes "arith.constant", EraseDead ∷ LowerIndex ∷ [])
    ∷ (codes "arith.addi", EraseDead ∷ FoldToConstant ∷ SwapConstant ∷ DropZero ∷ RegroupConstants ∷ LowerIndex ∷ [])
    ∷ (
      codes "arith.subi",
      EraseDead ∷ FoldToConstant ∷ DropZero ∷ CancelItself ∷ AddNegative ∷ ExpandDifference ∷ LowerIndex ∷ [],
    )
    ∷ (codes "arith.muli", EraseDead ∷ FoldToConstant ∷ SwapConstant ∷ DropOne ∷ RegroupConstants ∷ LowerIndex ∷ [])
    ∷ (codes "arith.shli", EraseDead ∷ FoldToConstant ∷ DropZero ∷ LowerIndex ∷ [])
    ∷ (codes "arith.divsi", EraseDead ∷ FoldToConstant ∷ DropOne ∷ LowerIndex ∷ [])
    ∷ (codes "arith.divui", EraseDead ∷ FoldToConstant ∷ DropOne ∷ LowerIndex ∷ [])
    ∷ (codes "arith.remsi", EraseDead ∷ FoldToConstant ∷ ZeroRemainder ∷ ExpandRemainder ∷ LowerIndex ∷ [])
    ∷ (codes "arith.remui", EraseDead ∷ FoldToConstant ∷ ZeroRemainder ∷ ExpandRemainder ∷ LowerIndex ∷ [])
    ∷ (
      codes "arith.andi",
      EraseDead ∷ FoldToConstant ∷ SwapConstant ∷ DropAllOnes ∷ KeepItself ∷ RegroupConstants ∷ LowerIndex ∷ [],
    )
    ∷ (
      codes "arith.ori",
      EraseDead ∷ FoldToConstant ∷ SwapConstant ∷ DropZero ∷ KeepItself ∷ RegroupConstants ∷ LowerIndex ∷ [],
    )
    ∷ (
      codes "arith.xori",
      EraseDead ∷ FoldToConstant ∷ SwapConstant ∷ DropZero ∷ CancelItself ∷ RegroupConstants ∷ LowerIndex ∷ [],
    )
    ∷ (codes "arith.shrsi", EraseDead ∷ FoldToConstant ∷ DropZero ∷ LowerIndex ∷ [])
    ∷ (codes "arith.shrui", EraseDead ∷ FoldToConstant ∷ DropZero ∷ LowerIndex ∷ [])
    ∷ (codes "arith.maxsi", EraseDead ∷ FoldToConstant ∷ SwapConstant ∷ KeepItself ∷ ExpandMinMax ∷ LowerIndex ∷ [])
    ∷ (codes "arith.maxui", EraseDead ∷ FoldToConstant ∷ SwapConstant ∷ KeepItself ∷ ExpandMinMax ∷ LowerIndex ∷ [])
    ∷ (codes "arith.minsi", EraseDead ∷ FoldToConstant ∷ SwapConstant ∷ KeepItself ∷ ExpandMinMax ∷ LowerIndex ∷ [])
    ∷ (codes "arith.minui", EraseDead ∷ FoldToConstant ∷ SwapConstant ∷ KeepItself ∷ ExpandMinMax ∷ LowerIndex ∷ [])
    ∷ (
      codes "arith.cmpi",
      EraseDead ∷ FoldToConstant ∷ CompareItself ∷ MirrorComparison ∷ CompareZero ∷ LowerIndex ∷ [],
    )
    ∷ (
      codes "arith.select",
      EraseDead ∷ FoldToConstant ∷ ChooseSame ∷ ChooseKnown ∷ ChooseTruth ∷ ChooseOpposite ∷ LowerIndex ∷ [],
    )
    ∷ (codes "arith.extsi", EraseDead ∷ FoldToConstant ∷ ExtendExtension ∷ [])
    ∷ (codes "arith.extui", EraseDead ∷ FoldToConstant ∷ ExtendExtension ∷ [])
    ∷ (codes "arith.trunci", EraseDead ∷ FoldToConstant ∷ CutCast ∷ [])
    ∷ (codes "arith.index_cast", EraseDead ∷ FoldToConstant ∷ CastBack ∷ [])
    ∷ (codes "arith.index_castui", EraseDead ∷ FoldToConstant ∷ CastBack ∷ [])
    ∷ (codes "scf.for", EraseDead ∷ OpenLoop ∷ LowerLoop ∷ [])
    ∷ (codes "scf.if", EraseDead ∷ OpenBranch ∷ LowerChoice ∷ [])
    ∷ (codes "scf.while", EraseDead ∷ StopLoop ∷ [])
    ∷ (codes "scf.yield", [])
    ∷ (codes "scf.condition", [])
    ∷ (codes "memref.alloc", EraseDead ∷ [])
    ∷ (codes "memref.dealloc", [])
    ∷ (codes "memref.load", EraseDead ∷ [])
    ∷ (codes "memref.store", [])
    ∷ []

-- the rules for a name; none for a name that isn't listed
unfoldable pub rules_for : List ℕ → List Rule
rules_for name = unwrap_or (next_to name table) []

-- whether rule r is among the rules for a name
abbrev pub has_rule : Rule → List ℕ → Bool
has_rule r name = list_any (same_rule r) (rules_for name)

-- the edits of rule r at a verified operation, in a tree whose next free id is n; the place is before the operation;
-- none if the rule doesn't apply
unfoldable pub rule : Rule → Operation → ℕ → Place → Operation → Option (List Edit)
rule EraseDead t n point o = erase_dead t n point o
rule FoldToConstant t n point o = fold_to_constant t n point o
rule SwapConstant t n point o = swap_constant t n point o
rule DropZero t n point o = drop_zero t n point o
rule DropOne t n point o = drop_one t n point o
rule DropAllOnes t n point o = drop_all_ones t n point o
rule CancelItself t n point o = cancel_itself t n point o
rule KeepItself t n point o = keep_itself t n point o
rule ZeroRemainder t n point o = zero_remainder t n point o
rule RegroupConstants t n point o = regroup_constants t n point o
rule AddNegative t n point o = add_negative t n point o
rule CompareItself t n point o = compare_itself t n point o
rule MirrorComparison t n point o = mirror_comparison t n point o
rule CompareZero t n point o = compare_zero t n point o
rule ChooseSame t n point o = choose_same t n point o
rule ChooseKnown t n point o = choose_known t n point o
rule ChooseTruth t n point o = choose_truth t n point o
rule ChooseOpposite t n point o = choose_opposite t n point o
rule ExtendExtension t n point o = extend_extension t n point o
rule CutCast t n point o = cut_cast t n point o
rule CastBack t n point o = cast_back t n point o
rule OpenBranch t n point o = open_branch t point o
rule OpenLoop t n point o = open_loop t point o
rule StopLoop t n point o = stop_loop t point o
rule ExpandMinMax t n point o = expand_min_max t n point o
rule ExpandDifference t n point o = expand_difference t n point o
rule ExpandRemainder t n point o = expand_remainder t n point o
rule LowerIndex t n point o = lower_index t n point o
rule LowerLoop t n point o = lower_loop t n point o
rule LowerChoice t n point o = lower_choice t n point o

-- a rule that the table doesn't list for a name doesn't apply at operations with that name
abbrev pub OnlyListed : Type 0
OnlyListed = (r : Rule) (t : Operation) (n : ℕ) (point : Place) (o : Operation) → has_rule r (head o).name ≡ false
    → rule r t n point o ≡ None
