-- The values that each rule keeps: for all operand values for which the old operations fold, the new ones fold to the
-- same value, at every width. Rules on blocks have no such property.
use Rattle.std.specs.Prelude.{codes}
use Rattle.patterns_laws.specs.Words.{commutative, with_zero_as_right_identity, with_one_as_right_identity, self_inverse, idempotent, remainders}
use Rattle.patterns_laws.specs.Words.{associative, index_casts, arithmetic, predicate_of_min_max, division_of_remainder}
use Rattle.patterns_laws.specs.Keeps.{Each, Folding, Swapping, Ignoring, IgnoringOnes, Cancelling, KeepingItself}
use Rattle.patterns_laws.specs.Keeps.{LeavingNothing, Regrouping, AddingTheNegative, ComparingItself, Mirroring}
use Rattle.patterns_laws.specs.Keeps.{NotBelowZero, ChoosingOne, ChoosingByConstant, ChoosingTruth}
use Rattle.patterns_laws.specs.Keeps.{ChoosingByOpposite, Extending, CuttingTwice, CuttingBack, ComingBack, Choosing}
use Rattle.patterns_laws.specs.Keeps.{AddingTheComplement, Dividing, LoweringTwo, LoweringComparison, LoweringChoice}
use Rattle.patterns_laws.specs.Keeps.{LoweringConstant}
use Rattle.patterns_soundness.specs.base.declared.rule.Rule.{Rule}
use Rattle.patterns_soundness.specs.base.declared.rule.Rule.TheVariants.{EraseDead, FoldToConstant, SwapConstant, DropZero}
use Rattle.patterns_soundness.specs.base.declared.rule.Rule.TheVariants.{DropOne, DropAllOnes, CancelItself, KeepItself}
use Rattle.patterns_soundness.specs.base.declared.rule.Rule.TheVariants.{ZeroRemainder, RegroupConstants, AddNegative}
use Rattle.patterns_soundness.specs.base.declared.rule.Rule.TheVariants.{CompareItself, MirrorComparison, CompareZero}
use Rattle.patterns_soundness.specs.base.declared.rule.Rule.TheVariants.{ChooseSame, ChooseKnown}
use Rattle.patterns_soundness.specs.base.declared.rule.Rule.TheVariants.{ChooseTruth, ChooseOpposite}
use Rattle.patterns_soundness.specs.base.declared.rule.Rule.TheVariants.{ExtendExtension, CutCast, CastBack, OpenBranch}
use Rattle.patterns_soundness.specs.base.declared.rule.Rule.TheVariants.{OpenLoop, StopLoop}
use Rattle.patterns_soundness.specs.base.declared.rule.Rule.TheVariants.{ExpandMinMax, ExpandDifference}
use Rattle.patterns_soundness.specs.base.declared.rule.Rule.TheVariants.{ExpandRemainder, LowerIndex}
use Rattle.patterns_soundness.specs.base.declared.rule.Rule.TheVariants.{LowerLoop, LowerChoice}

-- extensions of extensions: sign of sign, zero of zero, and a sign extension of a zero extension
abbrev pub ExtendingAll : Type 0
ExtendingAll =
    Extending (codes "arith.extsi") (codes "arith.extsi") (codes "arith.extsi")
    × Extending (codes "arith.extui") (codes "arith.extui") (codes "arith.extui")
    × Extending (codes "arith.extui") (codes "arith.extsi") (codes "arith.extui")

abbrev pub KeepsValues : Rule → Type 0
KeepsValues EraseDead = Unit {0}
KeepsValues FoldToConstant = Folding
KeepsValues SwapConstant = Each Swapping commutative
KeepsValues DropZero = Each (Ignoring 0) with_zero_as_right_identity
KeepsValues DropOne = Each (Ignoring 1) with_one_as_right_identity
KeepsValues DropAllOnes = IgnoringOnes
KeepsValues CancelItself = Each Cancelling self_inverse
KeepsValues KeepItself = Each KeepingItself idempotent
KeepsValues ZeroRemainder = Each LeavingNothing remainders
KeepsValues RegroupConstants = Each Regrouping associative
KeepsValues AddNegative = AddingTheNegative
KeepsValues CompareItself = ComparingItself
KeepsValues MirrorComparison = Mirroring
KeepsValues CompareZero = NotBelowZero 6 0 × NotBelowZero 9 1
KeepsValues ChooseSame = ChoosingOne
KeepsValues ChooseKnown = ChoosingByConstant
KeepsValues ChooseTruth = ChoosingTruth
KeepsValues ChooseOpposite = ChoosingByOpposite
KeepsValues ExtendExtension = ExtendingAll
KeepsValues CutCast = CuttingTwice × CuttingBack (codes "arith.extsi") × CuttingBack (codes "arith.extui")
KeepsValues CastBack = Each ComingBack index_casts
KeepsValues OpenBranch = Unit {0}
KeepsValues OpenLoop = Unit {0}
KeepsValues StopLoop = Unit {0}
KeepsValues ExpandMinMax = Each Choosing predicate_of_min_max
KeepsValues ExpandDifference = AddingTheComplement
KeepsValues ExpandRemainder = Each Dividing division_of_remainder
KeepsValues LowerIndex = Each LoweringTwo arithmetic × LoweringComparison × LoweringChoice × LoweringConstant
KeepsValues LowerLoop = Unit {0}
KeepsValues LowerChoice = Unit {0}
