-- Conditions of rules, and the first one that doesn't hold.
use Rattle.std.specs.Prelude.{ℕ, List, [], ◌∷◌, codes, Bool, true, false, ◌&&◌, Option, Some, None}
use Rattle.patterns_plans.specs.declared.reason.Reason.{Reason}
use Rattle.patterns_plans.specs.declared.reason.Reason.TheVariants.{IsRoot, NotVerified, WrongOperation, Used}
use Rattle.patterns_plans.specs.declared.reason.Reason.TheVariants.{HasEffects, ConstantNotVerified}
use Rattle.patterns_plans.specs.declared.reason.Reason.TheVariants.{OperandNotConstant, DoesNotFold}
use Rattle.patterns_plans.specs.declared.reason.Reason.TheVariants.{FirstNotConstant, SecondConstant}
use Rattle.patterns_plans.specs.declared.reason.Reason.TheVariants.{SecondNotConstant, SecondNotZero}
use Rattle.patterns_plans.specs.declared.reason.Reason.TheVariants.{SecondNotOne, SecondNotAllOnes, ThirdNotZero}
use Rattle.patterns_plans.specs.declared.reason.Reason.TheVariants.{OperandsDiffer, OtherPredicate, OtherType}
use Rattle.patterns_plans.specs.declared.reason.Reason.TheVariants.{NoDefiningOp, InnerNotConstant}
use Rattle.patterns_plans.specs.declared.reason.Reason.TheVariants.{InnerNotOne, FewerBits, BoundNotConstant}
use Rattle.patterns_plans.specs.declared.reason.Reason.TheVariants.{RunsAgain, ConditionNotFalse, BlockNotVerified}
use Rattle.patterns_plans.specs.declared.reason.Reason.TheVariants.{NoIndex}

-- the word of a condition that doesn't hold
abbrev pub word_of : Reason → List ℕ
word_of IsRoot = codes "root"
word_of NotVerified = codes "not-clean"
word_of WrongOperation = codes "other-operation"
word_of Used = codes "used"
word_of HasEffects = codes "has-effects"
word_of ConstantNotVerified = codes "constant-not-clean"
word_of OperandNotConstant = codes "operand-not-constant"
word_of DoesNotFold = codes "does-not-fold"
word_of FirstNotConstant = codes "first-not-constant"
word_of SecondConstant = codes "second-constant"
word_of SecondNotConstant = codes "second-not-constant"
word_of SecondNotZero = codes "second-not-zero"
word_of SecondNotOne = codes "second-not-one"
word_of SecondNotAllOnes = codes "second-not-all-ones"
word_of ThirdNotZero = codes "third-not-zero"
word_of OperandsDiffer = codes "operands-differ"
word_of OtherPredicate = codes "other-predicate"
word_of OtherType = codes "other-type"
word_of NoDefiningOp = codes "no-inner-operation"
word_of InnerNotConstant = codes "inner-not-constant"
word_of InnerNotOne = codes "inner-not-one"
word_of FewerBits = codes "fewer-bits"
word_of BoundNotConstant = codes "bound-not-constant"
word_of RunsAgain = codes "goes-on"
word_of ConditionNotFalse = codes "condition-not-false"
word_of BlockNotVerified = codes "block-not-clean"
word_of NoIndex = codes "no-index"

-- a condition: the reason if it doesn't hold, and whether it holds
pub record Test : Type 0 where
  pub condition : Reason
  pub holds : Bool

abbrev pub asks : Reason → Bool → Test
asks c b = record { condition = c; holds = b }

-- the reason of a condition, if it doesn't hold, or else another
abbrev pub unless_holds : Bool → Reason → Option Reason → Option Reason
unless_holds true c others = others
unless_holds false c others = Some c

-- the first condition of a list that doesn't hold
abbrev pub first_failed_test : List Test → Option Reason
first_failed_test [] = None
first_failed_test (t ∷ ts) = unless_holds t.holds t.condition (first_failed_test ts)

-- whether all conditions of a list hold
abbrev pub all_hold : List Test → Bool
all_hold [] = true
all_hold (t ∷ ts) = t.holds && all_hold ts

-- whether an optional value exists and passes a test
abbrev pub has : {X : Type 0} → (X → Bool) → Option X → Bool
has f None = false
has f (Some x) = f x
