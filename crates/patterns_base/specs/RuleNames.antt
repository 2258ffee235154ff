-- The rewrite rules: their numbers, by which scripts name them, their words, and their families.
use Rattle.std.specs.Prelude.{ℕ, List, [], ◌∷◌, codes, Bool, true, false, not, ◌&&◌, ◌||◌, eqb, Option}
use Rattle.std.specs.List.{find}
use Rattle.std.specs.Str.{bytes_eq}
use Rattle.patterns_base.specs.declared.rule.Rule.{Rule}
use Rattle.patterns_base.specs.declared.rule.Rule.TheVariants.{EraseDead, FoldToConstant, SwapConstant, DropZero}
use Rattle.patterns_base.specs.declared.rule.Rule.TheVariants.{DropOne, DropAllOnes, CancelItself, KeepItself}
use Rattle.patterns_base.specs.declared.rule.Rule.TheVariants.{ZeroRemainder, RegroupConstants, AddNegative}
use Rattle.patterns_base.specs.declared.rule.Rule.TheVariants.{CompareItself, MirrorComparison, CompareZero}
use Rattle.patterns_base.specs.declared.rule.Rule.TheVariants.{ChooseSame, ChooseKnown, ChooseTruth, ChooseOpposite}
use Rattle.patterns_base.specs.declared.rule.Rule.TheVariants.{ExtendExtension, CutCast, CastBack, OpenBranch}
use Rattle.patterns_base.specs.declared.rule.Rule.TheVariants.{OpenLoop, StopLoop, ExpandMinMax, ExpandDifference}
use Rattle.patterns_base.specs.declared.rule.Rule.TheVariants.{ExpandRemainder, LowerIndex, LowerLoop, LowerChoice}

-- the number of each rule
abbrev pub number_of : Rule → ℕ
number_of EraseDead = 1
number_of FoldToConstant = 2
number_of SwapConstant = 3
number_of DropZero = 4
number_of DropOne = 5
number_of DropAllOnes = 6
number_of CancelItself = 7
number_of KeepItself = 8
number_of ZeroRemainder = 9
number_of RegroupConstants = 10
number_of AddNegative = 11
number_of CompareItself = 12
number_of MirrorComparison = 13
number_of CompareZero = 14
number_of ChooseSame = 15
number_of ChooseKnown = 16
number_of ChooseTruth = 17
number_of ChooseOpposite = 18
number_of ExtendExtension = 19
number_of CutCast = 20
number_of CastBack = 21
number_of OpenBranch = 22
number_of OpenLoop = 23
number_of StopLoop = 24
number_of ExpandMinMax = 25
number_of ExpandDifference = 26
number_of ExpandRemainder = 27
number_of LowerIndex = 28
number_of LowerLoop = 29
number_of LowerChoice = 30

-- the word of each rule
abbrev pub word_of : Rule → List ℕ
word_of EraseDead = codes "erase-dead"
word_of FoldToConstant = codes "fold-to-constant"
word_of SwapConstant = codes "swap-constant"
word_of DropZero = codes "drop-zero"
word_of DropOne = codes "drop-one"
word_of DropAllOnes = codes "drop-all-ones"
word_of CancelItself = codes "cancel-itself"
word_of KeepItself = codes "keep-itself"
word_of ZeroRemainder = codes "zero-remainder"
word_of RegroupConstants = codes "regroup-constants"
word_of AddNegative = codes "add-negative"
word_of CompareItself = codes "compare-itself"
word_of MirrorComparison = codes "mirror-comparison"
word_of CompareZero = codes "compare-zero"
word_of ChooseSame = codes "choose-same"
word_of ChooseKnown = codes "choose-known"
word_of ChooseTruth = codes "choose-truth"
word_of ChooseOpposite = codes "choose-opposite"
word_of ExtendExtension = codes "extend-extension"
word_of CutCast = codes "cut-cast"
word_of CastBack = codes "cast-back"
word_of OpenBranch = codes "open-branch"
word_of OpenLoop = codes "open-loop"
word_of StopLoop = codes "stop-loop"
word_of ExpandMinMax = codes "expand-min-max"
word_of ExpandDifference = codes "expand-difference"
word_of ExpandRemainder = codes "expand-remainder"
word_of LowerIndex = codes "lower-index"
word_of LowerLoop = codes "lower-loop"
word_of LowerChoice = codes "lower-choice"

-- all rules, by ascending number
unfoldable pub all_rules : List Rule
all_rules =
    EraseDead ∷ FoldToConstant ∷ SwapConstant ∷ DropZero ∷ DropOne ∷ DropAllOnes
    ∷ CancelItself ∷ KeepItself ∷ ZeroRemainder ∷ RegroupConstants ∷ AddNegative ∷ CompareItself
    ∷ MirrorComparison ∷ CompareZero ∷ ChooseSame ∷ ChooseKnown ∷ ChooseTruth ∷ ChooseOpposite
    ∷ ExtendExtension ∷ CutCast ∷ CastBack ∷ OpenBranch ∷ OpenLoop ∷ StopLoop
    ∷ ExpandMinMax ∷ ExpandDifference ∷ ExpandRemainder ∷ LowerIndex ∷ LowerLoop ∷ LowerChoice
    ∷ []

-- whether two rules are equal
abbrev pub same_rule : Rule → Rule → Bool
same_rule r s = eqb (number_of r) (number_of s)

-- the rule with a number, and the rule with a word
abbrev pub by_number : ℕ → Option Rule
by_number n = find (λ r. eqb (number_of r) n) all_rules

abbrev pub by_word : List ℕ → Option Rule
by_word word = find (λ r. bytes_eq (word_of r) word) all_rules

-- whether a rule erases an operation, whatever the operation computes
abbrev pub is_erasing : Rule → Bool
is_erasing EraseDead = true
is_erasing _ = false

-- whether a rule expands an `arith` operation into other `arith` operations
abbrev pub is_expanding : Rule → Bool
is_expanding ExpandMinMax = true
is_expanding ExpandDifference = true
is_expanding ExpandRemainder = true
is_expanding _ = false

-- whether a rule lowers index to i64
abbrev pub is_lowering : Rule → Bool
is_lowering LowerIndex = true
is_lowering LowerLoop = true
is_lowering LowerChoice = true
is_lowering _ = false

-- whether canonicalization tries a rule: one that neither expands nor lowers
abbrev pub is_canonical : Rule → Bool
is_canonical r = not (is_expanding r) && not (is_lowering r)

-- whether a conversion may try a rule: folding, expanding and lowering
abbrev pub is_converting : Rule → Bool
is_converting FoldToConstant = true
is_converting r = is_expanding r || is_lowering r
