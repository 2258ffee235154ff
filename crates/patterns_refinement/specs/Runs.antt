-- Runs of rules.
use Rattle.std.specs.Prelude.{◌≡◌, ◌<◌, ◌≤◌, ℕ, zero, suc, List, [], ◌∷◌, Bool}
use Rattle.ir_tree_laws.specs.Members.{In}
use Rattle.ir_event.specs.Modules.{Module}
use Rattle.patterns_base.specs.declared.rule.Rule.{Rule}
use Rattle.patterns_base.specs.declared.rule.Rule.TheVariants.{AddNegative, CancelItself, ChooseKnown}
use Rattle.patterns_base.specs.declared.rule.Rule.TheVariants.{ChooseOpposite, ChooseSame, ChooseTruth}
use Rattle.patterns_base.specs.declared.rule.Rule.TheVariants.{CompareItself, CompareZero, CutCast}
use Rattle.patterns_base.specs.declared.rule.Rule.TheVariants.{DropAllOnes, DropOne, DropZero}
use Rattle.patterns_base.specs.declared.rule.Rule.TheVariants.{EraseDead, ExpandDifference, ExpandMinMax}
use Rattle.patterns_base.specs.declared.rule.Rule.TheVariants.{ExtendExtension, FoldToConstant, KeepItself}
use Rattle.patterns_base.specs.declared.rule.Rule.TheVariants.{MirrorComparison, RegroupConstants, SwapConstant}
use Rattle.patterns_base.specs.declared.rule.Rule.TheVariants.{ZeroRemainder}
use Rattle.patterns_base.specs.Rewrites.{becomes, rewrite_of}
use Rattle.patterns_base.specs.Canonicalization.{End, ended}
use Rattle.greedy.specs.Rewriting.{rewriting_of}
use Rattle.greedy.specs.PatternSet.{by_rules}
use Rattle.patterns_refinement.specs.Meaning.{Assignment}
use Rattle.patterns_refinement.specs.Keeping.{Computing, Improves, IsReady, KeepsComputing, KeepsReady}

-- i rewrites by rules of the list, each at some operation, lead from one module to another
abbrev pub Leads : List Rule → ℕ → Module → Module → Type 0
Leads rs zero m n = m ≡ n
Leads rs (suc k) m n = (r : Rule) × In r rs × (x : ℕ) × (p : Module) × (rewrite_of r m x ≡ becomes p) × Leads rs k p n

-- each rule of the list keeps modules ready and refines what they compute
abbrev pub AllKeep : List Rule → Type 0
AllKeep rs = (r : Rule) → In r rs → KeepsReady r × KeepsComputing r

-- the rules for which this is proved
abbrev pub kept_rules : List Rule
kept_rules =
    EraseDead ∷ FoldToConstant ∷ SwapConstant ∷ DropZero ∷ DropOne ∷ DropAllOnes ∷ CancelItself ∷ KeepItself
    ∷ ZeroRemainder ∷ RegroupConstants ∷ AddNegative ∷ CompareItself ∷ MirrorComparison ∷ CompareZero
    ∷ ChooseSame ∷ ChooseKnown ∷ ChooseTruth ∷ ChooseOpposite ∷ ExtendExtension ∷ CutCast ∷ ExpandMinMax
    ∷ ExpandDifference ∷ []

-- each list of these rules satisfies this
abbrev pub KeptAreKept : Type 0
KeptAreKept = (rs : List Rule) → ((r : Rule) → In r rs → In r kept_rules) → AllKeep rs

-- executed operations stay executed, and the last module computes a refinement of what the first computed
pub record ComputesThrough (a : Assignment) (done : ℕ → Bool) (m n : Module) : Type 0 where
  pub later : ℕ → Bool
  pub same : (y : ℕ) → y < m.next → later y ≡ done y
  pub improves : Improves a done m later n.tree

-- rewrites by such rules keep a module ready, and for all outcomes with which it computes, the last module computes a
-- refinement
abbrev pub RunsKeep : Type 0
RunsKeep =
    (rs : List Rule) → AllKeep rs → (k : ℕ) (m n : Module) → IsReady m → Leads rs k m n
    → IsReady n × (m.next ≤ n.next) × ((a : Assignment) (done : ℕ → Bool) → Computing a done m.tree → ComputesThrough a done m n)

-- rewriting by a list of such rules does so too, up to a limit or to its end
abbrev pub RewritingKeeps : Type 0
RewritingKeeps =
    (rs : List Rule) → AllKeep rs → (limit : ℕ) (m n : Module) (k : ℕ) (e : End) → IsReady m
    → rewriting_of (by_rules rs) limit m ≡ ended n k e
    → IsReady n × (m.next ≤ n.next) × ((a : Assignment) (done : ℕ → Bool) → Computing a done m.tree → ComputesThrough a done m n)
