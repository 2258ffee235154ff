-- Refinement of modules. An observer sees the operations that can't be erased, in order, the outcomes of their
-- operands, and what the operands represent. A module refines another if the observer sees the same operations with the
-- same or refined operands, for all outcomes of the values that the module doesn't compute: arguments, loads and
-- results of calls.
use Rattle.std.specs.Prelude.{◌≡◌, ◌<◌, ℕ, List, [], ◌∷◌, ◌++◌, map, Bool, true, false, if◌then◌else◌, Option}
use Rattle.std.specs.List.{filter}
use Rattle.ir_types.specs.Terms.{TypeTerm, AttrTerm}
use Rattle.ir_tree.specs.declared.value.Value.{Value}
use Rattle.ir_tree.specs.Tree.{RegionsOf, RegionOf, OpsOf, op, no_regions, region, empty, block, no_ops, next, regions}
use Rattle.ir_tree.specs.Meaning.{Operation}
use Rattle.ir_tree_laws.specs.Members.{In}
use Rattle.ir_event.specs.Modules.{Module}
use Rattle.patterns_base.specs.Rewrites.{becomes}
use Rattle.patterns_base.specs.Canonicalization.{End, canonicalization_of, ended}
use Rattle.user_patterns_check.specs.Checks.{refines}
use Rattle.user_patterns_check.specs.Outcomes.{Outcome}
use Rattle.user_patterns_data.specs.Matching.{Header}
use Rattle.greedy.specs.Rewriting.{rewriting_of}
use Rattle.greedy.specs.PatternSet.{RuleOrPatternModel, rewrite_by_entry, pattern_set_from}
use Rattle.patterns_refinement.specs.Meaning.{Assignment, owner}
use Rattle.patterns_refinement.specs.Better.{gives}
use Rattle.patterns_refinement.specs.Choices.{AreOrigins, IsStill, Origins}
use Rattle.patterns_refinement.specs.Observing.{is_unmissed, shown_regions, without_operands}
use Rattle.patterns_refinement.specs.Keeping.{Computing, IsReady}
use Rattle.patterns_refinement.specs.Canonical.{IsPlain}
use Rattle.patterns_refinement.specs.RuleListRuns.{IsShown, KeptThrough}

-- ---- observations
-- Returns the operations inside some regions, in order. Operations that may be erased are left out, with all operations
-- inside them.
abbrev mutual
  pub lasting : RegionsOf (List ℕ) TypeTerm AttrTerm → List Header
  lasting no_regions = []
  lasting (region g rs) = lasting_region g ++ lasting rs

  pub lasting_region : RegionOf (List ℕ) TypeTerm AttrTerm → List Header
  lasting_region empty = []
  lasting_region (block args os) = lasting_ops os

  pub lasting_ops : OpsOf (List ℕ) TypeTerm AttrTerm → List Header
  lasting_ops no_ops = []
  lasting_ops (next o os) = lasting_op o ++ lasting_ops os

  pub lasting_op : Operation → List Header
  lasting_op (op h rs) = if is_unmissed (op h rs) then [] else h ∷ lasting rs

-- An operand: what it represents, and its outcome. A value that an arithmetic operation computes represents nothing.
-- The result of a `select` of memrefs or tensors represents what its chosen operand represents. Any other value may
-- represent itself.
pub record Operand : Type 0 where
  pub value : Option Value
  pub outcome : Outcome

abbrev pub operand : Assignment → Origins → Value → Operand
operand a o v = record { value = o v; outcome = a v }

-- An observed operation, and its operands.
pub record Observation : Type 0 where
  pub operation : Header
  pub operands : List Operand

abbrev pub observation : Assignment → Origins → Header → Observation
observation a o h = record { operation = without_operands h; operands = map (operand a o) h.operands }

-- Returns what an observer sees of a tree with outcomes and origins: the executed operations inside it, in order.
-- Arithmetic operations, and operations that may be erased, aren't seen.
abbrev pub observed : Assignment → Origins → (ℕ → Bool) → Operation → List Observation
observed a o done t = map (observation a o) (filter (λ (h : Header). done h.id) (lasting (shown_regions (regions t))))

-- ---- refinement
-- Each new operand represents what the old one represented, or the old one represented nothing. Its outcome is the same
-- or refined.
abbrev pub OperandsRefine : List Operand → List Operand → Type 0
OperandsRefine [] [] = Unit {0}
OperandsRefine [] (q ∷ qs) = ⊥
OperandsRefine (p ∷ ps) [] = ⊥
OperandsRefine (p ∷ ps) (q ∷ qs) = IsStill p.value q.value × (refines p.outcome q.outcome ≡ true) × OperandsRefine ps qs

-- The same operations in the same order, with the same or refined operands.
abbrev pub ObservationsRefine : List Observation → List Observation → Type 0
ObservationsRefine [] [] = Unit {0}
ObservationsRefine [] (q ∷ qs) = ⊥
ObservationsRefine (p ∷ ps) [] = ⊥
ObservationsRefine (p ∷ ps) (q ∷ qs) = (p.operation ≡ q.operation) × OperandsRefine p.operands q.operands × ObservationsRefine ps qs

-- Module n with outcomes `now` refines module m with outcomes a: the outcomes that m doesn't compute are the same,
-- the executed operations of m are executed and defined in n, what values represented they represent in n, and what is
-- observed refines what was observed.
pub record Refined (a : Assignment) (o : Origins) (done : ℕ → Bool) (m n : Module) : Type 0 where
  pub now : Assignment
  pub later : ℕ → Bool
  pub same : (y : ℕ) → y < m.next → later y ≡ done y
  pub inputs : (v : Value) → owner v < m.next → gives done m.tree v ≡ false → now v ≡ a v
  pub computing : Computing now later n.tree
  pub origins : AreOrigins n.next now o later n.tree
  pub refined : ObservationsRefine (observed a o done m.tree) (observed now o later n.tree)

-- Module n refines m for all outcomes with which m computes, whatever the values of m represent.
abbrev pub IsRefinedBy : Module → Module → Type 0
IsRefinedBy m n =
    (a : Assignment) (o : Origins) (done : ℕ → Bool) → Computing a done m.tree → AreOrigins m.next a o done m.tree → Refined a o done m n

-- ---- the laws
-- `apply` of a listed rule, or of a pattern that `check` called `holds` without a width.
abbrev pub ApplyRefines : Type 0
ApplyRefines = (t : RuleOrPatternModel) → IsShown t → (m n : Module) (x : ℕ) → IsReady m → rewrite_by_entry t m x ≡ becomes n → IsRefinedBy m n

-- `rewrite` by a list of them, up to a limit or to its end.
abbrev pub RewriteRefines : Type 0
RewriteRefines =
    (ts : List RuleOrPatternModel) → ((t : RuleOrPatternModel) → In t ts → IsShown t) → (limit : ℕ) (m n : Module) (k : ℕ) (e : End) → IsReady m
    → rewriting_of (pattern_set_from ts) limit m ≡ ended n k e → IsRefinedBy m n

-- `canon` of a module without unrealized casts, and without loops and conditionals of `scf`.
abbrev pub CanonRefines : Type 0
CanonRefines =
    (limit : ℕ) (m n : Module) (k : ℕ) (e : End) → IsReady m → IsPlain m → canonicalization_of limit m ≡ ended n k e → IsRefinedBy m n

-- What the other laws keep (`KeptThrough`) is refined: `canon` of any ready module whose trace has only listed rules,
-- and `rewrite` of a narrow module by patterns that `check` called `holds` up to its widths.
abbrev pub KeptIsRefined : Type 0
KeptIsRefined = (m n : Module) → IsReady m → KeptThrough m n → IsRefinedBy m n
