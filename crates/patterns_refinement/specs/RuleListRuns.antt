-- Runs of rules and of user patterns.
use Rattle.std.specs.Prelude.{◌≡◌, ◌≤◌, ℕ, zero, suc, List, Bool, true}
use Rattle.ir_tree_laws.specs.Members.{In}
use Rattle.ir_event.specs.Modules.{Module}
use Rattle.patterns_base.specs.Rewrites.{becomes}
use Rattle.patterns_base.specs.Canonicalization.{End, ended}
use Rattle.user_patterns_check.specs.declared.verdict.Verdict.TheVariants as verdict
use Rattle.user_patterns_check.specs.Families.{IsVerdict}
use Rattle.user_patterns_data.specs.Fitting.{content_at}
use Rattle.user_patterns_data.specs.Shapes.{PatternModel}
use Rattle.user_patterns_widths.specs.AllWidths.{holds_at_all_widths}
use Rattle.greedy.specs.Rewriting.{rewriting_of}
use Rattle.greedy.specs.PatternSet.{RuleOrPatternModel, OfUserPattern, OfRule, rewrite_by_entry, pattern_set_from}
use Rattle.patterns_refinement.specs.Meaning.{Assignment}
use Rattle.patterns_refinement.specs.Applied.{IsProper}
use Rattle.patterns_refinement.specs.Keeping.{Computing, IsReady, KeepsComputing, KeepsReady}
use Rattle.patterns_refinement.specs.Runs.{ComputesThrough, kept_rules}
use Rattle.patterns_refinement.specs.Strict.{KeepsComputingUserPattern, KeepsReadyUserPattern}

-- i rewrites by rules and patterns of the list, each at some operation, lead from one module to another
abbrev pub LeadsBy : List RuleOrPatternModel → ℕ → Module → Module → Type 0
LeadsBy ts zero m n = m ≡ n
LeadsBy ts (suc k) m n = (t : RuleOrPatternModel) × In t ts × (x : ℕ) × (p : Module) × (rewrite_by_entry t m x ≡ becomes p) × LeadsBy ts k p n

-- a rule or a pattern keeps modules ready and refines what they compute; each item of a list does
abbrev pub PatternKeeps : RuleOrPatternModel → Type 0
PatternKeeps (OfRule r) = KeepsReady r × KeepsComputing r
PatternKeeps (OfUserPattern p) = KeepsReadyUserPattern p × KeepsComputingUserPattern p

abbrev pub AllPatternsKeep : List RuleOrPatternModel → Type 0
AllPatternsKeep ts = (t : RuleOrPatternModel) → In t ts → PatternKeeps t

-- module n is ready, and for all outcomes with which m computes there are outcomes with which n computes that refine
-- them
abbrev pub KeptThrough : Module → Module → Type 0
KeptThrough m n = IsReady n × (m.next ≤ n.next) × ((a : Assignment) (done : ℕ → Bool) → Computing a done m.tree → ComputesThrough a done m n)

-- a run of such rules and patterns refines
abbrev pub RuleListRunsKeep : Type 0
RuleListRunsKeep = (ts : List RuleOrPatternModel) → AllPatternsKeep ts → (k : ℕ) (m n : Module) → IsReady m → LeadsBy ts k m n → KeptThrough m n

-- rewriting by a list of them refines, up to a limit or to its end
abbrev pub RuleListRewritingKeeps : Type 0
RuleListRewritingKeeps =
    (ts : List RuleOrPatternModel) → AllPatternsKeep ts → (limit : ℕ) (m n : Module) (k : ℕ) (e : End) → IsReady m
    → rewriting_of (pattern_set_from ts) limit m ≡ ended n k e → KeptThrough m n

-- ---- rules and patterns that refine

-- a pattern that a check found to hold up to some width, and whose check covers all widths
pub record HoldsForAllWidths (p : PatternModel) : Type 0 where
  pub proper : IsProper p
  pub for_all_widths : holds_at_all_widths p ≡ true
  pub most : ℕ
  pub some : 1 ≤ most
  pub holds : IsVerdict (content_at p) p.types most verdict.Holds

-- a listed rule, or such a pattern
abbrev pub IsShown : RuleOrPatternModel → Type 0
IsShown (OfRule r) = In r kept_rules
IsShown (OfUserPattern p) = HoldsForAllWidths p

-- each list of them consists of rules and patterns that keep modules ready and refine
abbrev pub ShownAreKept : Type 0
ShownAreKept = (ts : List RuleOrPatternModel) → ((t : RuleOrPatternModel) → In t ts → IsShown t) → AllPatternsKeep ts
