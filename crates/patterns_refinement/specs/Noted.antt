-- The notes of a pattern registry, and the modules after `apply` and `rewrite` by patterns that it notes as `holds`.
use Rattle.std.specs.Prelude.{◌≡◌, ℕ, List, true, Some}
use Rattle.ir_event.specs.Modules.{Module}
use Rattle.ir_tree_laws.specs.Members.{In}
use Rattle.patterns_base.specs.Rewrites.{becomes}
use Rattle.patterns_base.specs.Canonicalization.{End, ended}
use Rattle.user_patterns_registry.specs.Changes.{IsFoundToHold, IsReached}
use Rattle.user_patterns_registry.specs.declared.check_result.CheckSummary.TheVariants as summary
use Rattle.user_patterns_registry.specs.Registry.{IsReady as CanBeApplied, Kept, RegistryModel, found}
use Rattle.greedy.specs.Rewriting.{rewriting_of}
use Rattle.greedy.specs.PatternSet.{RuleOrPatternModel, OfUserPattern, OfRule, pattern_set_from}
use Rattle.user_patterns_claims.specs.Quotients.{is_without_quotients}
use Rattle.patterns_refinement.specs.Keeping.{IsReady}
use Rattle.patterns_refinement.specs.Runs.{kept_rules}
use Rattle.patterns_refinement.specs.Refining.{IsRefinedBy}
use Rattle.patterns_refinement.specs.ForOutcomes.{IsInRange, IsProved, applied, is_sound_form}
use Rattle.patterns_refinement.specs.ForOutcomesSamples.{choice_as_and}

-- ---- notes

-- What the note `holds` without a width says. The pattern can be applied, and a check found that it holds at all
-- widths: by its form, or by claims about the bits of all outcomes of its variables.
pub record IsTrulyNoted (k : Kept) : Type 0 where
  pub applies : CanBeApplied k
  pub checked : IsFoundToHold k

-- the note is true of each pattern that has it
abbrev pub NotesAreTrue : Type 0
NotesAreTrue = (b : RegistryModel) → IsReached b → (name : List ℕ) (k : Kept) → found name b ≡ Some k → k.said ≡ Some summary.AllWidths → IsTrulyNoted k

-- the form of each pattern whose new side makes no `divsi` passes the tests of the laws
abbrev pub FormsAreSound : Type 0
FormsAreSound =
    (b : RegistryModel) → IsReached b → (name : List ℕ) (k : Kept) → found name b ≡ Some k → is_without_quotients k.rewrite_pattern ≡ true
    → is_sound_form k.rewrite_pattern ≡ true

-- ---- rules and patterns of a command

-- a listed rule, or a pattern that the registry notes as `holds` without a width
abbrev pub IsNotedIn : RegistryModel → RuleOrPatternModel → Type 0
IsNotedIn b (OfRule r) = In r kept_rules
IsNotedIn b (OfUserPattern p) =
    (name : List ℕ) × (k : Kept) × (found name b ≡ Some k) × (k.said ≡ Some summary.AllWidths) × (k.rewrite_pattern ≡ p)

abbrev pub NotedAreProved : Type 0
NotedAreProved = (b : RegistryModel) → IsReached b → (t : RuleOrPatternModel) → IsNotedIn b t → IsProved t

-- ---- the laws

-- after `apply` of one of them at an operation of a ready module in range, the module is ready and in range, and refines
-- the module before, as an observer sees it
abbrev pub NotedApplyRefines : Type 0
NotedApplyRefines =
    (b : RegistryModel) → IsReached b → (t : RuleOrPatternModel) → IsNotedIn b t → (m n : Module) (x : ℕ) → IsReady m → IsInRange m
    → applied t m x ≡ becomes n → IsReady n × IsInRange n × IsRefinedBy m n

-- so it is after `rewrite` by a list of them, up to a limit or to its end
abbrev pub NotedRewriteRefines : Type 0
NotedRewriteRefines =
    (b : RegistryModel) → IsReached b → (ts : List RuleOrPatternModel) → ((t : RuleOrPatternModel) → In t ts → IsNotedIn b t)
    → (limit : ℕ) (m n : Module) (k : ℕ) (e : End) → IsReady m → IsInRange m → rewriting_of (pattern_set_from ts) limit m ≡ ended n k e
    → IsReady n × IsInRange n × IsRefinedBy m n

-- `select(c, a, false) => andi(c, a)`, which is wrong if `a` is poison, is never noted as `holds` without a width
abbrev pub WrongIsNeverNoted : Type 0
WrongIsNeverNoted =
    (b : RegistryModel) → IsReached b → (name : List ℕ) (k : Kept) → found name b ≡ Some k → k.rewrite_pattern ≡ choice_as_and
    → k.said ≡ Some summary.AllWidths → ⊥
