-- Lists of rules and patterns with `canon` in them. A list says `canon` for the rules 1 to 24, and these are resolved
-- before the first rewrite (`mlir_work_script/specs/RuleLists.antt`: `opened`).
use Rattle.std.specs.Prelude.{◌≡◌, ◌⊎◌, ℕ, List}
use Rattle.ir_tree_laws.specs.Members.{In}
use Rattle.ir_event.specs.Modules.{Module}
use Rattle.patterns_base.specs.Canonicalization.{End, ended, greedy_rules}
use Rattle.user_patterns_registry.specs.Changes.{IsReached}
use Rattle.user_patterns_registry.specs.Registry.{RegistryModel}
use Rattle.greedy.specs.Rewriting.{rewriting_of}
use Rattle.greedy.specs.PatternSet.{RuleOrPatternModel, OfUserPattern, OfRule, pattern_set_from}
use Rattle.patterns_refinement.specs.Keeping.{IsReady}
use Rattle.patterns_refinement.specs.Runs.{kept_rules}
use Rattle.patterns_refinement.specs.Canonical.{IsPlain}
use Rattle.patterns_refinement.specs.Refining.{IsRefinedBy}
use Rattle.patterns_refinement.specs.ForOutcomes.{IsInRange, IsProved}
use Rattle.patterns_refinement.specs.Noted.{IsNotedIn}

-- a listed rule, a rule of canonicalization, or a pattern that holds at all widths, by its form or for all outcomes
abbrev pub IsProvedOrCanonical : RuleOrPatternModel → Type 0
IsProvedOrCanonical (OfRule r) = In r kept_rules ⊎ In r greedy_rules
IsProvedOrCanonical (OfUserPattern p) = IsProved (OfUserPattern p)

-- After `rewrite` by a list of them, up to a limit or to its end, an observer sees a refinement of the module before, if
-- the module has no unrealized casts, and no loops and conditionals of `scf`. The new module has none either.
abbrev pub CanonListsRefine : Type 0
CanonListsRefine =
    (ts : List RuleOrPatternModel) → ((t : RuleOrPatternModel) → In t ts → IsProvedOrCanonical t) → (limit : ℕ) (m n : Module) (k : ℕ) (e : End)
    → IsReady m → IsPlain m → IsInRange m → rewriting_of (pattern_set_from ts) limit m ≡ ended n k e
    → IsReady n × IsPlain n × IsInRange n × IsRefinedBy m n

-- the same of a list whose patterns a session's registry notes as `holds` without a width
abbrev pub IsNotedOrCanonical : RegistryModel → RuleOrPatternModel → Type 0
IsNotedOrCanonical b (OfRule r) = In r kept_rules ⊎ In r greedy_rules
IsNotedOrCanonical b (OfUserPattern p) = IsNotedIn b (OfUserPattern p)

abbrev pub NotedCanonListsRefine : Type 0
NotedCanonListsRefine =
    (b : RegistryModel) → IsReached b → (ts : List RuleOrPatternModel) → ((t : RuleOrPatternModel) → In t ts → IsNotedOrCanonical b t)
    → (limit : ℕ) (m n : Module) (k : ℕ) (e : End) → IsReady m → IsPlain m → IsInRange m → rewriting_of (pattern_set_from ts) limit m ≡ ended n k e
    → IsReady n × IsPlain n × IsInRange n × IsRefinedBy m n
