-- The module of a rewriter after it answered `rewrite` or `canon`, whatever the reply is. If the transformation is
-- refused, or memory runs out, the module stays as it was.
use Rattle.std.specs.Prelude.{ℕ, List}
use Rattle.ir_tree_laws.specs.Members.{In}
use Rattle.ir_event.specs.Modules.{Module}
use Rattle.rewriter_machine.specs.Machine as call
use Rattle.rewriter_machine.specs.Machine.{Goes, Reply, Shows, State, Transformation}
use Rattle.user_patterns_registry.specs.Changes.{IsReached}
use Rattle.user_patterns_registry.specs.Registry.{RegistryModel}
use Rattle.greedy.specs.Changes.{canonicalizing, rewriting}
use Rattle.greedy.specs.PatternSet.{RuleOrPatternModel, pattern_set_from}
use Rattle.patterns_refinement.specs.Keeping.{IsReady}
use Rattle.patterns_refinement.specs.Canonical.{IsPlain}
use Rattle.patterns_refinement.specs.Refining.{IsRefinedBy}
use Rattle.patterns_refinement.specs.ForOutcomes.{IsInRange}
use Rattle.patterns_refinement.specs.Noted.{IsNotedIn}
use Rattle.patterns_refinement.specs.CanonLists.{IsNotedOrCanonical}

-- module n is ready and in range, and refines m, as an observer sees it
abbrev pub IsRefinement : Module → Module → Type 0
IsRefinement m n = IsReady n × IsInRange n × IsRefinedBy m n

-- the rewriter answers a call for a transformation
abbrev pub Answers : Transformation → State → Reply → Shows → State → Type 0
Answers f s reply shows t = Goes s (call.Change f) reply shows t

-- after `rewrite` by a list of listed rules, and of patterns that a session's registry notes as `holds`
abbrev pub RewriteAnswerRefines : Type 0
RewriteAnswerRefines =
    (b : RegistryModel) → IsReached b → (ts : List RuleOrPatternModel) → ((t : RuleOrPatternModel) → In t ts → IsNotedIn b t) → (limit : ℕ)
    → (s t : State) (reply : Reply) (shows : Shows) → IsReady s.held → IsInRange s.held
    → Answers (rewriting (pattern_set_from ts) limit) s reply shows t → IsRefinement s.held t.held

-- the same for a list that also has rules of `canon`, if the module has no unrealized casts, and no loops and
-- conditionals of `scf`
abbrev pub CanonListAnswerRefines : Type 0
CanonListAnswerRefines =
    (b : RegistryModel) → IsReached b → (ts : List RuleOrPatternModel) → ((t : RuleOrPatternModel) → In t ts → IsNotedOrCanonical b t) → (limit : ℕ)
    → (s t : State) (reply : Reply) (shows : Shows) → IsReady s.held → IsPlain s.held → IsInRange s.held
    → Answers (rewriting (pattern_set_from ts) limit) s reply shows t → IsRefinement s.held t.held × IsPlain t.held

-- after `canon` of such a module
abbrev pub CanonAnswerRefines : Type 0
CanonAnswerRefines =
    (limit : ℕ) (s t : State) (reply : Reply) (shows : Shows) → IsReady s.held → IsPlain s.held → IsInRange s.held
    → Answers (canonicalizing limit) s reply shows t → IsRefinement s.held t.held × IsPlain t.held
