-- Rewriting the whole module by a choice of rules: the transformation, and the lines below the reply.
use Rattle.std.specs.Prelude.{ℕ, List, [], ⊤}
use Rattle.conversion.specs.rewriter.Commands.{Response}
use Rattle.conversion.specs.rewriter.Machine.{Transformation}
use Rattle.conversion.specs.patterns.Canonicalization.{greedy_rules}
use Rattle.conversion.specs.patterns.Rows.{AreCanonical}
use Rattle.greedy.specs.Changes.{canonicalizing, rewriting}
use Rattle.greedy.specs.PatternSet.{MayUseAll, PatternSetModel, patterns_of, pattern_set_from, by_rules}
use Rattle.greedy.specs.declared.applied_rewrite.AppliedRewrite.{AppliedRewrite}
use Rattle.mlir_work_transforms.specs.TraceText.{trace_text}
use Rattle.mlir_work_transforms.specs.FiredText.{fired_below}
use Rattle.mlir_work_transforms.specs.declared.rule_choice.RuleChoice.{RuleChoice}
use Rattle.mlir_work_transforms.specs.declared.rule_choice.RuleChoice.TheVariants.{Canonical, Listed, WithPatterns}
use Rattle.mlir_work_transforms.specs.declared.trace_form.TraceForm.{TraceForm}
use Rattle.mlir_work_transforms.specs.declared.trace_form.TraceForm.TheVariants.{Counts, EachRewrite, Off}

-- the pattern set of a choice
abbrev pub set_of : RuleChoice → PatternSetModel
set_of Canonical = by_rules greedy_rules
set_of (Listed rules) = by_rules rules.now
set_of (WithPatterns list) = pattern_set_from (patterns_of list.now)

-- the transformation that makes at most a number of rewrites
abbrev pub transformation_of : RuleChoice → ℕ → Transformation
transformation_of Canonical limit = canonicalizing limit
transformation_of (Listed rules) limit = rewriting (by_rules rules.now) limit
transformation_of (WithPatterns list) limit = rewriting (pattern_set_from (patterns_of list.now)) limit

-- canonicalization tries each rule of the choice
abbrev pub MayTransform : RuleChoice → Type 0
MayTransform Canonical = ⊤
MayTransform (Listed rules) = AreCanonical rules.now
MayTransform (WithPatterns list) = MayUseAll (patterns_of list.now)

-- the lines below the response to a run with this trace: none, a line for each rewrite, or the counts of a run that
-- stopped by its limit
abbrev pub lines_below : TraceForm → Response → List (List ℕ) → List AppliedRewrite → List ℕ
lines_below Off response names fs = []
lines_below EachRewrite response names fs = trace_text names fs
lines_below Counts response names fs = fired_below response names fs
