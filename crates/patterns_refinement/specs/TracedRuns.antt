-- Rewriting refines what a module computes if each rewrite of its trace is by a rule that refines.
use Rattle.std.specs.Prelude.{◌≡◌, ◌≤◌, ℕ, Bool, List, [], ◌∷◌}
use Rattle.ir_tree_laws.specs.Members.{In}
use Rattle.ir_event.specs.Modules.{Module}
use Rattle.patterns_base.specs.declared.rule.Rule.{Rule}
use Rattle.patterns_base.specs.Canonicalization.{End, canonicalization_of, ended, greedy_rules}
use Rattle.greedy.specs.declared.applied_rewrite.AppliedPattern.{AppliedPattern}
use Rattle.greedy.specs.declared.applied_rewrite.AppliedPattern.TheVariants as by
use Rattle.greedy.specs.declared.applied_rewrite.AppliedRewrite.{AppliedRewrite}
use Rattle.greedy.specs.Rewriting.{rewriting_of}
use Rattle.greedy.specs.Tracing.{trace_of}
use Rattle.greedy.specs.PatternSet.{by_rules}
use Rattle.patterns_refinement.specs.Meaning.{Assignment}
use Rattle.patterns_refinement.specs.Keeping.{Computing, IsReady}
use Rattle.patterns_refinement.specs.Runs.{AllKeep, ComputesThrough, kept_rules}

-- the applied pattern is a rule of the list
abbrev pub IsBy : List Rule → AppliedPattern → Type 0
IsBy rs (by.Rule r) = In r rs
IsBy rs (by.UserPattern k) = ⊥

-- this holds for each rewrite of the trace
abbrev pub AllBy : List Rule → List AppliedRewrite → Type 0
AllBy rs [] = Unit {0}
AllBy rs (f ∷ fs) = IsBy rs f.by × AllBy rs fs

-- rewriting by rules refines what a module computes if each rewrite of the trace is by a rule that refines, whatever
-- other rules are in the list
abbrev pub TracedRewritingKeeps : Type 0
TracedRewritingKeeps =
    (rs candidates : List Rule) → AllKeep rs → (limit : ℕ) (m n : Module) (k : ℕ) (e : End) → IsReady m
    → rewriting_of (by_rules candidates) limit m ≡ ended n k e → AllBy rs (trace_of (by_rules candidates) limit m)
    → IsReady n × (m.next ≤ n.next)
    × ((a : Assignment) (done : ℕ → Bool) → Computing a done m.tree → ComputesThrough a done m n)

-- the same for canonicalization, if each rewrite is by a listed rule
abbrev pub TracedCanonicalizationKeeps : Type 0
TracedCanonicalizationKeeps =
    (limit : ℕ) (m n : Module) (k : ℕ) (e : End) → IsReady m → canonicalization_of limit m ≡ ended n k e
    → AllBy kept_rules (trace_of (by_rules greedy_rules) limit m)
    → IsReady n × (m.next ≤ n.next)
    × ((a : Assignment) (done : ℕ → Bool) → Computing a done m.tree → ComputesThrough a done m n)
