-- The modules after `apply`, `rewrite` and `canon` refine the modules before.
use Rattle.std.proofs.Common.{sym, subst, [], ◌∷◌, refl, inl, inr}
use Rattle.ir_tree_laws.specs.Members.{In}
use Rattle.greedy.specs.PatternSet.{RuleOrPatternModel}
use Rattle.patterns_refinement.specs.Canonical.{CanonicalizationKeeps}
use Rattle.patterns_refinement.specs.RuleListRuns.{IsShown, ShownAreKept}
use Rattle.patterns_refinement.specs.Refining.{ApplyRefines, CanonRefines, RewriteRefines}
use Rattle.patterns_refinement.proofs.RuleListRunning.{rule_list_rewriting_keeps, rule_list_runs_keep}
use Rattle.patterns_refinement.proofs.Refining.{kept_is_refined}

pub apply_refines : ShownAreKept → ApplyRefines
apply_refines shown t is m n x ready e = kept_is_refined m n ready (rule_list_runs_keep (t ∷ []) (shown (t ∷ []) only) 1 m n ready (t, inl refl, x, n, e, refl))
  where
    only : (u : RuleOrPatternModel) → In u (t ∷ []) → IsShown u
    only u (inl i) = subst IsShown (sym i) is
    only u (inr i) = absurd i

pub rewrite_refines : ShownAreKept → RewriteRefines
rewrite_refines shown ts are limit m n k e ready i = kept_is_refined m n ready (rule_list_rewriting_keeps ts (shown ts are) limit m n k e ready i)

pub canon_refines : CanonicalizationKeeps → CanonRefines
canon_refines keeps limit m n k e ready simple i = let w = keeps limit m n k e ready simple i in kept_is_refined m n ready (w.0, w.2, w.3)
