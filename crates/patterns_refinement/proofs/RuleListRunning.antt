-- Runs of rules and patterns that refine what is computed refine it, and rewriting by a list of them is such a run.
use Rattle.std.proofs.Common.{◌≡◌, ℕ, zero, suc, ◌+◌, refl, sym, subst, List, [], ◌∷◌, Bool, true, false, ◌&&◌, inl, inr}
use Rattle.std.specs.Prelude.{nat_le, if◌then◌else◌}
use Rattle.ir_types.specs.declared.refusal.Refusal.TheVariants.{BadLimit}
use Rattle.ir_tree.specs.Ids.{ids}
use Rattle.ir_tree_laws.specs.Members.{In}
use Rattle.ir_event.specs.Modules.{Module}
use Rattle.patterns_base.specs.declared.rule.Rule.{Rule}
use Rattle.patterns_base.specs.Rewrites.{Rewrite, becomes, none, refused}
use Rattle.patterns_base.specs.Canonicalization.{Canonical, End, converged, end_of, ended, go_on, most_rewrites, aborted}
use Rattle.greedy.specs.Rewriting.{first_by, next_by, rewriting_of, rewritten_from}
use Rattle.greedy.specs.PatternSet.{RuleOrPatternModel, OfUserPattern, OfRule, rewrite_by_entry, pattern_set_from, first_applicable_rewrite}
use Rattle.patterns_refinement.specs.Keeping.{IsReady}
use Rattle.patterns_refinement.specs.Runs.{KeptAreKept, kept_rules}
use Rattle.patterns_refinement.specs.Strict.{HoldingKeep}
use Rattle.patterns_refinement.specs.RuleListRuns.{PatternKeeps, IsShown, LeadsBy, RuleListRewritingKeeps, RuleListRunsKeep, ShownAreKept}
use Rattle.patterns_refinement.specs.Passing.{KeptAt}
use Rattle.patterns_refinement.proofs.Listed.{ended_parts, or_parts, stopped_never}
use Rattle.patterns_refinement.proofs.Running.{none_never, own_of, runs_under}

-- ---- one of them at an operation
pattern_kept : (t : RuleOrPatternModel) → PatternKeeps t → (m n : Module) (x : ℕ) → IsReady m → rewrite_by_entry t m x ≡ becomes n → KeptAt m n x
pattern_kept (OfRule r) keep m n x ready e = (keep.0 m n x ready e, (λ a done c. keep.1 m n x a done ready c e))
pattern_kept (OfUserPattern p) keep m n x ready e = (keep.0 m n x ready (own_of p m n x e), (λ a done c. keep.1 m n x a done ready c (own_of p m n x e)))

pub rule_list_runs_keep : RuleListRunsKeep
rule_list_runs_keep ts keep k m n ready leads = (runs_under (λ m. Unit {0}) ts (λ t i m n x u ready e. (tt, pattern_kept t (keep t i) m n x ready e)) k m n tt ready leads).1

-- ---- rewriting by a list
by_some : (ts : List RuleOrPatternModel) (m n : Module) (x : ℕ) → first_applicable_rewrite ts m x ≡ becomes n → (t : RuleOrPatternModel) × In t ts × (rewrite_by_entry t m x ≡ becomes n)
unfolding first_applicable_rewrite
by_some [] m n x e = none_never n e
by_some (t ∷ ts) m n x e = elim (or_parts (rewrite_by_entry t m x) (first_applicable_rewrite ts m x) n e) [
  | inl i ↦ (t, inl refl, i)
  | inr i ↦ let g = by_some ts m n x i in (g.0, inr g.1, g.2)
]

at_some : (ts : List RuleOrPatternModel) (xs : List ℕ) (m n : Module) → first_by (pattern_set_from ts) xs m ≡ becomes n → (x : ℕ) × (first_applicable_rewrite ts m x ≡ becomes n)
unfolding first_by
at_some ts [] m n e = none_never n e
at_some ts (x ∷ xs) m n e = elim (or_parts (first_applicable_rewrite ts m x) (first_by (pattern_set_from ts) xs m) n e) [
  | inl i ↦ (x, i)
  | inr i ↦ at_some ts xs m n i
]

abbrev Led : List RuleOrPatternModel → Module → Module → Type 0
Led ts m n = (k : ℕ) × LeadsBy ts k m n

goes_on : (ts : List RuleOrPatternModel) (m n : Module) (j k : ℕ) (e : End) (w : Rewrite) (more : Module → Canonical) → ((p : Module) → w ≡ becomes p → more p ≡ ended n k e → Led ts m n) → go_on w m j more ≡ ended n k e → Led ts m n
goes_on ts m n j k e none more f i = (0, ended_parts m n j k converged e i)
goes_on ts m n j k e (refused r) more f i = stopped_never r n k e i
goes_on ts m n j k e (becomes p) more f i = f p refl i

led_from : (ts : List RuleOrPatternModel) (left j k : ℕ) (m n : Module) (e : End) → rewritten_from (pattern_set_from ts) left j m ≡ ended n k e → Led ts m n
unfolding rewritten_from
led_from ts zero j k m n e i = (0, ended_parts m n j k (end_of (next_by (pattern_set_from ts) m)) e i)
led_from ts (suc left) j k m n e i =
    goes_on ts m n j k e (next_by (pattern_set_from ts) m) (rewritten_from (pattern_set_from ts) left (j + 1))
    (λ p w h.
    let at = at_some ts (ids m.tree) m p w in
    let by = by_some ts m p at.0 at.1 in
    let ih = led_from ts left (j + 1) k p n e h in
    (suc ih.0, (by.0, by.1, at.0, p, by.2, ih.1)))
    i

pub led : (ts : List RuleOrPatternModel) (limit k : ℕ) (m n : Module) (e : End) → rewriting_of (pattern_set_from ts) limit m ≡ ended n k e → Led ts m n
unfolding rewriting_of
led ts limit k m n e i = go (nat_le 1 limit && nat_le limit most_rewrites) i
  where
    go : (b : Bool) → (if b then rewritten_from (pattern_set_from ts) limit 0 m else aborted BadLimit) ≡ ended n k e → Led ts m n
    go true i = led_from ts limit 0 k m n e i
    go false i = stopped_never BadLimit n k e i

pub rule_list_rewriting_keeps : RuleListRewritingKeeps
rule_list_rewriting_keeps ts keep limit m n k e ready i = let l = led ts limit k m n e i in rule_list_runs_keep ts keep l.0 m n ready l.1

-- ---- listed rules and patterns whose check covers all widths
pub shown_are_kept : KeptAreKept → HoldingKeep → ShownAreKept
shown_are_kept rules patterns ts shown t i = one t (shown t i)
  where
    one : (t : RuleOrPatternModel) → IsShown t → PatternKeeps t
    one (OfRule r) s = rules (r ∷ []) only r (inl refl)
      where
        only : (o : Rule) → In o (r ∷ []) → In o kept_rules
        only o (inl e) = subst (λ o. In o kept_rules) (sym e) s
        only o (inr n) = absurd n
    one (OfUserPattern p) s = patterns p s.for_all_widths s.proper s.most s.some s.holds
