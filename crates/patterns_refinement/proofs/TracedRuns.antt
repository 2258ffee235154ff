-- Rewriting whose trace has only rules that refine is a run of such rules.
use Rattle.std.proofs.Common.{◌≡◌, ℕ, zero, suc, ◌+◌, refl, ap, sym, ◌∙◌, subst, List, [], ◌∷◌, Bool, true, false, ◌&&◌, Some, None, ◌⊎◌, inl, inr, option_map}
use Rattle.std.specs.Prelude.{nat_le, if◌then◌else◌}
use Rattle.ir_types.specs.declared.refusal.Refusal.TheVariants.{BadLimit}
use Rattle.ir_tree.specs.Ids.{ids}
use Rattle.ir_event.specs.Modules.{Module}
use Rattle.patterns.specs.FirstMatching.{first_matching_rule, rule_or}
use Rattle.patterns_base.specs.declared.rule.Rule.{Rule}
use Rattle.patterns_base.specs.Canonicalization.{End, converged, end_of, ended, first_rule, go_on, greedy_rules, most_rewrites, or_else, aborted}
use Rattle.patterns_base.specs.Rewrites.{Rewrite, becomes, none, refused, rewrite_of}
use Rattle.patterns_soundness.specs.Accepted.{AreAccepted}
use Rattle.greedy.specs.declared.applied_rewrite.AppliedPattern.TheVariants as by
use Rattle.greedy.specs.Rewriting.{IsOfItsRules, first_by, next_by, rewriting_of, rewritten_from}
use Rattle.greedy.specs.Tracing.{site_by, site_of, site_or, trace_step, trace_of, trace_on}
use Rattle.greedy.specs.PatternSet.{by_rules}
use Rattle.patterns_refinement.specs.Runs.{Leads, kept_rules}
use Rattle.patterns_refinement.specs.TracedRuns.{AllBy, TracedCanonicalizationKeeps, TracedRewritingKeeps}
use Rattle.patterns_refinement.proofs.AllKept.{all_kept}
use Rattle.patterns_refinement.proofs.Listed.{ended_parts, stopped_never}
use Rattle.patterns_refinement.proofs.Running.{none_never, runs_keep}

-- ---- the rule of a trace
-- no rule applies at the operation, or the first rule that applies is the rule of the trace
abbrev IsFirst : List Rule → Module → ℕ → Type 0
IsFirst rs m x =
    ((first_matching_rule rs m x ≡ None) × (first_rule rs m x ≡ none)) ⊎ ((r : Rule) × (first_matching_rule rs m x ≡ Some r) × (first_rule rs m x ≡ rewrite_of r m x) × (rewrite_of r m x ≡ none → ⊥))

is_first : (rs : List Rule) (m : Module) (x : ℕ) → IsFirst rs m x
unfolding first_matching_rule first_rule
is_first [] m x = inl (refl, refl)
is_first (r ∷ rs) m x = go (rewrite_of r m x) refl (is_first rs m x)
  where
    is_some : (w : Rewrite) → (w ≡ none → ⊥) → rewrite_of r m x ≡ w → (rule_or w r (first_matching_rule rs m x) ≡ Some r) × (or_else w (first_rule rs m x) ≡ w) → IsFirst (r ∷ rs) m x
    is_some w some e p = inr (
      r,
      ap (λ w. rule_or w r (first_matching_rule rs m x)) e ∙ p.0,
      ap (λ w. or_else w (first_rule rs m x)) e ∙ p.1 ∙ sym e,
      (λ i. some (sym e ∙ i)),
    )

    go : (w : Rewrite) → rewrite_of r m x ≡ w → IsFirst rs m x → IsFirst (r ∷ rs) m x
    go none e (inl f) = inl (ap (λ w. rule_or w r (first_matching_rule rs m x)) e ∙ f.0, ap (λ w. or_else w (first_rule rs m x)) e ∙ f.1)
    go none e (inr f) = inr (f.0, ap (λ w. rule_or w r (first_matching_rule rs m x)) e ∙ f.1, ap (λ w. or_else w (first_rule rs m x)) e ∙ f.2, f.3)
    go (refused q) e f = is_some (refused q) (λ i. cc) e (refl, refl)
    go (becomes n) e f = is_some (becomes n) (λ i. cc) e (refl, refl)

record IsTold (rs : List Rule) (xs : List ℕ) (m n : Module) : Type 0 where
  pub rule : Rule
  pub op : ℕ
  pub site : site_by (by_rules rs) xs m ≡ Some (by.Rule rule, op)
  pub becomes_it : rewrite_of rule m op ≡ becomes n

is_reported : (rs : List Rule) (xs : List ℕ) (m n : Module) → first_by (by_rules rs) xs m ≡ becomes n → IsTold rs xs m n
unfolding first_by site_by
is_reported rs [] m n e = none_never n e
is_reported rs (x ∷ xs) m n e = go (is_first rs m x) (is_reported rs xs m n)
  where
    here : (r : Rule) → first_matching_rule rs m x ≡ Some r → first_rule rs m x ≡ rewrite_of r m x → (w : Rewrite) → rewrite_of r m x ≡ w → or_else w (first_by (by_rules rs) xs m) ≡ becomes n → (w ≡ none → ⊥) → IsTold rs (x ∷ xs) m n
    here r f g none i e some = absurd (some refl)
    here r f g (refused q) i e some = absurd (never e)
      where
        never : refused q ≡ becomes n → ⊥
        never e = cc
    here r f g (becomes p) i e some = record { rule = r; op = x; site = ap (λ o. site_or (option_map by.Rule o) x (site_by (by_rules rs) xs m)) f; becomes_it = i ∙ e }

    go : IsFirst rs m x → (first_by (by_rules rs) xs m ≡ becomes n → IsTold rs xs m n) → IsTold rs (x ∷ xs) m n
    go (inl f) more =
        let t = more (sym (ap (λ w. or_else w (first_by (by_rules rs) xs m)) f.1) ∙ e) in
        record { rule = t.rule; op = t.op; site = ap (λ o. site_or (option_map by.Rule o) x (site_by (by_rules rs) xs m)) f.0 ∙ t.site; becomes_it = t.becomes_it }
    go (inr f) more = here f.0 f.1 f.2 (rewrite_of f.0 m x) refl (sym (ap (λ w. or_else w (first_by (by_rules rs) xs m)) f.2) ∙ e) f.3

-- ---- a run of the rules of the trace
module _ (rs candidates : List Rule) where
  abbrev Led : Module → Module → Type 0
  Led m n = (i : ℕ) × Leads rs i m n

  led_from : (left j k : ℕ) (m n : Module) (e : End) → rewritten_from (by_rules candidates) left j m ≡ ended n k e → AllBy rs (trace_of (by_rules candidates) left m) → Led m n
  unfolding rewritten_from trace_of
  led_from zero j k m n e i all = (0, ended_parts m n j k (end_of (next_by (by_rules candidates) m)) e i)
  led_from (suc left) j k m n e i all = go (next_by (by_rules candidates) m) refl i all (λ p. led_from left (j + 1) k p n e)
    where
      go : (w : Rewrite) → next_by (by_rules candidates) m ≡ w → go_on w m j (rewritten_from (by_rules candidates) left (j + 1)) ≡ ended n k e → AllBy rs (trace_on w (trace_step w (site_of (by_rules candidates) m) m) (trace_of (by_rules candidates) left))
          → ((p : Module) → rewritten_from (by_rules candidates) left (j + 1) p ≡ ended n k e → AllBy rs (trace_of (by_rules candidates) left p) → Led p n) → Led m n
      go none f i all more = (0, ended_parts m n j k converged e i)
      go (refused q) f i all more = stopped_never q n k e i
      go (becomes p) f i all more =
          let t = is_reported candidates (ids m.tree) m p f in
          let reported_is = subst (λ s. AllBy rs (trace_on (becomes p) (trace_step (becomes p) s m) (trace_of (by_rules candidates) left))) t.site all in
          let ih = more p i reported_is.1 in
          (suc ih.0, (t.rule, reported_is.0, t.op, p, t.becomes_it, ih.1))

  led : (limit k : ℕ) (m n : Module) (e : End) → rewriting_of (by_rules candidates) limit m ≡ ended n k e → AllBy rs (trace_of (by_rules candidates) limit m) → Led m n
  unfolding rewriting_of
  led limit k m n e i all = go (nat_le 1 limit && nat_le limit most_rewrites) i
    where
      go : (b : Bool) → (if b then rewritten_from (by_rules candidates) limit 0 m else aborted BadLimit) ≡ ended n k e → Led m n
      go true i = led_from limit 0 k m n e i all
      go false i = stopped_never BadLimit n k e i

pub traced_rewriting_keeps : TracedRewritingKeeps
traced_rewriting_keeps rs candidates keep limit m n k e ready i all = let l = led rs candidates limit k m n e i all in runs_keep rs keep l.0 m n ready l.1

pub traced_canonicalization_keeps : AreAccepted → IsOfItsRules → TracedCanonicalizationKeeps
traced_canonicalization_keeps accepted own limit m n k e ready i all =
    traced_rewriting_keeps kept_rules greedy_rules (all_kept accepted kept_rules (λ r i. i)) limit m n k e ready (own limit m ∙ i) all
