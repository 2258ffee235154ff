-- A run that stopped by its limit made as many rewrites as the limit allows, and its trace has an entry for each.
use Rattle.std.proofs.Common.{◌≡◌, ◌∙◌, ap, sym, subst, inl, inr, ℕ, zero, suc, ◌+◌, Bool, true, false, arith, Result, Ok}
use Rattle.std.specs.Prelude.{◌&&◌, nat_le, length, if◌then◌else◌}
use Rattle.ir_event.specs.types.declared.refusal.Refusal.{Refusal}
use Rattle.ir_event.specs.types.declared.refusal.Refusal.TheVariants.{BadLimit, Full, Memory}
use Rattle.ir_event.specs.Modules.{Module}
use Rattle.conversion.specs.rewriter.Machine as machine
use Rattle.conversion.specs.rewriter.Machine.{Answer, Change, DoneWith, Goes, Nothing, Refused, State, due_change}
use Rattle.conversion.specs.patterns.Canonicalization.{Canonical, End, canonicalization_of, converged, ended, go_on, greedy_rules, limited, most_rewrites, aborted}
use Rattle.conversion.specs.patterns.Rewrites.{Rewrite, none, refused, becomes}
use Rattle.greedy.specs.Changes.{canonical_reply, canonicalizing, made_of, rewriting}
use Rattle.greedy.specs.Rewriting.{IsOfItsRules, next_by, rewriting_of, rewritten_from}
use Rattle.greedy.specs.PatternSet.{PatternSetModel, by_rules, patterns_of, pattern_set_from}
use Rattle.greedy.specs.Tracing.{TraceIsCounted, trace_of}
use Rattle.greedy.specs.Applications.{IsApplied}
use Rattle.greedy.proofs.Applications.{entries_lawful, rules_fire}
use Rattle.mlir_work_transforms.specs.Transforming.{MayTransform, set_of, transformation_of}
use Rattle.mlir_work_transforms.specs.declared.rule_choice.RuleChoice.{RuleChoice}
use Rattle.mlir_work_transforms.specs.declared.rule_choice.RuleChoice.TheVariants as choice
use Rattle.greedy.specs.declared.outcome.Outcome.{Outcome}
use Rattle.greedy.specs.declared.outcome.Outcome.TheVariants.{Limit}

count_is : (m n : Module) (j k : ℕ) (d e : End) → ended m j d ≡ ended n k e → j ≡ k
count_is m n j k d e h = cc

end_is : (m n : Module) (j k : ℕ) (d e : End) → ended m j d ≡ ended n k e → d ≡ e
end_is m n j k d e h = cc

not_ended : (f : Refusal) (n : Module) (k : ℕ) (e : End) → aborted f ≡ ended n k e → ⊥
not_ended f n k e h = absurd cc

not_converged : converged ≡ limited → ⊥
not_converged h = absurd cc

-- the number of rewrites of a run that stopped by its limit
limited_count : (a : PatternSetModel) (left done : ℕ) (m n : Module) (k : ℕ) → rewritten_from a left done m ≡ ended n k limited → k ≡ done + left
unfolding rewritten_from
limited_count a zero done m n k h = let c : done ≡ k = count_is m n done k _ limited h in omega (arith, c)
limited_count a (suc left) done m n k h = go (next_by a m) h (λ p. limited_count a left (done + 1) p n k)
  where
    go : (w : Rewrite) → go_on w m done (rewritten_from a left (done + 1)) ≡ ended n k limited → ((p : Module) → rewritten_from a left (done + 1) p ≡ ended n k limited → k ≡ (done + 1) + left) → k ≡ done + suc left
    go none z more = absurd (not_converged (end_is m n done k converged limited z))
    go (refused f) z more = absurd (not_ended f n k limited z)
    go (becomes p) z more = let c = more p z in omega (arith, c)

-- the length of its trace
limited_length : (a : PatternSetModel) → IsApplied a → TraceIsCounted → (limit : ℕ) (m n : Module) (k : ℕ) → rewriting_of a limit m ≡ ended n k limited → length (trace_of a limit m) ≡ limit
unfolding rewriting_of
limited_length a applied counted limit m n k h = go (nat_le 1 limit && nat_le limit most_rewrites) h
  where
    go : (b : Bool) → (if b then rewritten_from a limit 0 m else aborted BadLimit) ≡ ended n k limited → length (trace_of a limit m) ≡ limit
    go true z =
        let c : length (trace_of a limit m) ≡ k = counted a applied limit m n k limited z in
        let d : k ≡ 0 + limit = limited_count a limit 0 m n k z in
        omega (arith, c, d)
    go false z = absurd (not_ended BadLimit n k limited z)

-- ---- runs on the machine

-- a run that the machine answers with the limit stopped by it
due_limited : (s : State) (c : Canonical) (k : ℕ) → DoneWith (machine.Limited k) ≡ (due_change (made_of c) s).reply → (n : Module) × (c ≡ ended n k limited)
due_limited s (aborted f) k e = absurd cc
due_limited s (ended m j converged) k e = absurd cc
due_limited s (ended m j limited) k e = (m, ap (λ (i : ℕ). ended m i limited) (sym (same e)))
  where
    same : DoneWith (machine.Limited k) ≡ DoneWith (machine.Limited j) → k ≡ j
    same i = cc

goes_limited : (made : Module → Canonical) (s t : State) (k : ℕ) → Goes s (Change (record { transformed = λ m. made_of (made m); interns = true })) (DoneWith (machine.Limited k)) Nothing t → (n : Module) × (made s.held ≡ ended n k limited)
goes_limited made s t k goes = elim goes.answer [
  | inl e ↦ due_limited s (made s.held) k (ap Answer.reply e)
  | inr h ↦ elim h.1 [
    | inl e ↦ absurd (not_memory (ap Answer.reply e))
    | inr e ↦ absurd (not_full (ap Answer.reply e.1))
  ]
]
  where
    not_memory : DoneWith (machine.Limited k) ≡ Refused Memory → ⊥
    not_memory e = absurd cc

    not_full : DoneWith (machine.Limited k) ≡ Refused Full → ⊥
    not_full e = absurd cc

-- the trace of a rewriting that stopped by its limit
rewriting_length : (a : PatternSetModel) → IsApplied a → TraceIsCounted → (limit : ℕ) (s t : State) (called : Result Outcome Refusal) → Goes s (Change (rewriting a limit)) (canonical_reply called) Nothing t → (k : ℕ) → called ≡ Ok (Limit k) → length (trace_of a limit s.held) ≡ limit
rewriting_length a applied counted limit s t called goes k is =
    let run = goes_limited (rewriting_of a limit) s t k (subst (λ (c : Result Outcome Refusal). Goes s (Change (rewriting a limit)) (canonical_reply c) Nothing t) is goes) in
    limited_length a applied counted limit s.held run.0 k run.1

-- the same for a canonicalization
canonicalization_length : IsApplied (by_rules greedy_rules) → TraceIsCounted → IsOfItsRules → (limit : ℕ) (s t : State) (called : Result Outcome Refusal) → Goes s (Change (canonicalizing limit)) (canonical_reply called) Nothing t → (k : ℕ) → called ≡ Ok (Limit k) → length (trace_of (by_rules greedy_rules) limit s.held) ≡ limit
canonicalization_length applied counted rules limit s t called goes k is =
    let run = goes_limited (canonicalization_of limit) s t k (subst (λ (c : Result Outcome Refusal). Goes s (Change (canonicalizing limit)) (canonical_reply c) Nothing t) is goes) in
    limited_length (by_rules greedy_rules) applied counted limit s.held run.0 k (rules limit s.held ∙ run.1)

-- the same for a choice of rules
pub chosen_length : (r : RuleChoice) → MayTransform r → TraceIsCounted → IsOfItsRules → (limit : ℕ) (s t : State) (called : Result Outcome Refusal) → Goes s (Change (transformation_of r limit)) (canonical_reply called) Nothing t → (k : ℕ) → called ≡ Ok (Limit k) → length (trace_of (set_of r) limit s.held) ≡ limit
chosen_length choice.Canonical may counted rules = canonicalization_length (rules_fire greedy_rules) counted rules
chosen_length (choice.Listed rs) may counted rules = rewriting_length (by_rules rs.now) (rules_fire rs.now) counted
chosen_length (choice.WithPatterns list) may counted rules = rewriting_length (pattern_set_from (patterns_of list.now)) (entries_lawful (patterns_of list.now) may).applied counted
