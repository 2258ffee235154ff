-- After a rewriter answered `rewrite` or `canon`, its module refines the module before.
use Rattle.std.proofs.Common.{◌≡◌, ℕ, [], Result, Ok, Err, refl, sym, ap, subst, inl, inr, ◌⊎◌}
use Rattle.ir_event.specs.Modules.{Module}
use Rattle.rewriter_machine.specs.Machine.{Answer, Fault, Outcome, Reply, Shows, State, Transformation, due_change}
use Rattle.patterns_base.specs.Canonicalization.{Canonical, End, canonicalization_of, ended, aborted}
use Rattle.greedy.specs.Changes.{canonicalizing, rewriting}
use Rattle.greedy.specs.Changes as changes
use Rattle.greedy.specs.Rewriting.{rewriting_of}
use Rattle.greedy.specs.PatternSet.{pattern_set_from}
use Rattle.patterns_refinement.specs.Keeping.{IsReady}
use Rattle.patterns_refinement.specs.Canonical.{CanonicalizationKeeps, IsPlain}
use Rattle.patterns_refinement.specs.Refining.{CanonRefines}
use Rattle.patterns_refinement.specs.ForOutcomes.{CanonStaysInRange, IsInRange}
use Rattle.patterns_refinement.specs.Noted.{NotedRewriteRefines}
use Rattle.patterns_refinement.specs.CanonLists.{NotedCanonListsRefine}
use Rattle.patterns_refinement.specs.Answered.{Answers, CanonAnswerRefines, CanonListAnswerRefines, IsRefinement, RewriteAnswerRefines}
use Rattle.patterns_refinement.proofs.Refining.{kept_is_refined}
use Rattle.patterns_refinement.proofs.RuleListRunning.{rule_list_runs_keep}

-- ---- the module after a call for a transformation
abbrev Made : Type 0
Made = Result (Outcome × Module) Fault

abbrev IsMade : Made → Module → Module → Type 0
IsMade r m n = (n ≡ m) ⊎ ((o : Outcome) × (r ≡ Ok (o, n)))

due_held : (r : Made) (s t : State) (reply : Reply) (shows : Shows) → record { reply = reply; shows = shows; held = t.held; marks = t.marks } ≡ due_change r s → IsMade r s.held t.held
due_held (Ok made) s t reply shows e = inr (made.0, ap (λ n. Ok (made.0, n)) (sym (ap (λ (a : Answer). a.held) e)))
due_held (Err fault) s t reply shows e = inl (ap (λ (a : Answer). a.held) e)

answers_held : (f : Transformation) (s t : State) (reply : Reply) (shows : Shows) → Answers f s reply shows t → IsMade (f.transformed s.held) s.held t.held
answers_held f s t reply shows g = elim g.answer [
  | inl e ↦ due_held (f.transformed s.held) s t reply shows e
  | inr u ↦ elim u.1 [ inl e ↦ inl (ap (λ (a : Answer). a.held) e) | inr e ↦ inl (ap (λ (a : Answer). a.held) e.1) ]
]

-- ---- a module that stays as it was
still : (m n : Module) → IsReady m → IsInRange m → n ≡ m → IsRefinement m n
still m n ready range e =
    subst (λ n. IsRefinement m n) (sym e) (ready, range, kept_is_refined m m ready (rule_list_runs_keep [] (λ t i. absurd i) 0 m m ready refl))

-- ---- results
same_ok : (x y : Outcome × Module) (r q : Made) → r ≡ Ok x → q ≡ Ok y → r ≡ q → x ≡ y
same_ok x y r q e f h = cc

never_ok : (fault : Fault) (y : Outcome × Module) (r q : Made) → r ≡ Err fault → q ≡ Ok y → r ≡ q → ⊥
never_ok fault y r q e f h = cc

module_of : (o u : Outcome) (m n : Module) (r : Made) → r ≡ Ok (o, m) → r ≡ Ok (u, n) → m ≡ n
module_of o u m n r e f = ap (λ (x : Outcome × Module). x.1) (same_ok (o, m) (u, n) r r e f refl)

-- a run
record Ends (c : Canonical) (n : Module) : Type 0 where
  pub count : ℕ
  pub end : End
  pub is : c ≡ ended n count end

run_made : (c : Canonical) (n : Module) (o : Outcome) → changes.made_of c ≡ Ok (o, n) → Ends c n
run_made (ended m k e) n o i = record { count = k; end = e; is = ap (λ m. ended m k e) (module_of _ o m n (changes.made_of (ended m k e)) refl i) }
run_made (aborted r) n o i = absurd (never_ok _ (o, n) _ (Ok (o, n)) refl refl i)

-- ---- the laws
pub rewrite_answer_refines : NotedRewriteRefines → RewriteAnswerRefines
rewrite_answer_refines refines b reached ts are limit s t reply shows ready range a = elim (answers_held (rewriting (pattern_set_from ts) limit) s t reply shows a) [
  | inl e ↦ still s.held t.held ready range e
  | inr made ↦
      let r = run_made (rewriting_of (pattern_set_from ts) limit s.held) t.held made.0 made.1 in
      refines b reached ts are limit s.held t.held r.count r.end ready range r.is
]

pub canon_list_answer_refines : NotedCanonListsRefine → CanonListAnswerRefines
canon_list_answer_refines refines b reached ts are limit s t reply shows ready simple range a = elim (answers_held (rewriting (pattern_set_from ts) limit) s t reply shows a) [
  | inl e ↦ (still s.held t.held ready range e, subst IsPlain (sym e) simple)
  | inr made ↦
      let r = run_made (rewriting_of (pattern_set_from ts) limit s.held) t.held made.0 made.1 in
      let k = refines b reached ts are limit s.held t.held r.count r.end ready simple range r.is in
      ((k.0, k.2, k.3), k.1)
]

pub canon_answer_refines : CanonicalizationKeeps → CanonStaysInRange → CanonRefines → CanonAnswerRefines
canon_answer_refines keeps stays refines limit s t reply shows ready simple range a = elim (answers_held (canonicalizing limit) s t reply shows a) [
  | inl e ↦ (still s.held t.held ready range e, subst IsPlain (sym e) simple)
  | inr made ↦
      let r = run_made (canonicalization_of limit s.held) t.held made.0 made.1 in
      let k = keeps limit s.held t.held r.count r.end ready simple r.is in
      ((k.0, stays limit s.held t.held r.count r.end ready simple range r.is, refines limit s.held t.held r.count r.end ready simple r.is), k.1)
]
