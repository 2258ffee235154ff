-- Traces of rewrites.
use Rattle.std.proofs.Common.{◌≡◌, refl, ap, sym, ◌∙◌, ℕ, zero, suc, ◌+◌, ◌-◌, ◌≤◌, ◌<◌, Bool, true, false, true≢false, eqb, eqb-true, List, [], ◌∷◌, ◌++◌, append_assoc, append-nil, length, Option, Some, None, inl, inr, arith}
use Rattle.std.proofs.lemmas.Option.{none-some}
use Rattle.ir_event.specs.trees.Ids.{has_id, ids}
use Rattle.ir_event.specs.tree_laws.Reads.{comes_after}
use Rattle.ir_event.proofs.of_tree_laws.Listed.{bool_cases}
use Rattle.ir_event.specs.Modules.{Module}
use Rattle.patterns_base.specs.Rewrites.{Rewrite, none, refused, becomes}
use Rattle.patterns_base.specs.Canonicalization.{End, converged, ended, go_on, or_else, aborted}
use Rattle.ir_event.specs.types.declared.refusal.Refusal.{Refusal}
use Rattle.greedy.specs.Outcomes.{Applied}
use Rattle.greedy.specs.Rewriting.{first_by, next_by, rewritten_from}
use Rattle.greedy.specs.LocalContext.{is_listed}
use Rattle.greedy.specs.Tracing.{TraceIsCounted, applied_rewrite, applied_next, site_by, site_of, site_or, trace_step, trace_of, trace_on}
use Rattle.greedy.specs.PatternSet.{PatternSetModel}
use Rattle.greedy.specs.Applications.{IsApplied}
use Rattle.greedy.specs.Work.{Right, Taken}
use Rattle.greedy.specs.declared.applied_rewrite.AppliedPattern.{AppliedPattern}
use Rattle.greedy.specs.declared.applied_rewrite.AppliedRewrite.{AppliedRewrite}
use Rattle.greedy.proofs.Listed.{listed_past}
use Rattle.greedy.proofs.Scans.{before_here, before_later, first_waits, gave, is_step, becomes_none}

abbrev made : AppliedPattern → ℕ → ℕ → ℕ → Bool → AppliedRewrite
made r x a b stays = record { by = r; op = x; from = a; until = b; stays = stays }

pub reported_as : (r : AppliedPattern) (x : ℕ) (m n : Module) (a b : ℕ) (stays : Bool) → a ≡ m.next → b ≡ n.next → stays ≡ has_id x n.tree → Some (made r x a b stays) ≡ Some (applied_rewrite r x m n)
reported_as r x m n a b stays e f h =
    ap (λ k. Some (made r x k b stays)) e
    ∙ ap (λ k. Some (made r x m.next k stays)) f
    ∙ ap (λ s. Some (made r x m.next n.next s)) h

module _ (pattern_set : PatternSetModel) (applied_is : IsApplied pattern_set) (m : Module) where
  -- if nothing applies before y, the scan returns the entry that applies at y
  site_at : (y : ℕ) (r : AppliedPattern) (xs : List ℕ) → is_listed y xs ≡ true → ((z : ℕ) → comes_after z y xs ≡ true → pattern_set.comes m z ≡ none) → pattern_set.fires m y ≡ Some r → site_by pattern_set xs m ≡ Some (r, y)
  unfolding site_by
  site_at y r [] i h f = absurd (true≢false (sym i))
  site_at y r (x ∷ xs) i h f = elim (bool_cases (eqb x y)) [
    | inl e ↦
        ap (λ z. site_or (pattern_set.fires m z) z (site_by pattern_set xs m)) (eqb-true x y e)
        ∙ ap (λ a. site_or a y (site_by pattern_set xs m)) f
    | inr e ↦
        let k = listed_past x y xs e i in
        ap (λ a. site_or a x (site_by pattern_set xs m)) ((applied_is m x).0 (h x (before_here x y xs k))) ∙ site_at y r xs k (λ z c. h z (before_later x z y xs k c)) f
  ]

  -- the trace records the entry that applies at the first waiting operation
  pub notified_there : (x p : ℕ) (a : List ℕ) (p2 : ℕ) (a2 : List ℕ) → Right pattern_set p a m → Taken x p a p2 a2 m.tree → (r : AppliedPattern) (n : Module) → Some r ≡ pattern_set.fires m x → pattern_set.comes m x ≡ becomes n → applied_next pattern_set m ≡ Some (applied_rewrite r x m n)
  notified_there x p a p2 a2 right k r n f b =
      let steps : next_by pattern_set m ≡ becomes n = is_step pattern_set m x p a p2 a2 right k (λ e. becomes_none n (sym b ∙ e)) ∙ b in
      ap (λ w. trace_step w (site_of pattern_set m) m) steps
      ∙ ap (λ s. trace_step (becomes n) s m) (site_at x r (ids m.tree) k.there (first_waits pattern_set m x p a p2 a2 right k) (sym f))

  pub reported_none : next_by pattern_set m ≡ none → applied_next pattern_set m ≡ None
  reported_none e = ap (λ w. trace_step w (site_of pattern_set m) m) e

  -- ---- the trace of a run
  pub trace_goes_on : (left : ℕ) (f : AppliedRewrite) (n : Module) → next_by pattern_set m ≡ becomes n → Some f ≡ applied_next pattern_set m → trace_of pattern_set (suc left) m ≡ f ∷ trace_of pattern_set left n
  unfolding trace_of
  trace_goes_on left f n e h =
      ap (λ w. trace_on w (applied_next pattern_set m) (trace_of pattern_set left)) e
      ∙ ap (λ g. trace_on (becomes n) g (trace_of pattern_set left)) (sym h)

  pub trace_ends : (left : ℕ) → next_by pattern_set m ≡ none → trace_of pattern_set left m ≡ []
  unfolding trace_of
  trace_ends zero e = refl
  trace_ends (suc left) e = ap (λ w. trace_on w (applied_next pattern_set m) (trace_of pattern_set left)) e

  pub trace_full : (left : ℕ) → left ≡ zero → trace_of pattern_set left m ≡ []
  unfolding trace_of
  trace_full left e = ap (λ k. trace_of pattern_set k m) e

pub not_applied : (a : Rewrite) (m n : Module) → Applied a false m n → a ≡ none
not_applied none m n h = refl
not_applied (refused e) m n h = absurd h
not_applied (becomes p) m n h = absurd (true≢false (sym h.0))

-- ---- the trace of a run, so far
module _ (pattern_set : PatternSetModel) (applied_is : IsApplied pattern_set) (limit : ℕ) (old : Module) where
  pub trace_start : trace_of pattern_set limit old ≡ [] ++ trace_of pattern_set (limit - 0) old
  trace_start = let e : limit - 0 ≡ limit = omega arith in ap (λ k. trace_of pattern_set k old) (sym e)

  module _ (count : ℕ) (m : Module) (done : List AppliedRewrite) (so_far : trace_of pattern_set limit old ≡ done ++ trace_of pattern_set (limit - count) m) where
    pub trace_more : (f : AppliedRewrite) (n : Module) → count < limit → Some f ≡ applied_next pattern_set m → Applied (next_by pattern_set m) true m n → trace_of pattern_set limit old ≡ (done ++ (f ∷ [])) ++ trace_of pattern_set (limit - (count + 1)) n
    trace_more f n l h a =
        let more : limit - count ≡ suc (limit - (count + 1)) = omega (arith, l) in
        so_far ∙ ap (λ k. done ++ trace_of pattern_set k m) more
        ∙ ap (λ fs. done ++ fs) (trace_goes_on pattern_set applied_is m (limit - (count + 1)) f n (gave (next_by pattern_set m) true m n refl a) h)
        ∙ sym (append_assoc done (f ∷ []) (trace_of pattern_set (limit - (count + 1)) n))

    pub trace_whole : next_by pattern_set m ≡ none → trace_of pattern_set limit old ≡ done
    trace_whole e = so_far ∙ ap (λ fs. done ++ fs) (trace_ends pattern_set applied_is m (limit - count) e) ∙ append-nil done

    pub trace_at_limit : limit ≤ count → trace_of pattern_set limit old ≡ done
    trace_at_limit l =
        let none_left : limit - count ≡ zero = omega (arith, l) in
        so_far ∙ ap (λ fs. done ++ fs) (trace_full pattern_set applied_is m (limit - count) none_left) ∙ append-nil done

-- ---- a trace has as many entries as there were rewrites
count_is : (m n : Module) (j k : ℕ) (d e : End) → ended m j d ≡ ended n k e → j ≡ k
count_is m n j k d e h = ap (λ a. elim a as (λ _. ℕ) [ aborted g ↦ 0 | ended p i c ↦ i ]) h

not_ended : (f : Refusal) (n : Module) (k : ℕ) (e : End) → aborted f ≡ ended n k e → ⊥
not_ended f n k e h = true≢false (ap (λ a. elim a as (λ _. Bool) [ aborted g ↦ true | ended p i c ↦ false ]) h)

module _ (pattern_set : PatternSetModel) (applied_is : IsApplied pattern_set) where
  site_there : (xs : List ℕ) (m : Module) → site_by pattern_set xs m ≡ None → first_by pattern_set xs m ≡ none
  unfolding site_by first_by
  site_there [] m e = refl
  site_there (x ∷ xs) m e = go (pattern_set.fires m x) refl e (site_there xs m)
    where
      go : (f : Option AppliedPattern) → pattern_set.fires m x ≡ f → site_or f x (site_by pattern_set xs m) ≡ None → (site_by pattern_set xs m ≡ None → first_by pattern_set xs m ≡ none) → or_else (pattern_set.comes m x) (first_by pattern_set xs m) ≡ none
      go None f e more = ap (λ a. or_else a (first_by pattern_set xs m)) ((applied_is m x).1 f) ∙ more e
      go (Some r) f e more = absurd (none-some (r, x) (sym e))

  counted : (left done : ℕ) (m n : Module) (k : ℕ) (e : End) → rewritten_from pattern_set left done m ≡ ended n k e → done + length (trace_of pattern_set left m) ≡ k
  unfolding rewritten_from trace_of
  counted zero done m n k e h = let c = count_is m n done k _ e h in omega (arith, c)
  counted (suc left) done m n k e h = go (next_by pattern_set m) (site_of pattern_set m) refl refl h (λ p. counted left (done + 1) p n k e)
    where
      go : (a : Rewrite) (s : Option (AppliedPattern × ℕ)) → next_by pattern_set m ≡ a → site_of pattern_set m ≡ s → go_on a m done (rewritten_from pattern_set left (done + 1)) ≡ ended n k e → ((p : Module) → rewritten_from pattern_set left (done + 1) p ≡ ended n k e → (done + 1) + length (trace_of pattern_set left p) ≡ k) → done + length (trace_on a (trace_step a s m) (trace_of pattern_set left)) ≡ k
      go none s q z h more = let c = count_is m n done k converged e h in omega (arith, c)
      go (refused f) s q z h more = absurd (not_ended f n k e h)
      go (becomes p) None q z h more = absurd (becomes_none p (sym q ∙ site_there (ids m.tree) m z))
      go (becomes p) (Some s) q z h more = let c = more p h in omega (arith, c)

pub trace_is_counted : TraceIsCounted
trace_is_counted pattern_set applied_is limit m n k e h = let c = counted pattern_set applied_is limit 0 m n k e h in omega (arith, c)
