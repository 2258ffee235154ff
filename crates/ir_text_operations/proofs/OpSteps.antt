-- Operations are parsed one by one, as a loop does.
use Rattle.std.proofs.Common.{◌≡◌, ℕ, suc, ◌+◌, ◌-◌, ◌<◌, ◌≤◌, List, [], ◌∷◌, ◌++◌, Some, None, refl, sym, ◌∙◌, arith}
use Rattle.ir_text_tokens.specs.declared.token.Mark.{Mark}
use Rattle.ir_tree.specs.Tree.{Op}
use Rattle.ir_text_types.specs.declared.error.ReadError.{ReadError}
use Rattle.ir_text_types.specs.Outcomes.{Outcome, Read, Wrong, Parse, Fails}
use Rattle.ir_text_types.proofs.ListSteps.{fails_with}
use Rattle.ir_text_names.specs.States.{State, after_in}
use Rattle.ir_text_operations.specs.OpReading.{ops_at}

module _ (close : Mark) (p : Parse State Op) where
  module _ (items : List Op) (headroom i : ℕ) (s : State) (total : Outcome (List Op × State)) (so_far : ops_at close p (headroom - i) items s ≡ total) (lt : i < headroom) where
    one : headroom - i ≡ suc (headroom - (i + 1))
    one = omega arith

    pub closes : (end : State) → after_in close s ≡ Some end → total ≡ Read (items, end)
    unfolding ops_at
    closes end closed = sym so_far ∙ rw (one, closed) refl

    pub goes_on : (x : Op) (mid : State) → after_in close s ≡ None → p s ≡ Read (x, mid) → ops_at close p (headroom - (i + 1)) (items ++ x ∷ []) mid ≡ total
    unfolding ops_at
    goes_on x mid going item = sym (rw (one, going, item) refl) ∙ so_far

    pub no_item : (e : ReadError) → after_in close s ≡ None → Fails e (p s) → Fails e total
    unfolding ops_at
    no_item e going fails = fails_with e (p s) total (λ none. sym so_far ∙ rw (one, going, none) refl) (λ none. sym so_far ∙ rw (one, going, none) refl) fails

  pub is_full : (items : List Op) (headroom i : ℕ) (s : State) (total : Outcome (List Op × State)) → ops_at close p (headroom - i) items s ≡ total → headroom ≤ i → total ≡ Wrong
  unfolding ops_at
  is_full items headroom i s total so_far le =
      let k : headroom - i ≡ 0 = omega arith in
      sym so_far ∙ rw k refl
