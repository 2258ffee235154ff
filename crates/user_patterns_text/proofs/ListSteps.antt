-- Lists read item by item, as a loop reads them.
use Rattle.std.proofs.Common.{◌≡◌, ℕ, suc, ◌+◌, ◌-◌, ◌<◌, ◌≤◌, Option, Some, None, Result, Ok, Err, refl, sym, ◌∙◌, arith}
use Rattle.ir_text_tokens.specs.declared.fault.Fault.{Fault}
use Rattle.ir_text_tokens.specs.declared.refusal.TextRefusal.TheVariants.{TooMany}
use Rattle.ir_text_tokens.specs.declared.token.Mark.{Mark}
use Rattle.ir_text_tokens.specs.declared.token.Mark.TheVariants.{Comma}
use Rattle.ir_text_types.specs.Marks.{after}
use Rattle.ir_text_types.specs.Typed.{Text}
use Rattle.user_patterns_text.specs.declared.error.PatternError.{PatternError}
use Rattle.user_patterns_text.specs.declared.error.PatternError.TheVariants as errors
use Rattle.user_patterns_text.specs.Refusing.{Outcome, Fails, refused, begins, trailing}
use Rattle.user_patterns_text.specs.Reading.{State, Step, more_at, listed_at}

-- an outcome that fails makes each outcome that depends on it fail
pub fails_with : {A B : Type 0} (e : PatternError) (o : Outcome A) (q : Outcome B) → ((f : Fault) → o ≡ Err f → q ≡ Err f) → Fails e o → Fails e q
fails_with errors.Memory o q f h = tt
fails_with (errors.Refused r) o q f h = f r h

module _ (close : Mark) (item : Step) where
  pub starts : (headroom : ℕ) (s : State) → after close s.1 ≡ None → more_at close item headroom s ≡ listed_at close item headroom s
  unfolding listed_at
  starts headroom s e = rw e refl

  module _ (headroom i : ℕ) (s : State) (total : Outcome State) (so_far : more_at close item (headroom - i) s ≡ total) where
    module _ (lt : i < headroom) where
      one : headroom - i ≡ suc (headroom - (i + 1))
      one = omega arith

      pub goes_on : (x : State) (rest : Text) → item s ≡ Ok x → after close x.1 ≡ None → trailing Comma x.1 ≡ Ok rest → more_at close item (headroom - (i + 1)) (x.0, rest) ≡ total
      unfolding more_at
      goes_on x rest found going comma = sym (rw (one, found, going, comma) refl) ∙ so_far

      pub closes : (x : State) (end : Text) → item s ≡ Ok x → after close x.1 ≡ Some end → total ≡ Ok (x.0, end)
      unfolding more_at
      closes x end found closed = sym so_far ∙ rw (one, found, closed) refl

      pub no_item : (e : PatternError) → Fails e (item s) → Fails e total
      unfolding more_at
      no_item e fails = fails_with e (item s) total (λ f is. sym so_far ∙ rw (one, is) refl) fails

      pub no_comma : (e : PatternError) (x : State) → item s ≡ Ok x → after close x.1 ≡ None → Fails e (trailing Comma x.1) → Fails e total
      unfolding more_at
      no_comma e x found going fails = fails_with e (trailing Comma x.1) total (λ f is. sym so_far ∙ rw (one, found, going, is) refl) fails

    module _ (le : headroom ≤ i) where
      none : headroom - i ≡ 0
      none = omega arith

      pub too_many : (x : State) → item s ≡ Ok x → total ≡ refused TooMany (begins s.1)
      unfolding more_at
      too_many x found = sym so_far ∙ rw (none, found) refl

      pub last_fails : (e : PatternError) → Fails e (item s) → Fails e total
      unfolding more_at
      last_fails e fails = fails_with e (item s) total (λ f is. sym so_far ∙ rw (none, is) refl) fails
