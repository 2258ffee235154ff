-- Lists are parsed item by item, as a loop does, over any state.
use Rattle.std.proofs.Common.{◌≡◌, ℕ, suc, ◌+◌, ◌-◌, ◌<◌, ◌≤◌, List, [], ◌∷◌, ◌++◌, Option, Some, None, refl, sym, ◌∙◌, arith}
use Rattle.ir_text_tokens.specs.declared.token.Mark.{Mark}
use Rattle.ir_text_tokens.specs.declared.token.Mark.TheVariants.{Comma}
use Rattle.ir_text_types.specs.declared.error.ReadError.{ReadError}
use Rattle.ir_text_types.specs.declared.error.ReadError.TheVariants as errors
use Rattle.ir_text_types.specs.Outcomes.{Outcome, Read, Wrong, Full, of_option, Parse, Fails}
use Rattle.ir_text_types.specs.Lists.{more_at, list_at}

-- a failure of one step is a failure of every step that depends on it
pub fails_with : {A B : Type 0} (e : ReadError) (o : Outcome A) (q : Outcome B) → (o ≡ Wrong → q ≡ Wrong) → (o ≡ Full → q ≡ Full) → Fails e o → Fails e q
fails_with errors.Memory o q f g h = tt
fails_with (errors.Full left) o q f g h = g h
fails_with (errors.Refused r) o q f g h = f h

-- the same for a parse that fails only on a wrong text
pub fails_option : {A : Type 0} {B : Type 0} (e : ReadError) (o : Option A) (q : Outcome B) → (o ≡ None → q ≡ Wrong) → Fails e (of_option o) → Fails e q
fails_option e None q f h = fails_with e (of_option None) q (λ w. f refl) (λ w. absurd cc) h
fails_option e (Some x) q f h = fails_with e (of_option (Some x)) q (λ w. absurd cc) (λ w. absurd cc) h

-- a value that is parsed from an option is the option's value
pub got : {A : Type 0} (o : Option A) (x : A) → of_option o ≡ Read x → o ≡ Some x
got None x e = absurd cc
got (Some y) x e = cc

module _ {S A : Type 0} (after : Mark → S → Option S) (close : Mark) (p : List A → Parse S A) where
  pub starts : (headroom : ℕ) (s : S) → after close s ≡ None → more_at after close p headroom [] s ≡ list_at after close p headroom s
  unfolding list_at
  starts headroom s e = rw e refl

  module _ (items : List A) (headroom i : ℕ) (s : S) (total : Outcome (List A × S)) (so_far : more_at after close p (headroom - i) items s ≡ total) (lt : i < headroom) where
    one : headroom - i ≡ suc (headroom - (i + 1))
    one = omega arith

    pub goes_on : (x : A) (mid next : S) → p items s ≡ Read (x, mid) → after close mid ≡ None → after Comma mid ≡ Some next → more_at after close p (headroom - (i + 1)) (items ++ x ∷ []) next ≡ total
    unfolding more_at
    goes_on x mid next item going comma = sym (rw (one, item, going, comma) refl) ∙ so_far

    pub closes : (x : A) (mid end : S) → p items s ≡ Read (x, mid) → after close mid ≡ Some end → total ≡ Read (items ++ x ∷ [], end)
    unfolding more_at
    closes x mid end item closed = sym so_far ∙ rw (one, item, closed) refl

    pub no_item : (e : ReadError) → Fails e (p items s) → Fails e total
    unfolding more_at
    no_item e fails = fails_with e (p items s) total (λ none. sym so_far ∙ rw (one, none) refl) (λ none. sym so_far ∙ rw (one, none) refl) fails

    pub no_comma : (e : ReadError) (x : A) (mid : S) → p items s ≡ Read (x, mid) → after close mid ≡ None → Fails e (of_option (after Comma mid)) → Fails e total
    unfolding more_at
    no_comma e x mid item going fails = fails_option e (after Comma mid) total (λ none. sym so_far ∙ rw (one, item, going, none) refl) fails

  pub is_full : (items : List A) (headroom i : ℕ) (s : S) (total : Outcome (List A × S)) → more_at after close p (headroom - i) items s ≡ total → headroom ≤ i → total ≡ Wrong
  unfolding more_at
  is_full items headroom i s total so_far le =
      let k : headroom - i ≡ 0 = omega arith in
      sym so_far ∙ rw k refl
