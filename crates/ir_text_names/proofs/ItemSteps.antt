-- Lists are parsed item by item, as a loop does.
use Rattle.std.proofs.Common.{◌≡◌, ℕ, suc, ◌+◌, ◌-◌, ◌<◌, List, [], ◌∷◌, ◌++◌, Option, Some, None, Result, Ok, Err, refl, sym, ◌∙◌, arith}
use Rattle.ir_text_tokens.specs.declared.token.Mark.{Mark}
use Rattle.ir_text_tokens.specs.declared.token.Mark.TheVariants.{Comma}
use Rattle.ir_text_types.specs.declared.error.ReadError.{ReadError}
use Rattle.ir_text_types.specs.Lists.{more_at}
use Rattle.ir_text_types.specs.Outcomes.{Outcome, Read, of_option, Parse, Fails}
use Rattle.ir_text_types.proofs.ListSteps.{fails_with, fails_option}
use Rattle.ir_text_names.specs.declared.lists.AfterItem.{AfterItem}
use Rattle.ir_text_names.specs.declared.lists.AfterItem.TheVariants.{End, More}
use Rattle.ir_text_names.specs.ListSteps.{Steps}

-- what follows an item, over any state
abbrev pub AfterIn : {S : Type 0} → (Mark → S → Option S) → Mark → S → Result AfterItem ReadError → (List ℕ → S) → Type 0
AfterIn after close mid (Ok (End rest)) at = after close mid ≡ Some (at rest.now)
AfterIn after close mid (Ok (More rest)) at = (after close mid ≡ None) × (after Comma mid ≡ Some (at rest.now))
AfterIn after close mid (Err e) at = (after close mid ≡ None) × Fails e (of_option (after Comma mid))

module _ {S A : Type 0} (after : Mark → S → Option S) (close : Mark) (p : List A → Parse S A) where
  module _ (items : List A) (s : S) where
    -- an item and what follows it are a step
    pub step : (x : A) (mid : S) (r : Result AfterItem ReadError) (at : List ℕ → S) → p items s ≡ Read (x, mid) → AfterIn after close mid r at → Steps after close p items s r (items ++ x ∷ []) at
    unfolding more_at
    step x mid (Ok (End rest)) at item b = λ headroom. rw (item, b) refl
    step x mid (Ok (More rest)) at item b = λ headroom. let going = b.0 in let comma = b.1 in rw (item, going, comma) refl
    step x mid (Err e) at item b = λ headroom. let going = b.0 in fails_option e (after Comma mid) (more_at after close p (suc headroom) items s) (λ none. rw (item, going, none) refl) b.1

    pub no_step : (e : ReadError) → Fails e (p items s) → (headroom : ℕ) → Fails e (more_at after close p (suc headroom) items s)
    unfolding more_at
    no_step e fails headroom = fails_with e (p items s) (more_at after close p (suc headroom) items s) (λ none. rw none refl) (λ none. rw none refl) fails

  module _ (items : List A) (headroom i : ℕ) (s : S) (total : Outcome (List A × S)) (so_far : more_at after close p (headroom - i) items s ≡ total) (lt : i < headroom) where
    one : headroom - i ≡ suc (headroom - (i + 1))
    one = omega arith

    pub goes_on : (new : List A) (next : S) → ((k : ℕ) → more_at after close p (suc k) items s ≡ more_at after close p k new next) → more_at after close p (headroom - (i + 1)) new next ≡ total
    goes_on new next step = sym (step (headroom - (i + 1))) ∙ rw one at so_far

    pub closes : (new : List A) (end : S) → ((k : ℕ) → more_at after close p (suc k) items s ≡ Read (new, end)) → total ≡ Read (new, end)
    closes new end step = sym (rw one at so_far) ∙ step (headroom - (i + 1))

    pub fails : (e : ReadError) → ((k : ℕ) → Fails e (more_at after close p (suc k) items s)) → Fails e total
    fails e step = fails_with e (more_at after close p (suc (headroom - (i + 1))) items s) total (λ none. sym (rw one at so_far) ∙ none) (λ none. sym (rw one at so_far) ∙ none) (step (headroom - (i + 1)))
