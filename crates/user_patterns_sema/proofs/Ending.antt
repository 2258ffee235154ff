-- The end of the analysis.
use Rattle.std.proofs.Common.{◌≡◌, ℕ, true, false, length, Result, Ok, Err, refl}
use Rattle.user_patterns_text.specs.declared.error.PatternError.{PatternError}
use Rattle.user_patterns_text.specs.declared.error.PatternError.TheVariants as errors
use Rattle.user_patterns_text.specs.Parts.{Pattern}
use Rattle.user_patterns_text.specs.Refusing.{Returns, Fails, Outcome, ◌>>=◌}
use Rattle.user_patterns_data.specs.declared.pattern.Pattern.{Pattern as PatternCode}
use Rattle.user_patterns_data.specs.Shapes.{PatternModel, pattern_model}
use Rattle.user_patterns_sema.specs.declared.state.TermRef.{TermRef}
use Rattle.user_patterns_sema.specs.Ending.{Ends, ended, ends_wellformed, pattern_of, roots_wellformed}
use Rattle.user_patterns_sema.specs.Sema.{Sema, Places, State, begins_with, checked, conditions_at, finished, old_depth, settled, sides_wellformed, term_at, unite}

abbrev Found : Type 0
Found = TermRef × State

abbrev last : Ends × Sema → Outcome PatternModel
last x = checked (pattern_of x.0 x.1)

module _ (b : Places) where
  abbrev close : (ℕ × ℕ) × Sema → Outcome (Ends × Sema)
  close x = settled x.1 >>= λ g. Ok (ended b x.0 g, g)

  is_settled : (r : ℕ × ℕ) (o : Outcome Sema) → (o >>= λ g. last (ended b r g, g)) ≡ ((o >>= λ g. Ok (ended b r g, g)) >>= last)
  is_settled r (Ok g) = refl
  is_settled r (Err e) = refl

  is_requested : (r : ℕ × ℕ) (o : Outcome Sema) → (o >>= finished b r.0 r.1) ≡ (((o >>= λ h. Ok (r, h)) >>= close) >>= last)
  unfolding finished
  is_requested r (Ok g) = is_settled r (settled g)
  is_requested r (Err e) = refl

  module _ (C : Sema → Outcome Sema) where
    is_united : (r : ℕ × ℕ) (o : Outcome Sema)
        → (o >>= λ g. C g >>= finished b r.0 r.1) ≡ (((o >>= λ g. C g >>= λ h. Ok (r, h)) >>= close) >>= last)
    is_united r (Ok g) = is_requested r (C g)
    is_united r (Err e) = refl

    module _ (old : Found) where
      has_new : (o : Outcome Found)
          → (o >>= λ new. unite old.0.slot new.0.slot new.0.left new.1.1 >>= λ g. C g >>= finished b old.0.place new.0.place)
          ≡ (((o >>= λ new. unite old.0.slot new.0.slot new.0.left new.1.1 >>= λ g. C g >>= λ h. Ok ((old.0.place, new.0.place), h)) >>= close) >>= last)
      has_new (Ok new) = is_united (old.0.place, new.0.place) (unite old.0.slot new.0.slot new.0.left new.1.1)
      has_new (Err e) = refl

    has_old : (N : Found → Outcome Found) (o : Outcome Found)
        → (o >>= λ old. N old >>= λ new. unite old.0.slot new.0.slot new.0.left new.1.1 >>= λ g. C g >>= finished b old.0.place new.0.place)
        ≡ (((o >>= λ old. N old >>= λ new. unite old.0.slot new.0.slot new.0.left new.1.1 >>= λ g. C g >>= λ h. Ok ((old.0.place, new.0.place), h)) >>= close) >>= last)
    has_old N (Ok old) = has_new old (N old)
    has_old N (Err e) = refl

  pub same_sides : (p : Pattern) → sides_wellformed b p ≡ (ends_wellformed b p (begins_with (length b.variables)) >>= last)
  unfolding sides_wellformed ends_wellformed roots_wellformed
  same_sides p =
      has_old (λ f. conditions_at b 17 (p.conditions, f)) (λ old. term_at b false 17 (p.new, old.1.1)) (term_at b true old_depth (p.old, begins_with (length b.variables)))

  module _ (p : Pattern) (n : ℕ) (f : Sema) where
    pub gives_last : (x : Ends × Sema) (r : Result PatternCode PatternError)
        → n ≡ length b.variables → f ≡ begins_with n → ends_wellformed b p f ≡ Ok x → Returns pattern_model r (last x) → Returns pattern_model r (sides_wellformed b p)
    gives_last x r count begun ends h = rw (same_sides p, ← count, ← begun, ends) h

    pub gives_error : (e : PatternError)
        → n ≡ length b.variables → f ≡ begins_with n → Fails e (ends_wellformed b p f) → Fails e (sides_wellformed b p)
    gives_error errors.Memory count begun h = tt
    gives_error (errors.Refused f) count begun h = rw (same_sides p, ← count, ← begun, h) refl

pub checked_same : (s t : PatternModel) (r : Result PatternCode PatternError) → s ≡ t → Returns pattern_model r (checked s) → Returns pattern_model r (checked t)
checked_same s t r same h = rw (← same) h
