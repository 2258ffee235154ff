-- A sample pattern with a `select` holds for all outcomes, and another one is refuted by poison.
use Rattle.std.proofs.Common.{◌≡◌, ℕ, zero, suc, ◌<◌, refl, sym, subst, [], ◌∷◌, Bool, true, false, true≢false, Some, None, arith}
use Rattle.std.specs.Prelude.{◌==◌, if◌then◌else◌}
use Rattle.ir_types.specs.declared.bits.BitsKind.{BitsKind}
use Rattle.ir_types.specs.declared.bits.BitsKind.TheVariants as kind
use Rattle.ir_types.specs.Readings.{wrapped}
use Rattle.user_patterns_check.specs.Checks.{AlwaysKeeps, refines}
use Rattle.user_patterns_check.specs.Outcomes.{Outcome}
use Rattle.user_patterns_data.specs.Fitting.{content_with}
use Rattle.user_patterns_claims.specs.Outcomes.{HoldsAtAllWidths, IsOutcome, keeps_outcomes}
use Rattle.patterns_refinement.specs.ForOutcomesSamples.{PoisonRefutes, SampleHolds, choice_as_and, same_choice}
use Rattle.patterns_refinement.proofs.Monotone.{itself}

-- ---- select(c, a, a)
module _ (k : BitsKind) where
  known_choice : (c : ℕ) (o : Outcome) → keeps_outcomes (content_with (kind.Int 1 ∷ k ∷ []) same_choice) (Some (kind.Int 1, c) ∷ o ∷ []) ≡ true
  known_choice c o = go (c == 0)
    where
      go : (b : Bool) → refines (if b then o else o) o ≡ true
      go true = itself o
      go false = itself o

  same_kept : (c o : Outcome) → IsOutcome (kind.Int 1) c → keeps_outcomes (content_with (kind.Int 1 ∷ k ∷ []) same_choice) (c ∷ o ∷ []) ≡ true
  same_kept None o h = refl
  same_kept (Some x) o h = subst (λ (j : BitsKind). keeps_outcomes (content_with (kind.Int 1 ∷ k ∷ []) same_choice) (Some (j, x.1) ∷ o ∷ []) ≡ true) (sym h.0) (known_choice x.1 o)

same_holds : HoldsAtAllWidths same_choice
same_holds [] wide value_kinds os are = absurd value_kinds
same_holds (j ∷ []) wide value_kinds os are = absurd value_kinds.1
same_holds (j ∷ k ∷ l ∷ ks) wide value_kinds os are = absurd value_kinds.1
same_holds (j ∷ k ∷ []) wide value_kinds [] are = absurd are
same_holds (j ∷ k ∷ []) wide value_kinds (c ∷ []) are = absurd are.2
same_holds (j ∷ k ∷ []) wide value_kinds (c ∷ o ∷ u ∷ os) are = absurd are.2.2
same_holds (j ∷ k ∷ []) wide value_kinds (c ∷ o ∷ []) are =
    subst (λ j. keeps_outcomes (content_with (j ∷ k ∷ []) same_choice) (c ∷ o ∷ []) ≡ true) (sym value_kinds.0) (same_kept k c o (subst (λ j. IsOutcome j c) value_kinds.0 are.0))

pub sample_holds : SampleHolds
sample_holds = (record { wellformed = refl; buildable = refl; form = refl; holds = same_holds }, refl)

-- ---- select(c, a, false)
two : (v : ℕ) → suc (suc v) < 2 → ⊥
two v l = omega (arith, l)

known_kept : AlwaysKeeps (content_with (kind.Int 1 ∷ []) choice_as_and)
unfolding wrapped
known_kept [] l = absurd l
known_kept (c ∷ []) l = absurd l.1
known_kept (c ∷ a ∷ b ∷ vs) l = absurd l.1.1
known_kept (zero ∷ zero ∷ []) l = refl
known_kept (zero ∷ (suc zero) ∷ []) l = refl
known_kept (zero ∷ (suc (suc a)) ∷ []) l = absurd (two a l.1.0)
known_kept ((suc zero) ∷ zero ∷ []) l = refl
known_kept ((suc zero) ∷ (suc zero) ∷ []) l = refl
known_kept ((suc zero) ∷ (suc (suc a)) ∷ []) l = absurd (two a l.1.0)
known_kept ((suc (suc c)) ∷ a ∷ []) l = absurd (two c l.0)

-- c is 0, and a is poison
refuted : HoldsAtAllWidths choice_as_and → ⊥
unfolding wrapped
refuted holds = true≢false (sym (holds (kind.Int 1 ∷ []) refl (refl, tt) (Some (kind.Int 1, 0) ∷ None ∷ []) ((refl, below), tt, (tt, tt, tt))))
  where
    below : 0 < 2
    below = omega arith

pub poison_refutes : PoisonRefutes
poison_refutes = (record { wellformed = refl; buildable = refl; named = refl }, refl, known_kept, refuted)
