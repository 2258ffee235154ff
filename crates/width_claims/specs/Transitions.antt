-- Transitions from a state, found by a walk over the steps. The walk chooses a bit of the letter at each step that reads
-- one, and stops at a step that loses: all letters with these first bits lead to a lost state.
use Rattle.std.specs.Prelude.{◌≡◌, ◌<◌, ℕ, ◌+◌, ◌*◌, ◌/◌, ◌%◌, ◌^◌, List, [], ◌∷◌, ◌++◌, Bool, true, false, if◌then◌else◌}
use Rattle.width_claims.specs.declared.step.Step.{Step}
use Rattle.width_claims.specs.declared.transition.Transition.{Transition}
use Rattle.width_claims.specs.declared.walk.Branch.{Branch}
use Rattle.width_claims.specs.BitSerial.{bits_then, letters, loses, next_of, radix, reads_bit, state_count}

-- how many bits may be guessed at a step
abbrev pub guesses : Step → ℕ
guesses s = if reads_bit s then 2 else 1

-- the transition of a branch whose next bit is g
abbrev pub transition_to : Branch → ℕ → ℕ → Transition
transition_to b g target = record { letter = b.letter + b.bit * g; target = target }

-- the branch after a step that keeps d
abbrev pub branch_after : Step → ℕ → ℕ → Branch → Branch
branch_after s g d b =
    record {
      state = b.state / radix s;
      letter = b.letter + b.bit * g;
      bit = b.bit * guesses s;
      target = b.target + b.weight * d;
      weight = b.weight * radix s;
      most = b.most;
    }

-- the transitions after one guess, where `on` gives those of the steps after this one
abbrev pub step_transitions : Step → ℕ → Branch → List ℕ → (Branch → List ℕ → List Transition) → List Transition
step_transitions s g b bs on =
    if loses s (next_of s (b.state % radix s) g bs) then transition_to b g 0 ∷ []
    else on (branch_after s g (next_of s (b.state % radix s) g bs) b) (bits_then s (b.state % radix s) g bs)

abbrev pub transitions_of : List Step → Branch → List ℕ → List Transition
transitions_of [] b bs = transition_to b 0 b.target ∷ []
transitions_of (s ∷ ss) b bs =
    step_transitions s 0 b bs (transitions_of ss) ++ (if reads_bit s then step_transitions s 1 b bs (transitions_of ss) else [])

-- the letter and the target of a branch are below the weights of what comes next, and all of them are small
abbrev pub IsSmall : List Step → Branch → Type 0
IsSmall ss b = (b.target < b.weight) × (b.weight * state_count ss < 2 ^ 128) × (b.letter < b.bit) × (b.bit * letters ss < 2 ^ 32)

abbrev pub IsStepSmall : Step → ℕ → ℕ → Branch → Type 0
IsStepSmall s g d b =
    (b.letter + b.bit * g < 2 ^ 32) × (b.bit * guesses s < 2 ^ 32) × (radix s < 2 ^ 128) × (b.target + b.weight * d < 2 ^ 128) × (b.weight * radix s < 2 ^ 128)

-- what a walk has done: these transitions are appended, and the bits are as before; nothing is said if it stopped early
abbrev pub AreAppended : List Transition → List Transition → List Transition → Bool → Type 0
AreAppended more old new true = new ≡ old ++ more
AreAppended more old new false = Unit {0}

abbrev pub IsWalked : List Transition → List Transition → List Transition → List ℕ → List ℕ → Bool → Type 0
IsWalked more old new bs cs true = (new ≡ old ++ more) × (cs ≡ bs)
IsWalked more old new bs cs false = Unit {0}
