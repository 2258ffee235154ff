-- What a machine does with letters, one after another.
use Rattle.std.specs.Prelude.{◌≡◌, ◌<◌, ℕ, List, [], ◌∷◌, Bool, true, false, Some, length, slice_get}
use Rattle.width_claims.specs.declared.transition.Transition.{Transition}
use Rattle.width_claims.specs.declared.verdict.Verdict.{Verdict}
use Rattle.width_claims.specs.declared.verdict.Verdict.TheVariants as verdict

-- the state that letters lead to from one
abbrev pub reached : (ℕ → ℕ → ℕ) → ℕ → List ℕ → ℕ
reached after s [] = s
reached after s (x ∷ xs) = reached after (after s x) xs

-- letters of so many
abbrev pub AreLetters : ℕ → List ℕ → Type 0
AreLetters n [] = Unit {0}
AreLetters n (x ∷ xs) = (x < n) × AreLetters n xs

-- each state that one letter or more lead to is accepted
abbrev pub AcceptsAll : (ℕ → ℕ → ℕ) → (ℕ → Bool) → ℕ → ℕ → Type 0
AcceptsAll after accepts n start = (x : ℕ) (xs : List ℕ) → AreLetters n (x ∷ xs) → accepts (reached after start (x ∷ xs)) ≡ true

-- the state after each shorter word that isn't empty is accepted
abbrev pub IsShortest : (ℕ → ℕ → ℕ) → (ℕ → Bool) → ℕ → ℕ → List ℕ → Type 0
IsShortest after accepts n start word =
    (x : ℕ) (xs : List ℕ) → AreLetters n (x ∷ xs) → length (x ∷ xs) < length word → accepts (reached after start (x ∷ xs)) ≡ true

-- all transitions from a state: each has a letter and its target, and each letter's target is one of theirs
abbrev pub AreTransitions : (ℕ → ℕ) → ℕ → List Transition → Type 0
AreTransitions after n ts =
    ((i : ℕ) (t : Transition) → slice_get ts i ≡ Some t → (t.letter < n) × (t.target ≡ after t.letter))
    × ((x : ℕ) → x < n → (i : ℕ) × (t : Transition) × (slice_get ts i ≡ Some t) × (t.target ≡ after x))

-- the same, if the list is said to be complete
abbrev pub AreTransitionsIf : Bool → (ℕ → ℕ) → ℕ → List Transition → Type 0
AreTransitionsIf true after n ts = AreTransitions after n ts
AreTransitionsIf false after n ts = Unit {0}

-- the verdict: all states are accepted, or the state after this word isn't, and no shorter word leads to such a state
abbrev pub IsVerdict : (ℕ → ℕ → ℕ) → (ℕ → Bool) → ℕ → ℕ → Verdict → Type 0
IsVerdict after accepts n start verdict.Always = AcceptsAll after accepts n start
IsVerdict after accepts n start (verdict.Fails word) = AreLetters n word.items × (accepts (reached after start word.items) ≡ false) × IsShortest after accepts n start word.items
IsVerdict after accepts n start verdict.TooMany = Unit {0}
