-- A truth that the machine accepts bit by bit holds at all widths.
use Rattle.std.specs.Prelude.{◌≡◌, ◌≤◌, ℕ, List, [], true, false}
use Rattle.width_claims.specs.declared.verdict.Verdict.{Verdict}
use Rattle.width_claims.specs.declared.verdict.Verdict.TheVariants as verdict
use Rattle.width_claims.specs.Runs.{AcceptsAll, AreLetters, IsShortest, reached}
use Rattle.width_claims.specs.declared.step.Step.{Step}
use Rattle.width_claims.specs.Steps.{supposed, truth_at, truths}
use Rattle.width_claims.specs.BitSerial.{accepts, next_state, letters, start}

-- a truth of these steps holds at all widths, for all variables that satisfy the assumptions
abbrev pub IsTrueAtAllWidths : List Step → ℕ → Type 0
IsTrueAtAllWidths ss claim = (w : ℕ) → 1 ≤ w → (vs : List ℕ) → supposed w vs ss [] [] ≡ true → truth_at (truths w vs ss [] []) claim ≡ true

abbrev pub AcceptanceIsSound : Type 0
AcceptanceIsSound =
    (ss : List Step) (claim : ℕ) → AcceptsAll (next_state ss) (accepts ss claim) (letters ss) (start ss) → IsTrueAtAllWidths ss claim

-- the verdict on steps: the truth holds at all widths, or a shortest word after which it isn't accepted
abbrev pub IsDecided : List Step → ℕ → Verdict → Type 0
IsDecided ss claim verdict.Always = IsTrueAtAllWidths ss claim
IsDecided ss claim (verdict.Fails word) =
    AreLetters (letters ss) word.items × (accepts ss claim (reached (next_state ss) (start ss) word.items) ≡ false)
    × IsShortest (next_state ss) (accepts ss claim) (letters ss) (start ss) word.items
IsDecided ss claim verdict.TooMany = Unit {0}
