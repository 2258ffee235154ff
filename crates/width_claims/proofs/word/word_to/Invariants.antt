use Rattle.std.proofs.Common.{◌≡◌, ◌<◌, ◌+◌, suc, ℕ, List, Some, length, reverse, slice_get}
use Rattle.width_claims.specs.Runs.{reached, AreLetters}
use Rattle.width_claims.specs.Walks.{AreDepths, AreOrigins, depth}
use Rattle.width_claims.proofs.word.word_to.Given as goal

abbrev pub invariant-places : goal.invariant-places
invariant-places l =
    (l.at < length l.fn.origins)
    × ((after : ℕ → ℕ → ℕ) (n : ℕ) (states : List ℕ) (s : ℕ) → AreOrigins after n states l.fn.origins → slice_get states l.fn.place ≡ Some s → l.fn.letter < n
    → (t : ℕ) × (slice_get states l.at ≡ Some t) × AreLetters n (reverse l.word.items) × (reached after t (reverse l.word.items) ≡ after s l.fn.letter)
    × ((ds : List ℕ) → AreDepths ds l.fn.origins → length (reverse l.word.items) + depth ds l.at ≡ suc (depth ds l.fn.place)))

abbrev pub decreases-places : goal.decreases-places
decreases-places l = l.at
