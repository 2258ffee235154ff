use Rattle.std.proofs.Common.{◌≡◌, ℕ, ◌≤◌, ◌+◌, ◌-◌, length, max}
use Rattle.std.specs.Prelude.{slice_index}
use Rattle.listeners_support.proofs.bits.extend.Given as goal

abbrev pub invariant-words : goal.invariant-words
invariant-words l =
    (length l.initial.words.items ≤ length l.words.items) × (length l.words.items ≤ max (length l.initial.words.items) (l.word + 1)) × ((w : ℕ) → slice_index l.words.items w ≡ slice_index l.initial.words.items w)

abbrev pub decreases-words : goal.decreases-words
decreases-words l = (l.word + 1) - length l.words.items
