use Rattle.std.proofs.Common.{◌≡◌, ℕ, ◌≤◌, ◌<◌, ◌/◌, ◌-◌, length}
use Rattle.listeners_support.specs.Bits.{bit_of}
use Rattle.listeners_support.proofs.bits.first_from.Given as goal

abbrev pub invariant-words : goal.invariant-words
invariant-words l = (l.word ≤ l.at) × ((i : ℕ) → l.word ≤ i / 64 → i / 64 < l.at → bit_of l.words i ≡ 0)

abbrev pub decreases-words : goal.decreases-words
decreases-words l = length l.words - l.at
