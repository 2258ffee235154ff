-- Sets of numbers as the bits of words, 64 in each.
use Rattle.std.specs.Prelude.{◌≡◌, ℕ, ◌*◌, ◌/◌, ◌%◌, ◌<◌, ◌≤◌, List, length, slice_index, eqb, Bool, true, false, if◌then◌else◌}
use Rattle.std.specs.Int.{bit_at}

-- the bit of a number
abbrev pub bit_of : List ℕ → ℕ → ℕ
bit_of words x = bit_at (slice_index words (x / 64)) (x % 64)

-- whether a number is in the set
abbrev pub has : List ℕ → ℕ → Bool
has words x = eqb (bit_of words x) 1

-- the set with x added or removed
abbrev pub has_with : ℕ → Bool → List ℕ → ℕ → Bool
has_with x there words y = if eqb x y then there else has words y

-- b is the first bit that is set in a word, from bit `from` on
abbrev pub IsFirstIn : ℕ → ℕ → ℕ → Type 0
IsFirstIn word from b = (b < 64) × (from ≤ b) × (bit_at word b ≡ 1) × ((i : ℕ) → from ≤ i → i < b → bit_at word i ≡ 0)

-- b is the first bit that is set in the words, from bit `from` on
abbrev pub IsFirst : List ℕ → ℕ → ℕ → Type 0
IsFirst words from b = (from ≤ b) × (bit_of words b ≡ 1) × ((i : ℕ) → from ≤ i → i < b → bit_of words i ≡ 0)

-- the set has no number from `from` on
abbrev pub IsNone : List ℕ → ℕ → Type 0
IsNone words from = (y : ℕ) → from ≤ y → has words y ≡ false

-- x is the first number of the set from `from` on
abbrev pub IsNext : List ℕ → ℕ → ℕ → Type 0
IsNext words from x = (from ≤ x) × (has words x ≡ true) × ((y : ℕ) → from ≤ y → y < x → has words y ≡ false)

-- each bit of `groups` says whether a word has a bit that is set, and the set's numbers fit 32 bits
pub record IsIndexed (words groups : List ℕ) : Type 0 where
  pub few : length words ≤ 67108864
  pub short : length groups ≤ 67108864
  pub headroom : length words ≤ 64 * length groups
  pub clear : (w : ℕ) → bit_of groups w ≡ 0 → slice_index words w ≡ 0
  pub set : (w : ℕ) → bit_of groups w ≡ 1 → slice_index words w ≡ 0 → ⊥
