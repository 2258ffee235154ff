-- The count of reads.
use Rattle.std.specs.Prelude.{ℕ, ◌+◌, ◌-◌, ◌^◌, min}

-- n more reads; the count saturates
abbrev pub more_looks : ℕ → ℕ → ℕ
more_looks n looks = min (looks + n) (2 ^ 64 - 1)

-- one more read
abbrev pub one_more : ℕ → ℕ
one_more looks = min (looks + 1) (2 ^ 64 - 1)
