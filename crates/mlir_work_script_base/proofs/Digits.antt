-- Proofs about reading digits from the left.
use Rattle.std.proofs.Common.{◌≡◌, ℕ, ◌+◌, ◌-◌, ◌*◌, ◌^◌, ◌<◌, ◌≤◌, List, [], ◌∷◌, true, false, None, refl, sym, ◌∙◌, arith}
use Rattle.std.specs.Prelude.{nat_lt}
use Rattle.std.specs.Str.{all_ascii_digits}
use Rattle.std.specs.Char.{is_ascii_digit}
use Rattle.mlir_work_script_base.specs.Numbers.{value_after, number_after}
use Rattle.std.proofs.lemmas.Bool.{and_right, le-ltb}

-- more digits make no number smaller
pub value_grows : (n : ℕ) (ds : List ℕ) → n ≤ value_after n ds
value_grows n [] = omega arith
value_grows n (d ∷ ds) = let ih = value_grows (n * 10 + (d - 48)) ds in omega arith

-- a number that overflows stays too large
pub too_great : (n : ℕ) (ds : List ℕ) → 2 ^ 32 ≤ n → number_after n ds ≡ None
too_great n ds h =
    let e : nat_lt (value_after n ds) (2 ^ 32) ≡ false = le-ltb _ _ (let g = value_grows n ds in omega arith) in
    rw (and_right (all_ascii_digits ds) (nat_lt (value_after n ds) (2 ^ 32)) e) refl

-- a byte that isn't a digit makes the number malformed
pub no_digit : (n d : ℕ) (ds : List ℕ) → is_ascii_digit d ≡ false → number_after n (d ∷ ds) ≡ None
no_digit n d ds e = rw e refl

-- a digit is appended to the number so far
pub next_digit : (n d : ℕ) (ds : List ℕ) → is_ascii_digit d ≡ true → number_after n (d ∷ ds) ≡ number_after (n * 10 + (d - 48)) ds
next_digit n d ds e = rw e refl

-- a digit that makes the number overflow
pub too_great_next : (n d : ℕ) (ds : List ℕ) → is_ascii_digit d ≡ true → (n * 10 + (d - 48) < 2 ^ 32 → ⊥) → None ≡ number_after n (d ∷ ds)
too_great_next n d ds e h = sym (next_digit n d ds e ∙ too_great (n * 10 + (d - 48)) ds (omega arith))
