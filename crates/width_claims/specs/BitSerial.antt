-- Steps, bit by bit from the lowest. Each step keeps one small number from bit to bit. The numbers of all steps form
-- the state, which has a digit for each step. The bits of a letter are those of the variables and of the selected
-- values. The latter are guesses, and the end shows whether they were right.
use Rattle.std.specs.Prelude.{◌≡◌, ◌<◌, ℕ, ◌+◌, ◌-◌, ◌*◌, ◌/◌, ◌%◌, ◌==◌, nat_lt, min, max, List, [], ◌∷◌, ◌++◌, Bool, true, false, ◌&&◌, ◌||◌, not, if◌then◌else◌, Option, Some, None}
use Rattle.width_claims.specs.declared.step.Step.{Step}
use Rattle.width_claims.specs.declared.step.Step.TheVariants as step
use Rattle.width_claims.specs.Steps.{differ, is_number, number_at, truth_at}

-- A quotient by suc n keeps three numbers: the carry of the product of quotient and divisor plus the remainder, 1 if
-- the remainder's bits so far are less than the divisor's, and the rest of the divisor.
abbrev pub quotient_kept : ℕ → ℕ → ℕ → ℕ → ℕ
quotient_kept n carry less rest = carry + (n + 2) * (less + 2 * rest)

abbrev pub kept_carry : ℕ → ℕ → ℕ
kept_carry n c = c % (n + 2)

abbrev pub kept_less : ℕ → ℕ → ℕ
kept_less n c = c / (n + 2) % 2

abbrev pub kept_rest : ℕ → ℕ → ℕ
kept_rest n c = c / (n + 2) / 2

abbrev pub quotient_radix : ℕ → ℕ
quotient_radix n = (n + 2) * (2 * (n + 2))

-- the number of values that a step may keep, and the first of them
abbrev pub radix : Step → ℕ
radix (step.Literal n) = n + 1
radix (step.Ones w) = w + 1
radix (step.Quotient i n) = quotient_radix n
radix (step.Add i j) = 2
radix (step.Subtract i j) = 2
radix (step.Select t i j) = 4
radix (step.Equal i j) = 2
radix (step.Less i j) = 2
radix (step.Suppose i j) = 2
radix _ = 1

abbrev pub first_digit : Step → ℕ
first_digit (step.Literal n) = n
first_digit (step.Ones w) = w
first_digit (step.Quotient i n) = quotient_kept n 0 0 (n + 1)
first_digit (step.Select t i j) = 3
first_digit (step.Equal i j) = 1
first_digit (step.Suppose i j) = 1
first_digit _ = 0

-- the number of possible states
abbrev pub state_count : List Step → ℕ
state_count [] = 1
state_count (s ∷ ss) = radix s * state_count ss

-- the state before the first bit
abbrev pub start : List Step → ℕ
start [] = 0
start (s ∷ ss) = first_digit s + radix s * start ss

-- whether a step's bit is one of the letter's
abbrev pub reads_bit : Step → Bool
reads_bit (step.Variable i) = true
reads_bit (step.Quotient i n) = true
reads_bit (step.Select t i j) = true
reads_bit _ = false

-- the number of letters
abbrev pub letters : List Step → ℕ
letters [] = 1
letters (s ∷ ss) = if reads_bit s then 2 * letters ss else letters ss

-- the bit of a step, given the value that it keeps, the guessed bit, and the bits of the steps before
abbrev pub bit_of : Step → ℕ → ℕ → List ℕ → ℕ
bit_of (step.Variable i) c g bs = g
bit_of (step.Literal n) c g bs = c % 2
bit_of (step.Ones w) c g bs = min c 1
bit_of (step.Quotient i n) c g bs = g
bit_of (step.And i j) c g bs = min (number_at bs i) (number_at bs j)
bit_of (step.Or i j) c g bs = max (number_at bs i) (number_at bs j)
bit_of (step.ExclusiveOr i j) c g bs = (number_at bs i + number_at bs j) % 2
bit_of (step.Add i j) c g bs = (number_at bs i + number_at bs j + c) % 2
bit_of (step.Subtract i j) c g bs = (number_at bs i + number_at bs j + c) % 2
bit_of (step.Select t i j) c g bs = g
bit_of _ c g bs = 0

-- bits: each number is 0 or 1
abbrev pub AreBits : List ℕ → Type 0
AreBits bs = (i : ℕ) → number_at bs i < 2

-- 1 if two bits are equal and all bits before them were
abbrev pub same_still : ℕ → ℕ → ℕ → ℕ
same_still c p q = if p == q then c else 0

-- 1 if the second bit is greater, or they are equal and the bits before said so
abbrev pub less_still : ℕ → ℕ → ℕ → ℕ
less_still c p q = if p == q then c else q

-- what a quotient keeps for the next bit, given the sum of the carry and of the divisor if its own bit is 1, the
-- remainder's bit, and the rest of the divisor
abbrev pub quotient_next : ℕ → ℕ → ℕ → ℕ → ℕ → ℕ
quotient_next n less sum r rest = quotient_kept n ((sum + r) / 2) (less_still less r (rest % 2)) (rest / 2)

-- the remainder's bit is such that it and the sum give the dividend's bit x
abbrev pub next_quotient : ℕ → ℕ → ℕ → ℕ → ℕ
next_quotient n c g x =
    quotient_next n (kept_less n c) (g * (n + 1) + kept_carry n c) ((x + (g * (n + 1) + kept_carry n c)) % 2) (kept_rest n c)

-- the value that a step keeps for the next bit
abbrev pub next_of : Step → ℕ → ℕ → List ℕ → ℕ
next_of (step.Literal n) c g bs = c / 2
next_of (step.Ones w) c g bs = c - 1
next_of (step.Quotient i n) c g bs = next_quotient n c g (number_at bs i)
next_of (step.Add i j) c g bs = (number_at bs i + number_at bs j + c) / 2
next_of (step.Subtract i j) c g bs = less_still c (number_at bs i) (number_at bs j)
next_of (step.Select t i j) c g bs = same_still (c % 2) g (number_at bs i) + 2 * same_still (c / 2) g (number_at bs j)
next_of (step.Equal i j) c g bs = same_still c (number_at bs i) (number_at bs j)
next_of (step.Suppose i j) c g bs = same_still c (number_at bs i) (number_at bs j)
next_of (step.Less i j) c g bs = less_still c (number_at bs i) (number_at bs j)
next_of _ c g bs = 0

abbrev pub bits_then : Step → ℕ → ℕ → List ℕ → List ℕ
bits_then s c g bs = if is_number s then bs ++ (bit_of s c g bs ∷ []) else bs

abbrev pub letter_then : Step → ℕ → ℕ
letter_then s x = if reads_bit s then x / 2 else x

-- the state after a letter
abbrev pub after : List Step → ℕ → ℕ → List ℕ → ℕ
after [] n x bs = 0
after (s ∷ ss) n x bs =
    next_of s (n % radix s) (x % 2) bs + radix s * after ss (n / radix s) (letter_then s x) (bits_then s (n % radix s) (x % 2) bs)

-- the remainder is at least the divisor, whatever its next bits are: its bits aren't less, and no divisor is left
abbrev pub is_too_great : ℕ → ℕ → Bool
is_too_great n c = nat_lt c (n + 2)

-- nothing is carried, and the remainder is less than the divisor
abbrev pub is_quotient : ℕ → ℕ → Bool
is_quotient n c = (kept_carry n c == 0) && not (is_too_great n c)

-- a state in which a guess or an assumption has failed for good; one such state represents all of them
abbrev pub loses : Step → ℕ → Bool
loses (step.Quotient i n) c = is_too_great n c
loses (step.Select t i j) c = c == 0
loses (step.Suppose i j) c = c == 0
loses _ c = false

abbrev pub is_lost : List Step → ℕ → Bool
is_lost [] n = false
is_lost (s ∷ ss) n = loses s (n % radix s) || is_lost ss (n / radix s)

abbrev pub kept_on : List Step → ℕ → ℕ
kept_on ss n = if is_lost ss n then 0 else n

abbrev pub next_state : List Step → ℕ → ℕ → ℕ
next_state ss n x = kept_on ss (after ss n x [])

-- ---- at the end

-- a truth
abbrev pub end_truth : Step → ℕ → List Bool → Bool
end_truth (step.Equal i j) c ts = c == 1
end_truth (step.Less i j) c ts = c == 1
end_truth (step.Suppose i j) c ts = c == 1
end_truth (step.Not i) c ts = not (truth_at ts i)
end_truth (step.Both i j) c ts = truth_at ts i && truth_at ts j
end_truth (step.Differ i j) c ts = differ (truth_at ts i) (truth_at ts j)
end_truth _ c ts = false

abbrev pub end_truths_then : Step → ℕ → List Bool → List Bool
end_truths_then s c ts = if is_number s then ts else ts ++ (end_truth s c ts ∷ [])

abbrev pub end_truths : List Step → ℕ → List Bool → List Bool
end_truths [] n ts = ts
end_truths (s ∷ ss) n ts = end_truths ss (n / radix s) (end_truths_then s (n % radix s) ts)

-- whether a guess is the selected bit, and an assumption holds
abbrev pub agrees : Step → ℕ → List Bool → Bool
agrees (step.Select t i j) c ts = if truth_at ts t then c % 2 == 1 else c / 2 == 1
agrees (step.Suppose i j) c ts = c == 1
agrees (step.Quotient i n) c ts = is_quotient n c
agrees _ c ts = true

abbrev pub all_agree : List Step → ℕ → List Bool → Bool
all_agree [] n ts = true
all_agree (s ∷ ss) n ts = agrees s (n % radix s) ts && all_agree ss (n / radix s) (end_truths_then s (n % radix s) ts)

-- a state is accepted if a guess was wrong, an assumption fails, or the claimed truth holds
abbrev pub accepts : List Step → ℕ → ℕ → Bool
accepts ss claim n = not (all_agree ss n []) || truth_at (end_truths ss n []) claim

-- the truths after the last bit, and whether all guesses and assumptions hold
abbrev pub Ended : List Step → ℕ → List Bool → List Bool → Bool → Type 0
Ended ss n ts us agreed = (us ≡ end_truths ss n ts) × (agreed ≡ all_agree ss n ts)

-- the number of letters, or of states, if it is small enough
abbrev pub IsCount : ℕ → ℕ → Option ℕ → Type 0
IsCount n most None = Unit {0}
IsCount n most (Some m) = m ≡ n
