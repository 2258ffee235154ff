-- The results of steps at a width: numbers below 2^w, and truths.
use Rattle.std.specs.Prelude.{ℕ, suc, ◌+◌, ◌-◌, ◌/◌, ◌%◌, ◌^◌, ◌==◌, List, [], ◌∷◌, ◌++◌, Bool, true, false, ◌&&◌, not, nat_lt, if◌then◌else◌, bit_and, bit_or, bit_xor, get_or}
use Rattle.width_claims.specs.declared.step.Step.{Step}
use Rattle.width_claims.specs.declared.step.Step.TheVariants as step

-- the item at a place; 0 or false if there is none
abbrev pub number_at : List ℕ → ℕ → ℕ
number_at ns i = get_or ns i 0

abbrev pub truth_at : List Bool → ℕ → Bool
truth_at ts i = get_or ts i false

-- whether exactly one of two truths holds
abbrev pub differ : Bool → Bool → Bool
differ a b = if a then not b else b

-- whether a step gives a number rather than a truth
abbrev pub is_number : Step → Bool
is_number (step.Equal i j) = false
is_number (step.Less i j) = false
is_number (step.Suppose i j) = false
is_number (step.Not i) = false
is_number (step.Both i j) = false
is_number (step.Differ i j) = false
is_number _ = true

-- the number of a step
abbrev pub value_of : ℕ → List ℕ → Step → List ℕ → List Bool → ℕ
value_of w vs (step.Variable i) ns ts = number_at vs i % 2 ^ w
value_of w vs (step.Literal n) ns ts = n % 2 ^ w
value_of w vs (step.Ones v) ns ts = (2 ^ v - 1) % 2 ^ w
value_of w vs (step.Quotient i n) ns ts = number_at ns i / suc n
value_of w vs (step.And i j) ns ts = bit_and (number_at ns i) (number_at ns j)
value_of w vs (step.Or i j) ns ts = bit_or (number_at ns i) (number_at ns j)
value_of w vs (step.ExclusiveOr i j) ns ts = bit_xor (number_at ns i) (number_at ns j)
value_of w vs (step.Add i j) ns ts = (number_at ns i + number_at ns j) % 2 ^ w
value_of w vs (step.Subtract i j) ns ts = (number_at ns i + (2 ^ w - number_at ns j)) % 2 ^ w
value_of w vs (step.Select t i j) ns ts = if truth_at ts t then number_at ns i else number_at ns j
value_of w vs _ ns ts = 0

-- the truth of a step
abbrev pub truth_of : Step → List ℕ → List Bool → Bool
truth_of (step.Equal i j) ns ts = number_at ns i == number_at ns j
truth_of (step.Less i j) ns ts = nat_lt (number_at ns i) (number_at ns j)
truth_of (step.Suppose i j) ns ts = number_at ns i == number_at ns j
truth_of (step.Not i) ns ts = not (truth_at ts i)
truth_of (step.Both i j) ns ts = truth_at ts i && truth_at ts j
truth_of (step.Differ i j) ns ts = differ (truth_at ts i) (truth_at ts j)
truth_of _ ns ts = false

-- the numbers and the truths after a step
abbrev pub numbers_then : ℕ → List ℕ → Step → List ℕ → List Bool → List ℕ
numbers_then w vs s ns ts = if is_number s then ns ++ (value_of w vs s ns ts ∷ []) else ns

abbrev pub truths_then : Step → List ℕ → List Bool → List Bool
truths_then s ns ts = if is_number s then ts else ts ++ (truth_of s ns ts ∷ [])

-- all truths after all steps, at width w, for these values of the variables
abbrev pub truths : ℕ → List ℕ → List Step → List ℕ → List Bool → List Bool
truths w vs [] ns ts = ts
truths w vs (s ∷ ss) ns ts = truths w vs ss (numbers_then w vs s ns ts) (truths_then s ns ts)

-- whether the assumption of a step holds
abbrev pub supposed_of : Step → List ℕ → Bool
supposed_of (step.Suppose i j) ns = number_at ns i == number_at ns j
supposed_of _ ns = true

abbrev pub supposed : ℕ → List ℕ → List Step → List ℕ → List Bool → Bool
supposed w vs [] ns ts = true
supposed w vs (s ∷ ss) ns ts = supposed_of s ns && supposed w vs ss (numbers_then w vs s ns ts) (truths_then s ns ts)
