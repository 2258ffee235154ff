-- How large bits and states are, as the code has them.
use Rattle.std.proofs.Common.{◌≡◌, ◌∙◌, ℕ, zero, suc, ◌+◌, ◌-◌, ◌*◌, ◌/◌, ◌%◌, ◌<◌, ◌≤◌, ◌++◌, ◌&&◌, min, max, List, [], ◌∷◌, length, take, drop, get_or, Bool, true, false, if◌then◌else◌, sym, ap, subst, arith}
use Rattle.std.proofs.lemmas.Bool.Decides.{nat_tests}
use Rattle.std.proofs.lemmas.List.{take_all}
use Rattle.std.proofs.Math.Nat.{le-mul_of_pos_right, mod-lt, mul-le-mul, mul-le-mul_left}
use Rattle.width_claims.specs.declared.verdict.Verdict.{Verdict}
use Rattle.width_claims.specs.declared.verdict.Verdict.TheVariants as verdict
use Rattle.width_claims.specs.Runs.{IsVerdict}
use Rattle.width_claims.specs.declared.step.Step.{Step}
use Rattle.width_claims.specs.declared.step.Step.TheVariants as step
use Rattle.width_claims.specs.Steps.{is_number, number_at}
use Rattle.width_claims.specs.BitSerial.{AreBits, accepts, agrees, all_agree, first_digit, next_state, bit_of, bits_then, Ended, less_still, letters, next_of, radix, state_count, same_still, start, end_truths, end_truths_then}
use Rattle.width_claims.specs.AllWidths.{IsDecided}
use Rattle.width_claims.proofs.Quotients.{next_below, quotient_below, quotient_some}
use Rattle.width_claims.proofs.Law.{accepted_at_all_widths}

pub uncons : {X : Type 0} (xs : List X) (d : X) → 1 ≤ length xs → xs ≡ get_or xs 0 d ∷ take (length xs - 1) (drop 1 xs)
uncons [] d l = absurd (omega (arith, l))
uncons (x ∷ xs) d l = (λ i. x ∷ sym (take_all (length (x ∷ xs) - 1) xs (omega arith)) i)

pub tail_shorter : {X : Type 0} (xs : List X) → 1 ≤ length xs → length (take (length xs - 1) (drop 1 xs)) < length xs
tail_shorter [] l = absurd (omega (arith, l))
tail_shorter (x ∷ xs) l = let h = ap length (uncons (x ∷ xs) x l) in omega (arith, h)

-- ---- rooms

pub radix_some : (s : Step) → 0 < radix s
radix_some (step.Literal n) = omega arith
radix_some (step.Ones w) = omega arith
radix_some (step.Quotient i n) = quotient_some n
radix_some (step.Add i j) = omega arith
radix_some (step.Subtract i j) = omega arith
radix_some (step.Select t i j) = omega arith
radix_some (step.Equal i j) = omega arith
radix_some (step.Less i j) = omega arith
radix_some (step.Suppose i j) = omega arith
radix_some _ = omega arith

pub state_count_some : (ss : List Step) → 0 < state_count ss
state_count_some [] = omega arith
state_count_some (s ∷ ss) =
    let h = le-mul_of_pos_right (radix s) (state_count_some ss) in
    let l = radix_some s in
    omega (arith, h, l)

pub state_count_parts : (ss tail : List Step) (s : Step) (m : ℕ) → ss ≡ s ∷ tail → state_count ss < m → (radix s < m) × (state_count tail < m)
state_count_parts ss tail s m e l =
    let h = le-mul_of_pos_right (radix s) (state_count_some tail) in
    let i : 1 * state_count tail ≤ radix s * state_count tail = mul-le-mul {n₁ = 1} {m₁ = state_count tail} {n₂ = radix s} {m₂ = state_count tail} (radix_some s) (omega arith) in
    let r : state_count ss ≡ radix s * state_count tail = ap state_count e in
    (omega (arith, h, r, l), omega (arith, i, r, l))

-- a digit and what is above it
pub digits_below : (c r p q : ℕ) → c < r → p < q → c + r * p < r * q
digits_below c r p q l h =
    let i : r * suc p ≤ r * q = mul-le-mul_left r h in
    let e : r * suc p ≡ r * p + r = omega arith in
    omega (arith, i, e, l)

begins_small : (s : Step) → first_digit s < radix s
begins_small (step.Literal n) = omega arith
begins_small (step.Ones w) = omega arith
begins_small (step.Quotient i n) = quotient_below n 0 0 (n + 1) (omega arith) (omega arith) (omega arith)
begins_small (step.Select t i j) = omega arith
begins_small (step.Equal i j) = omega arith
begins_small (step.Suppose i j) = omega arith
begins_small (step.Add i j) = omega arith
begins_small (step.Subtract i j) = omega arith
begins_small (step.Less i j) = omega arith
begins_small _ = omega arith

pub start_small : (ss tail : List Step) (s : Step) (b r rest : ℕ) → ss ≡ s ∷ tail → b ≡ first_digit s → r ≡ radix s → rest < state_count tail → b + r * rest < state_count ss
start_small ss tail s b r rest e i j l =
    let h = digits_below (first_digit s) (radix s) rest (state_count tail) (begins_small s) l in
    let k : b + r * rest ≡ first_digit s + radix s * rest = (λ t. i t + j t * rest) in
    let state_count_is : state_count ss ≡ radix s * state_count tail = ap state_count e in
    omega (arith, h, k, state_count_is)

-- ---- bits

same_small : (c p q : ℕ) → c < 2 → same_still c p q < 2
same_small c p q l = grind (arith, nat_tests)

less_small : (c p q : ℕ) → c < 2 → q < 2 → less_still c p q < 2
less_small c p q l h = grind (arith, nat_tests)

min_small : (p q : ℕ) → p < 2 → min p q < 2
min_small p q l = omega (arith, l)

max_small : (p q : ℕ) → p < 2 → q < 2 → max p q < 2
max_small p q l h = omega (arith, l, h)

bit_small : (s : Step) (c g : ℕ) (bs : List ℕ) → AreBits bs → g < 2 → bit_of s c g bs < 2
bit_small (step.Variable i) c g bs are l = l
bit_small (step.Literal n) c g bs are l = omega arith
bit_small (step.Ones w) c g bs are l = omega arith
bit_small (step.Quotient i n) c g bs are l = l
bit_small (step.And i j) c g bs are l = min_small (number_at bs i) (number_at bs j) (are i)
bit_small (step.Or i j) c g bs are l = max_small (number_at bs i) (number_at bs j) (are i) (are j)
bit_small (step.ExclusiveOr i j) c g bs are l = omega arith
bit_small (step.Add i j) c g bs are l = omega arith
bit_small (step.Subtract i j) c g bs are l = omega arith
bit_small (step.Select t i j) c g bs are l = l
bit_small _ c g bs are l = omega arith

pub next_small : (s : Step) (c g : ℕ) (bs : List ℕ) → AreBits bs → g < 2 → c < radix s → next_of s c g bs < radix s
next_small (step.Literal n) c g bs are h l = omega (arith, l)
next_small (step.Ones w) c g bs are h l = omega (arith, l)
next_small (step.Quotient i n) c g bs are h l = next_below n c g (number_at bs i) l h
next_small (step.Add i j) c g bs are h l = let x = are i in let y = are j in omega (arith, l, x, y)
next_small (step.Subtract i j) c g bs are h l = less_small c (number_at bs i) (number_at bs j) l (are j)
next_small (step.Select t i j) c g bs are h l =
    let x = same_small (c % 2) g (number_at bs i) (omega arith) in
    let y = same_small (c / 2) g (number_at bs j) (omega (arith, l)) in
    omega (arith, x, y)
next_small (step.Equal i j) c g bs are h l = same_small c (number_at bs i) (number_at bs j) l
next_small (step.Less i j) c g bs are h l = less_small c (number_at bs i) (number_at bs j) l (are j)
next_small (step.Suppose i j) c g bs are h l = same_small c (number_at bs i) (number_at bs j) l
next_small _ c g bs are h l = omega arith

bits_after : (bs : List ℕ) (b : ℕ) → AreBits bs → b < 2 → AreBits (bs ++ b ∷ [])
bits_after [] b are l zero = l
bits_after [] b are l (suc i) = omega arith
bits_after (c ∷ bs) b are l zero = are 0
bits_after (c ∷ bs) b are l (suc i) = bits_after bs b (λ j. are (suc j)) l i

pub bits_more : (s : Step) (c g : ℕ) (bs : List ℕ) → AreBits bs → g < 2 → AreBits (bits_then s c g bs)
bits_more s c g bs are l = go (is_number s)
  where
    go : (b : Bool) → AreBits (if b then bs ++ (bit_of s c g bs ∷ []) else bs)
    go true = bits_after bs (bit_of s c g bs) are (bit_small s c g bs are l)
    go false = are

pub kept_small : (s : Step) (n r : ℕ) → r ≡ radix s → n % r < radix s
kept_small s n r e = subst (λ (q : ℕ). n % q < radix s) (sym e) (mod-lt n (radix_some s))

-- ---- all steps

pub end_all : (ss tail : List Step) (s : Step) (n c m : ℕ) (ts us new : List Bool) (here rest : Bool) → ss ≡ s ∷ tail → c ≡ n % radix s → m ≡ n / radix s → here ≡ agrees s c ts → us ≡ end_truths_then s c ts
    → Ended tail m us new rest → Ended ss n ts new (here && rest)
end_all ss tail s n c m ts us new here rest e digit digits is pushed more = (
  more.0 ∙ (λ t. end_truths tail (digits t) (pushed t)) ∙ (λ t. end_truths tail (n / radix s) (end_truths_then s (digit t) ts)) ∙ ap (λ vs. end_truths vs n ts) (sym e),
  (λ t. is t && more.1 t) ∙ (λ t. agrees s (digit t) ts && all_agree tail (digits t) (pushed t)) ∙ (λ t. agrees s (n % radix s) ts && all_agree tail (n / radix s) (end_truths_then s (digit t) ts))
      ∙ ap (λ vs. all_agree vs n ts) (sym e),
)

-- ---- what is decided

pub all_widths : (ss : List Step) (claim first : ℕ) (v : Verdict) → first ≡ start ss → IsVerdict (next_state ss) (accepts ss claim) (letters ss) first v → IsDecided ss claim v
all_widths ss claim first v begin is = turned v (subst (λ (b : ℕ). IsVerdict (next_state ss) (accepts ss claim) (letters ss) b v) begin is)
  where
    turned : (u : Verdict) → IsVerdict (next_state ss) (accepts ss claim) (letters ss) (start ss) u → IsDecided ss claim u
    turned verdict.Always all = accepted_at_all_widths ss claim all
    turned (verdict.Fails word) fails = fails
    turned verdict.TooMany none = tt
