-- Polynomials in the values at a pattern's places, with coefficients modulo 2^128. Equality modulo 2^128 implies
-- equality modulo 2^w for each width from 1 to 128.
use Rattle.std.specs.Prelude.{ℕ, ◌+◌, ◌-◌, ◌*◌, ◌%◌, ◌^◌, ◌==◌, List, [], ◌∷◌, ◌++◌, map, length, nat_le, Bool, true, false, ◌&&◌, if◌then◌else◌, Option, Some, None}
use Rattle.std.specs.List.{list_all}

-- a term: its coefficient, and the places of its factors in ascending order, with repetitions
abbrev pub Term : Type 0
Term = ℕ × List ℕ

-- the sum of its terms; several terms may have the same factors
abbrev pub Polynomial : Type 0
Polynomial = List Term

-- a coefficient modulo 2^128
abbrev pub coefficient : ℕ → ℕ
coefficient c = c % 2 ^ 128

-- the places with i inserted, in order
abbrev pub inserted : ℕ → List ℕ → List ℕ
inserted i [] = i ∷ []
inserted i (j ∷ js) = if nat_le i j then i ∷ j ∷ js else j ∷ inserted i js

-- the factors of the product of two terms
abbrev pub joined : List ℕ → List ℕ → List ℕ
joined [] js = js
joined (i ∷ is) js = inserted i (joined is js)

-- ---- polynomials

-- a number, and the value at a place
abbrev pub number : ℕ → Polynomial
number c = (coefficient c, []) ∷ []

abbrev pub value_at : ℕ → Polynomial
value_at i = (1, i ∷ []) ∷ []

-- the number of a literal modulo 2^128
abbrev pub literal_coefficient : Bool → ℕ → ℕ
literal_coefficient negative magnitude = if negative then coefficient (2 ^ 128 - coefficient magnitude) else coefficient magnitude

-- ---- operations on polynomials

abbrev pub term_times : Term → Term → Term
term_times s t = (coefficient (s.0 * t.0), joined s.1 t.1)

abbrev pub times_all : Term → Polynomial → Polynomial
times_all s [] = []
times_all s (t ∷ ts) = term_times s t ∷ times_all s ts

abbrev pub product : Polynomial → Polynomial → Polynomial
product [] q = []
product (s ∷ p) q = times_all s q ++ product p q

abbrev pub negated_term : Term → Term
negated_term t = (coefficient (2 ^ 128 - t.0), t.1)

abbrev pub negated : Polynomial → Polynomial
negated p = map negated_term p

-- ---- equality

abbrev pub same_places : List ℕ → List ℕ → Bool
same_places [] [] = true
same_places (i ∷ is) (j ∷ js) = (i == j) && same_places is js
same_places _ _ = false

-- the coefficient of a product of factors: the sum over all terms with these factors
abbrev pub coefficient_of : List ℕ → Polynomial → ℕ
coefficient_of places [] = 0
coefficient_of places (t ∷ ts) = if same_places places t.1 then coefficient (t.0 + coefficient_of places ts) else coefficient_of places ts

-- all coefficients of the polynomial are 0
abbrev pub is_zero : Polynomial → Bool
is_zero p = list_all (λ (t : Term). coefficient_of t.1 p == 0) p

abbrev pub are_one : Polynomial → Polynomial → Bool
are_one p q = is_zero (p ++ negated q)

-- ---- limits

-- the limit of terms of a polynomial, and of factors of a term
abbrev pub most_terms : ℕ
most_terms = 256

abbrev pub most_factors : ℕ
most_factors = 64

abbrev pub is_low : Term → Bool
is_low t = nat_le (length t.1) most_factors

abbrev pub if_small : Polynomial → Option Polynomial
if_small p = if nat_le (length p) most_terms && list_all is_low p then Some p else None
