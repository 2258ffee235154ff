-- The property that a check tests at given widths. For all values to which the pattern may be applied and at which
-- the old steps are defined, the new steps are defined, and give the same value if the old steps give a value.
use Rattle.std.specs.Prelude.{◌≡◌, ◌^◌, ◌<◌, ◌≤◌, sum, ℕ, ◌==◌, List, [], ◌∷◌, ◌++◌, Bool, true, false, ◌&&◌, if◌then◌else◌, nat_le, Option, Some, None, map, slice_get, is_none}
use Rattle.ir_types.specs.declared.bits.BitsKind.{BitsKind}
use Rattle.ir_types.specs.Bits.{bits_of, width_of}
use Rattle.dialects_int.specs.Folds.{Known, same_kind}
use Rattle.user_patterns_check.specs.Cases.{AreBelow, first_failing}
use Rattle.user_patterns_check.specs.Contents.{Content}
use Rattle.user_patterns_check.specs.Outcomes.{Outcome, given, run}

-- the values with their kinds, appended to the environment, if each is in range of its kind
abbrev pub bound : List BitsKind → List ℕ → List Outcome → Option (List Outcome)
bound [] [] env = Some env
bound [] (v ∷ vs) env = None
bound (k ∷ ks) [] env = None
bound (k ∷ ks) (v ∷ vs) env = given (bits_of k v) (λ b. bound ks vs (env ++ (Some b ∷ [])))

-- the contract of a function that updates the environment in place and returns whether it succeeded
abbrev pub Stands : Option (List Outcome) → List Outcome → Bool → Type 0
Stands None new done = done ≡ false
Stands (Some env) new done = (done ≡ true) × (new ≡ env)

abbrev pub same_known : Known → Known → Bool
same_known x y = same_kind x.0 y.0 && (x.1 == y.1)

-- poison may become anything, a value becomes itself
abbrev pub refines : Outcome → Outcome → Bool
refines None y = true
refines (Some x) None = false
refines (Some x) (Some y) = same_known x y

-- the value at a place after steps
abbrev pub shown : ℕ → Option (List Outcome) → Option Outcome
shown i None = None
shown i (Some env) = slice_get env i

-- whether the new outcome refines the old one
abbrev pub new_refines : Outcome → Option Outcome → Bool
new_refines old None = false
new_refines old (Some new) = refines old new

abbrev pub old_refined : Content → List Outcome → Option Outcome → Bool
old_refined s env None = true
old_refined s env (Some old) = new_refines old (shown s.new_result (run s.new env))

abbrev pub old_ran : Content → Option (List Outcome) → Bool
old_ran s None = true
old_ran s (Some env) = old_refined s env (slice_get env s.old_result)

-- the environment after the old steps, for values of the variables
abbrev pub old_steps : Content → List ℕ → List Outcome → Option (List Outcome)
old_steps s values env = if s.applies then given (given (bound s.value_types values env) (run s.given)) (run s.old) else None

-- whether the new side refines the old side at these values; this is true if the pattern may not be applied or the
-- old steps are undefined
abbrev pub keeps : Content → List ℕ → Bool
keeps s values = old_ran s (old_steps s values [])

-- whether the pattern may not be applied to these values, or the old steps are undefined
abbrev pub old_is_vacuous : Content → Option (List Outcome) → Bool
old_is_vacuous s None = true
old_is_vacuous s (Some env) = is_none (slice_get env s.old_result)

abbrev pub is_undefined : Content → List ℕ → Bool
is_undefined s values = old_is_vacuous s (old_steps s values [])

-- the number of values of each variable, and the bits of all variables together
abbrev pub counts : Content → List ℕ
counts s = map (λ k. 2 ^ width_of k) s.value_types

abbrev pub bits : Content → ℕ
bits s = sum (map width_of s.value_types)

-- the limit of bits that a check tests
abbrev pub most_bits : ℕ
most_bits = 24

-- the counts are returned if the values are few enough, and `None` otherwise
abbrev pub AreFew : List BitsKind → Option (List ℕ) → Type 0
AreFew ks None = most_bits < sum (map width_of ks)
AreFew ks (Some found) = (found ≡ map (λ k. 2 ^ width_of k) ks) × (sum (map width_of ks) ≤ most_bits)

abbrev pub is_few : Content → Bool
is_few s = nat_le (bits s) most_bits

-- the pattern refines at all values
abbrev pub AlwaysKeeps : Content → Type 0
AlwaysKeeps s = (values : List ℕ) → AreBelow (counts s) values → keeps s values ≡ true

-- the old side is undefined at all values
abbrev pub AlwaysUndefined : Content → Type 0
AlwaysUndefined s = (values : List ℕ) → AreBelow (counts s) values → is_undefined s values ≡ true

-- the first values at which the pattern doesn't refine, and the first at which its old side is defined; none if there
-- are too many values to test
abbrev pub first_broken : Content → Option (List ℕ)
first_broken s = if is_few s then first_failing (keeps s) (counts s) else None

abbrev pub first_defined_input : Content → Option (List ℕ)
first_defined_input s = if is_few s then first_failing (is_undefined s) (counts s) else None
