-- Runs of bitwise steps on known values of one kind. The results are computed from the numbers, and each bit of the
-- results is computed from the same bits of the numbers.
use Rattle.std.proofs.Common.{◌≡◌, ℕ, zero, suc, ◌^◌, ◌<◌, refl, ap, sym, ◌∙◌, subst, List, [], ◌∷◌, ◌++◌, map, Bool, true, ◌&&◌, Option, Some, None, option_map, slice_get, arith}
use Rattle.std.specs.Prelude.{if◌then◌else◌, nat_lt}
use Rattle.std.specs.Int.{bit_at}
use Rattle.std.proofs.lemmas.Bool.Decides.{nat_tests}
use Rattle.std.proofs.lemmas.List.{map-append}
use Rattle.std.proofs.lemmas.Option.{none-some, same_Some, slice_get-map}
use Rattle.ir_types.specs.declared.bits.BitsKind.{BitsKind}
use Rattle.ir_types.specs.Bits.{bits_of, width_of}
use Rattle.ir_types.specs.Reasons.{is_width}
use Rattle.dialects_int.specs.Arithmetic.{value_of}
use Rattle.dialects_int.proofs.KnownOperands.{same_itself}
use Rattle.user_patterns_check.specs.declared.step.Step.{Step}
use Rattle.user_patterns_check.specs.declared.step.Step.TheVariants as step
use Rattle.user_patterns_check.specs.Outcomes.{Outcome, given, checked, pair_outcome, run, step_of}
use Rattle.user_patterns_widths.proofs.BitValues.{BitOperation, combined, combined_below, combined_bit, combined_value, operation, uniform, uniform_below, uniform_bit}

-- ---- bitwise steps
pub data BitStep : Type 0 where
  -- the constant 0 or -1
  constant : Bool → BitStep
  pair : BitOperation → ℕ → ℕ → BitStep

-- a bitwise step on values of a kind
abbrev pub step_at : BitsKind → BitStep → Step
step_at k (constant b) = step.Constant k (uniform b (width_of k))
step_at k (pair o i j) = step.Binary (operation o) i j

-- the result of a step on numbers of w bits, by their places
abbrev pub value_made : ℕ → BitStep → List ℕ → Option ℕ
value_made w (constant b) vs = Some (uniform b w)
value_made w (pair o i j) vs = given (slice_get vs i) (λ a. given (slice_get vs j) (λ b. Some (combined o a b)))

abbrev pub values_made : ℕ → List BitStep → List ℕ → Option (List ℕ)
values_made w [] vs = Some vs
values_made w (s ∷ ss) vs = given (value_made w s vs) (λ v. values_made w ss (vs ++ (v ∷ [])))

-- ---- numbers as known values of a kind
abbrev pub as_known : BitsKind → ℕ → Outcome
as_known k v = Some (k, v)

abbrev pub known : BitsKind → List ℕ → List Outcome
known k vs = map (as_known k) vs

pub known_more : (k : BitsKind) (vs : List ℕ) (v : ℕ) → known k vs ++ (as_known k v ∷ []) ≡ known k (vs ++ (v ∷ []))
known_more k vs v = sym (map-append (as_known k) vs (v ∷ []))

module _ (k : BitsKind) (wide : is_width (width_of k) ≡ true) where
  pub are_bits : (n : ℕ) → n < 2 ^ width_of k → bits_of k n ≡ Some (k, n)
  are_bits n l = ap (λ b. if b && nat_lt n (2 ^ width_of k) then Some (k, n) else None) wide ∙ ap (λ b. if b then Some (k, n) else None) (by_test n (2 ^ width_of k) l)
    where
      by_test : (n m : ℕ) → n < m → nat_lt n m ≡ true
      by_test n m l = grind (arith, nat_tests)

  pair_known : (o : BitOperation) (a b : ℕ) → pair_outcome (operation o) (as_known k a) (as_known k b) ≡ Some (as_known k (combined o a b))
  pair_known o a b =
      ap (λ c. if c then checked (operation o) k b (value_of (operation o) (width_of k) a b) else None) (same_itself k)
      ∙ ap (checked (operation o) k b) (combined_value o (width_of k) a b)

  pair_made : (o : BitOperation) (x y : Option ℕ)
      → given (option_map (as_known k) x) (λ p. given (option_map (as_known k) y) (λ q. pair_outcome (operation o) p q)) ≡ option_map (as_known k) (given x (λ a. given y (λ b. Some (combined o a b))))
  pair_made o None y = refl
  pair_made o (Some a) None = refl
  pair_made o (Some a) (Some b) = pair_known o a b

  step_made : (s : BitStep) (vs : List ℕ) → step_of (step_at k s) (known k vs) ≡ option_map (as_known k) (value_made (width_of k) s vs)
  step_made (constant b) vs = ap (λ o. given o (λ z. Some (Some z))) (are_bits (uniform b (width_of k)) (uniform_below b (width_of k)))
  step_made (pair o i j) vs =
      ap (λ x. given x (λ p. given (slice_get (known k vs) j) (λ q. pair_outcome (operation o) p q))) (slice_get-map (as_known k) vs i)
      ∙ ap (λ y. given (option_map (as_known k) (slice_get vs i)) (λ p. given y (λ q. pair_outcome (operation o) p q))) (slice_get-map (as_known k) vs j)
      ∙ pair_made o (slice_get vs i) (slice_get vs j)

  -- a run on known values
  pub run_made : (ss : List BitStep) (vs : List ℕ) → run (map (step_at k) ss) (known k vs) ≡ option_map (known k) (values_made (width_of k) ss vs)
  run_made [] vs = refl
  run_made (s ∷ ss) vs =
      ap (λ o. given o (λ v. run (map (step_at k) ss) (known k vs ++ (v ∷ [])))) (step_made s vs)
      ∙ on (λ us. run_made ss us) (value_made (width_of k) s vs)
    where
      on : ((us : List ℕ) → run (map (step_at k) ss) (known k us) ≡ option_map (known k) (values_made (width_of k) ss us))
          → (o : Option ℕ)
          → given (option_map (as_known k) o) (λ v. run (map (step_at k) ss) (known k vs ++ (v ∷ []))) ≡ option_map (known k) (given o (λ v. values_made (width_of k) ss (vs ++ (v ∷ []))))
      on ih None = refl
      on ih (Some v) = ap (run (map (step_at k) ss)) (known_more k vs v) ∙ ih (vs ++ (v ∷ []))

-- ---- one bit
abbrev pub bit : ℕ → ℕ → ℕ
bit i v = bit_at v i

abbrev pub bits : ℕ → List ℕ → List ℕ
bits i vs = map (bit i) vs

module _ (w i : ℕ) (below : i < w) where
  pair_bit : (o : BitOperation) (x y : Option ℕ)
      → given (option_map (bit i) x) (λ a. given (option_map (bit i) y) (λ b. Some (combined o a b))) ≡ option_map (bit i) (given x (λ a. given y (λ b. Some (combined o a b))))
  pair_bit o None y = refl
  pair_bit o (Some a) None = refl
  pair_bit o (Some a) (Some b) = ap Some (sym (combined_bit o a b i))

  value_bit : (s : BitStep) (vs : List ℕ) → value_made 1 s (bits i vs) ≡ option_map (bit i) (value_made w s vs)
  value_bit (constant b) vs = ap Some (sym (uniform_bit b w i below))
  value_bit (pair o j l) vs =
      ap (λ x. given x (λ a. given (slice_get (bits i vs) l) (λ b. Some (combined o a b)))) (slice_get-map (bit i) vs j)
      ∙ ap (λ y. given (option_map (bit i) (slice_get vs j)) (λ a. given y (λ b. Some (combined o a b)))) (slice_get-map (bit i) vs l)
      ∙ pair_bit o (slice_get vs j) (slice_get vs l)

  -- a run on one bit of each
  pub values_bit : (ss : List BitStep) (vs : List ℕ) → values_made 1 ss (bits i vs) ≡ option_map (bits i) (values_made w ss vs)
  values_bit [] vs = refl
  values_bit (s ∷ ss) vs =
      ap (λ o. given o (λ v. values_made 1 ss (bits i vs ++ (v ∷ [])))) (value_bit s vs)
      ∙ on (λ us. values_bit ss us) (value_made w s vs)
    where
      on : ((us : List ℕ) → values_made 1 ss (bits i us) ≡ option_map (bits i) (values_made w ss us))
          → (o : Option ℕ)
          → given (option_map (bit i) o) (λ v. values_made 1 ss (bits i vs ++ (v ∷ []))) ≡ option_map (bits i) (given o (λ v. values_made w ss (vs ++ (v ∷ []))))
      on ih None = refl
      on ih (Some v) = ap (values_made 1 ss) (sym (map-append (bit i) vs (v ∷ []))) ∙ ih (vs ++ (v ∷ []))

-- ---- numbers of w bits
abbrev pub AllBelow : ℕ → List ℕ → Type 0
AllBelow w [] = Unit {0}
AllBelow w (v ∷ vs) = (v < 2 ^ w) × AllBelow w vs

module _ (w : ℕ) where
  more_below : (vs : List ℕ) (v : ℕ) → AllBelow w vs → v < 2 ^ w → AllBelow w (vs ++ (v ∷ []))
  more_below [] v h l = (l, tt)
  more_below (u ∷ us) v h l = (h.0, more_below us v h.1 l)

  pub one_below : (vs : List ℕ) (i v : ℕ) → AllBelow w vs → slice_get vs i ≡ Some v → v < 2 ^ w
  one_below [] i v h e = absurd (none-some v e)
  one_below (u ∷ us) zero v h e = subst (λ n. n < 2 ^ w) (same_Some u v e) h.0
  one_below (u ∷ us) (suc i) v h e = one_below us i v h.1 e

  value_below : (s : BitStep) (vs : List ℕ) (v : ℕ) → AllBelow w vs → value_made w s vs ≡ Some v → v < 2 ^ w
  value_below (constant b) vs v h e = subst (λ n. n < 2 ^ w) (same_Some (uniform b w) v e) (uniform_below b w)
  value_below (pair o i j) vs v h e = on (slice_get vs i) (slice_get vs j) (λ a. one_below vs i a h) (λ b. one_below vs j b h) e
    where
      on : (x y : Option ℕ) → ((a : ℕ) → x ≡ Some a → a < 2 ^ w) → ((b : ℕ) → y ≡ Some b → b < 2 ^ w)
          → given x (λ a. given y (λ b. Some (combined o a b))) ≡ Some v → v < 2 ^ w
      on None y f g e = absurd (none-some v e)
      on (Some a) None f g e = absurd (none-some v e)
      on (Some a) (Some b) f g e = subst (λ n. n < 2 ^ w) (same_Some (combined o a b) v e) (combined_below o w a b (f a refl) (g b refl))

  -- the results are numbers of w bits
  pub values_below : (ss : List BitStep) (vs us : List ℕ) → AllBelow w vs → values_made w ss vs ≡ Some us → AllBelow w us
  values_below [] vs us h e = subst (AllBelow w) (same_Some vs us e) h
  values_below (s ∷ ss) vs us h e = on (value_made w s vs) (λ v i. more_below vs v h (value_below s vs v h i)) (λ vs g r. values_below ss vs us g r) e
    where
      on : (o : Option ℕ) → ((v : ℕ) → o ≡ Some v → AllBelow w (vs ++ (v ∷ []))) → ((vs : List ℕ) → AllBelow w vs → values_made w ss vs ≡ Some us → AllBelow w us)
          → given o (λ v. values_made w ss (vs ++ (v ∷ []))) ≡ Some us → AllBelow w us
      on None f ih e = absurd (none-some us e)
      on (Some v) f ih e = ih (vs ++ (v ∷ [])) (f v refl) e
