-- The values at places are those of their polynomials.
use Rattle.std.proofs.Common.{◌≡◌, ℕ, zero, suc, List, [], ◌∷◌, ◌++◌, length, Option, Some, None, slice_get, sym, ap, refl, ◌∙◌, append_assoc, append-nil, subst}
use Rattle.std.proofs.lemmas.Option.{none-some, same_Some}
use Rattle.ir_types.specs.declared.bits.BitsKind.{BitsKind}
use Rattle.ir_types.proofs.Building.{last_place, place_stays}
use Rattle.user_patterns_check.specs.declared.step.Step.{Step}
use Rattle.user_patterns_check.specs.Outcomes.{Outcome, given, run, step_of}
use Rattle.user_patterns_widths.specs.Polynomials.{Polynomial}
use Rattle.user_patterns_widths.specs.AllWidths.{Formal, formal_at}
use Rattle.user_patterns_widths.proofs.PolyOutcomes.{Gives, Stands}

-- ---- options

pub given_some : {X Y : Type 0} (x : Option X) (f : X → Option Y) (v : Y) → given x f ≡ Some v → (y : X) × (x ≡ Some y) × (f y ≡ Some v)
given_some None f v e = absurd (none-some v e)
given_some (Some y) f v e = (y, refl, e)

-- ---- prefixes of an environment

pub record IsPreceding (env fin : List Outcome) : Type 0 where
  pub more : List Outcome
  pub is : fin ≡ env ++ more

pub preceding_itself : (env : List Outcome) → IsPreceding env env
preceding_itself env = record { more = []; is = sym (append-nil env) }

pub preceding_shorter : (env fin : List Outcome) (x : Outcome) → IsPreceding (env ++ (x ∷ [])) fin → IsPreceding env fin
preceding_shorter env fin x f = record { more = x ∷ f.more; is = f.is ∙ append_assoc env (x ∷ []) f.more }

pub preceding_of_steps : (ss : List Step) (env fin : List Outcome) → run ss env ≡ Some fin → IsPreceding env fin
preceding_of_steps [] env fin e = record { more = []; is = sym (same_Some env fin e) ∙ sym (append-nil env) }
preceding_of_steps (s ∷ ss) env fin e =
    let g = given_some (step_of s env) (λ v. run ss (env ++ (v ∷ []))) fin e in
    preceding_shorter env fin g.0 (preceding_of_steps ss (env ++ (g.0 ∷ [])) fin g.2)

pub precedings : (a b c : List Outcome) → IsPreceding a b → IsPreceding b c → IsPreceding a c
precedings a b c f g = record { more = f.more ++ g.more; is = g.is ∙ ap (λ xs. xs ++ g.more) f.is ∙ append_assoc a f.more g.more }

pub preceding_at : (env fin : List Outcome) → IsPreceding env fin → (i : ℕ) (x : Outcome) → slice_get env i ≡ Some x → slice_get fin i ≡ Some x
preceding_at env fin f i x e = ap (λ xs. slice_get xs i) f.is ∙ place_stays env f.more i x e

-- ---- the value at a place

abbrev pub number_of : Option Outcome → ℕ
number_of (Some (Some k)) = k.1
number_of _ = 0

abbrev pub number_at : List Outcome → ℕ → ℕ
number_at fin i = number_of (slice_get fin i)

pub last_number : (env fin : List Outcome) (k : BitsKind) (v : ℕ) → IsPreceding (env ++ (Some (k, v) ∷ [])) fin → number_at fin (length env) ≡ v
last_number env fin k v f = ap number_of (preceding_at (env ++ (Some (k, v) ∷ [])) fin f (length env) (Some (k, v)) (last_place env (Some (k, v))))

-- ---- values and polynomials

module _ (k : BitsKind) (V : ℕ → ℕ) where
  abbrev pub StandsAt : Option Polynomial → Outcome → Type 0
  StandsAt None x = Unit {0}
  StandsAt (Some p) x = Stands k V p x

  abbrev pub AllStand : Formal → List Outcome → Type 0
  AllStand [] [] = Unit {0}
  AllStand (f ∷ fs) (x ∷ xs) = StandsAt f x × AllStand fs xs
  AllStand _ _ = ⊥

  pub stand_long : (fs : Formal) (xs : List Outcome) → AllStand fs xs → length fs ≡ length xs
  stand_long [] [] a = refl
  stand_long [] (x ∷ xs) a = absurd a
  stand_long (f ∷ fs) [] a = absurd a
  stand_long (f ∷ fs) (x ∷ xs) a = ap suc (stand_long fs xs a.1)

  pub stand_more : (fs : Formal) (xs : List Outcome) (f : Option Polynomial) (x : Outcome) → AllStand fs xs → StandsAt f x → AllStand (fs ++ (f ∷ [])) (xs ++ (x ∷ []))
  stand_more [] [] f x a s = (s, tt)
  stand_more [] (y ∷ ys) f x a s = absurd a
  stand_more (g ∷ gs) [] f x a s = absurd a
  stand_more (g ∷ gs) (y ∷ ys) f x a s = (a.0, stand_more gs ys f x a.1 s)

  pub found_at : (fs : Formal) (xs : List Outcome) (i : ℕ) (p : Polynomial) → AllStand fs xs → formal_at i fs ≡ Some p → Gives k V p (slice_get xs i)
  found_at [] [] i p a e = absurd (none-some p e)
  found_at [] (x ∷ xs) i p a e = absurd a
  found_at (f ∷ fs) [] i p a e = absurd a
  found_at (None ∷ fs) (x ∷ xs) zero p a e = absurd (none-some p e)
  found_at (Some q ∷ fs) (x ∷ xs) zero p a e = record { outcome = x; is = refl; stands = subst (λ q. Stands k V q x) (same_Some q p e) a.0 }
  found_at (f ∷ fs) (x ∷ xs) (suc i) p a e = found_at fs xs i p a.1 e
