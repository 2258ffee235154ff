-- Folds, computed from outcomes.
use Rattle.std.proofs.Common.{◌≡◌, ℕ, ◌==◌, Bool, true, false, not, ◌&&◌, Option, Some, None, option_map, ◌⊎◌, inl, inr, refl, arith, subst, if◌then◌else◌}
use Rattle.std.proofs.lemmas.Bool.Decides.{nat_tests}
use Rattle.ir_types.specs.declared.bits.BitsKind.{BitsKind}
use Rattle.ir_types.specs.declared.bits.BitsKind.TheVariants as kind
use Rattle.dialects_int.specs.declared.operations.Arithmetic.{Arithmetic}
use Rattle.dialects_int.specs.Folds.{Known, same_kind}
use Rattle.dialects_int.specs.Arithmetic.{choice_of}
use Rattle.user_patterns_check.specs.Outcomes.{divides, given, is_signed_remainder, checked}
use Rattle.dialects_int.proofs.KnownOperands.{same_itself}

none_given : (d : Bool) (v : Known) → (if d then None else Some None) ≡ Some (Some v) → ⊥
none_given true v e = cc
none_given false v e = cc

inner_some : {X : Type 0} {x y : X} → Some (Some x) ≡ Some (Some y) → Some x ≡ Some y
inner_some e = cc

inner_same : {X : Type 0} {x y : X} → Some (Some x) ≡ Some (Some y) → y ≡ x
inner_same e = cc

given_zero : (r t d : Bool) (z v : Known) → (if r && t then Some (Some z) else (if d then None else Some None)) ≡ Some (Some v) → (r ≡ true) × (v ≡ z)
given_zero true true d z v e = (refl, inner_same e)
given_zero true false d z v e = absurd (none_given d v e)
given_zero false t d z v e = absurd (none_given d v e)

pub checked_some : (o : Arithmetic) (k : BitsKind) (b : ℕ) (r : Option ℕ) (v : Known) → checked o k b r ≡ Some (Some v)
    → (option_map (λ x. (k, x)) r ≡ Some v) ⊎ ((is_signed_remainder o ≡ true) × (r ≡ None) × (v ≡ (k, 0)))
checked_some o k b (Some x) v e = inl (inner_some e)
checked_some o k b None v e =
    let z = given_zero (is_signed_remainder o) (not (b == 0)) (divides o) (k, 0) v e in
    inr (z.0, refl, z.1)

tested_some : (t : Bool) (r : Option (Option Known)) (v : Known) → t ≡ true → (if t then r else None) ≡ Some (Some v) → r ≡ Some (Some v)
tested_some t r v h e = subst (λ (q : Bool). (if q then r else None) ≡ Some (Some v)) h e

pub of_same_kind : (k : BitsKind) (r : Option (Option Known)) (v : Known) → (if same_kind k k then r else None) ≡ Some (Some v) → r ≡ Some (Some v)
of_same_kind k r v e = tested_some (same_kind k k) r v (same_itself k) e

pub compared_some : (k : BitsKind) (x v : Known) → (if same_kind k k then Some (Some x) else None) ≡ Some (Some v) → Some x ≡ Some v
compared_some k x v e = inner_some (of_same_kind k (Some (Some x)) v e)

pub chosen_some : (k : BitsKind) (c a b : ℕ) (v : Known) → Some (choice_of c (Some (k, a)) (Some (k, b))) ≡ Some (Some v) → Some (k, choice_of c a b) ≡ Some v
chosen_some k c a b v e = by_test (c == 0) e
  where
    by_test : (t : Bool) → Some (if t then Some (k, b) else Some (k, a)) ≡ Some (Some v) → Some (k, if t then b else a) ≡ Some v
    by_test true e = inner_some e
    by_test false e = inner_some e

given_cast : (k : BitsKind) (r : Option ℕ) (v : Known) → given r (λ b. Some (Some (k, b))) ≡ Some (Some v) → option_map (λ bits. (k, bits)) r ≡ Some v
given_cast k None v e = absurd (none_given true v e)
given_cast k (Some b) v e = inner_some e

pub cast_some : (k : BitsKind) (t : Bool) (r : Option ℕ) (v : Known) → (if t then given r (λ b. Some (Some (k, b))) else None) ≡ Some (Some v) → option_map (λ bits. (k, bits)) r ≡ Some v
cast_some k true r v e = given_cast k r v e
cast_some k false r v e = absurd (none_given true v e)
