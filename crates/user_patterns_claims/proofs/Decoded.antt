-- Assignments of words are outcomes of a pattern's variables, and a counterexample refutes the pattern.
use Rattle.std.proofs.Common.{◌≡◌, ◌∙◌, ℕ, zero, suc, ◌+◌, ◌-◌, ◌%◌, ◌^◌, ◌<◌, List, [], ◌∷◌, ◌++◌, arith, map, Bool, true, false, true≢false, Option, Some, None, slice_get, refl, sym, ap, subst}
use Rattle.std.specs.Option.{option_map}
use Rattle.std.specs.Prelude.{IfSome, Result}
use Rattle.std.specs.Result.{IfOk}
use Rattle.std.proofs.lemmas.Result.{IfOk-weaker}
use Rattle.std.proofs.lemmas.List.{append_assoc}
use Rattle.std.proofs.Math.Nat.{mod-lt}
use Rattle.std.proofs.lemmas.Nat.{pow_pos}
use Rattle.ir_types.specs.declared.bits.Bits.{Bits}
use Rattle.ir_types.specs.declared.bits.BitsKind.{BitsKind}
use Rattle.ir_types.specs.Bits.{width_of}
use Rattle.dialects_int.specs.Folds.{known_of}
use Rattle.user_patterns_check.specs.Checks.{old_ran, old_refined}
use Rattle.user_patterns_check.specs.Contents.{Content}
use Rattle.user_patterns_check.specs.Outcomes.{Outcome}
use Rattle.user_patterns_data.specs.declared.pattern.PatternType.{PatternType}
use Rattle.user_patterns_data.specs.declared.pattern.PatternType.TheVariants as ty
use Rattle.user_patterns_data.specs.Fitting.{content_at, kind_at, kinds_with}
use Rattle.user_patterns_data.specs.Shapes.{PatternModel}
use Rattle.width_claims.specs.declared.width.Width.{Width}
use Rattle.user_patterns_claims.specs.declared.assignment.Assignment.{Assignment}
use Rattle.user_patterns_claims.specs.Decoding.{IsAssignment, IsRefutation, IsWitness, RefutationsRefute, WitnessesWitness, decoded_outcomes, decoded_widths, first_place, is_kept, is_poison, mask_place, ones, outcome_by, outcomes_from, set_after, number_in_word, widths_from}
use Rattle.user_patterns_claims.specs.Outcomes.{AreKindsOf, AreOutcomes, IsNumberIf, IsOutcome, are_kinds, is_number_at, keeps_outcomes, new_result, old_outcomes, old_result}
use Rattle.user_patterns_claims.specs.Translation.{is_constant}

-- kinds at widths are those of the types
kinds_are : (ws : List ℕ) (tys : List PatternType) → AreKindsOf tys (kinds_with ws tys)
kinds_are ws [] = tt
kinds_are ws (ty.Concrete k ∷ tys) = (refl, kinds_are ws tys)
kinds_are ws (ty.Variable v ∷ tys) = kinds_are ws tys

outcome_is : (b : Bool) (k : BitsKind) (n : ℕ) → IsOutcome k (outcome_by b k n)
outcome_is true k n = tt
outcome_is false k n = (refl, mod-lt n (pow_pos (width_of k)))

number_is : (constant : Bool) (set : ℕ) (k : BitsKind) (n : ℕ) → IsNumberIf constant (outcome_by (is_poison constant set) k n)
number_is true set k n = tt
number_is false set k n = tt

decoded_are : (p : PatternModel) (ks : List BitsKind) (word : List ℕ) (first i set : ℕ) (tys : List ℕ) → AreOutcomes p ks i tys (outcomes_from p word first i set (map (kind_at ks) tys))
decoded_are p ks word first i set [] = tt
decoded_are p ks word first i set (t ∷ tys) =
    let c = is_constant p i in (
      outcome_is (is_poison c set) (kind_at ks t) (number_in_word (first + i) word),
      number_is c set (kind_at ks t) (number_in_word (first + i) word),
      decoded_are p ks word first (i + 1) (set_after c set) tys,
    )

all_are : (p : PatternModel) (set : ℕ) (word : List ℕ) → AreOutcomes p (kinds_with (decoded_widths p word) p.value_types) 0 p.values (decoded_outcomes p set word)
all_are p set word = decoded_are p (kinds_with (decoded_widths p word) p.value_types) word (first_place p) 0 set p.values

pub refutations_refute : RefutationsRefute
refutations_refute p set word r is holds =
    let a = is.assigned in
    let os = sym a.outcomes in
    let are = subst (λ (ws : List ℕ). AreOutcomes p (kinds_with ws p.value_types) 0 p.values (decoded_outcomes p set word)) (sym a.widths) (all_are p set word) in
    let ws = r.assignment.widths.items in
    true≢false
    (sym (holds (kinds_with ws p.value_types) a.value_kinds (kinds_are ws p.value_types) _ (subst (λ (xs : List Outcome). AreOutcomes p (kinds_with ws p.value_types) 0 p.values xs) os are)) ∙ is.broken)

pub witnesses_witness : WitnessesWitness
witnesses_witness p set word is never =
    let ws = decoded_widths p word in
    true≢false (sym is.1 ∙ never (kinds_with ws p.value_types) is.0 (kinds_are ws p.value_types) (decoded_outcomes p set word) (all_are p set word))

-- ---- results

-- a pattern is kept if its results are
pub kept_is : (s : Content) (os : List Outcome) → keeps_outcomes s os ≡ is_kept (old_result s os) (new_result s os)
kept_is s os = on (old_outcomes s os) refl
  where
    at : (env : List Outcome) → old_outcomes s os ≡ Some env → (o : Option Outcome) → slice_get env s.old_result ≡ o → old_refined s env o ≡ is_kept (old_result s os) (new_result s os)
    at env e None f = sym (ap (λ o. is_kept o (new_result s os)) (given_at e f))
      where
        given_at : old_outcomes s os ≡ Some env → slice_get env s.old_result ≡ None → old_result s os ≡ None
        given_at e f = cc
    at env e (Some old) f = cc

    on : (o : Option (List Outcome)) → old_outcomes s os ≡ o → old_ran s o ≡ is_kept (old_result s os) (new_result s os)
    on None e = cc
    on (Some env) e = at env e (slice_get env s.old_result) refl

pub some_is : {X : Type 0} (r : Option X) (P : X → Type 0) (x : X) → IfSome r P → r ≡ Some x → P x
some_is r P x h e = subst (λ q. IfSome q P) e h

-- the results of the code at an assignment
module _ (p : PatternModel) (set : ℕ) (word : List ℕ) (a : Assignment) (s : Content) (assigned : IsAssignment p set word a) (at : s ≡ content_at p a.widths.items) where
  abbrev os : List Outcome
  os = map known_of a.outcomes.items

  pub refutes : (old new : Option (Option Bits)) → option_map known_of old ≡ old_result s os → option_map known_of new ≡ new_result s os
      → is_kept (option_map known_of old) (option_map known_of new) ≡ false → IsRefutation p set word (record { assignment = a; old = old; new = new })
  refutes old new o n f =
      let old_is : option_map known_of old ≡ old_result (content_at p a.widths.items) os = o ∙ ap (λ t. old_result t os) at in
      let new_is : option_map known_of new ≡ new_result (content_at p a.widths.items) os = n ∙ ap (λ t. new_result t os) at in
      record {
        assigned = assigned;
        old = old_is;
        new = new_is;
        broken = kept_is (content_at p a.widths.items) os ∙ (λ i. is_kept (sym old_is i) (sym new_is i)) ∙ f;
      }

  pub witnesses : (old : Option (Option Bits)) → option_map known_of old ≡ old_result s os → is_number_at (option_map known_of old) ≡ true → IsWitness p set word
  witnesses old o f =
      let old_is : option_map known_of old ≡ old_result (content_at p a.widths.items) os = o ∙ ap (λ t. old_result t os) at in (
        subst (λ (ws : List ℕ). are_kinds (kinds_with ws p.value_types) ≡ true) assigned.widths assigned.value_kinds,
        (λ i. is_number_at (old_result (content_at p (sym assigned.widths i)) (sym assigned.outcomes i))) ∙ ap is_number_at (sym old_is) ∙ f,
      )

-- ---- widths

more_widths : (ks : List PatternType) (types : List Width) (word : List ℕ) (v n : ℕ) → 0 < n → widths_from ks types word v n ≡ ones (mask_place v ks types) word ∷ widths_from ks types word (v + 1) (n - 1)
more_widths ks types word v zero l = absurd (omega (arith, l))
more_widths ks types word v (suc n) l = let e : n ≡ suc n - 1 = omega arith in ap (λ (m : ℕ). ones (mask_place v ks types) word ∷ widths_from ks types word (v + 1) m) e

-- one more width, and then the rest
pub widths_pushed : {E : Type 0} (ks : List PatternType) (types : List Width) (word : List ℕ) (v left w : ℕ) (old pushed new : List ℕ) (r : Result Bool E)
    → 0 < left → w ≡ ones (mask_place v ks types) word → pushed ≡ old ++ (w ∷ [])
    → IfOk r (λ done. done ≡ true → new ≡ pushed ++ widths_from ks types word (v + 1) (left - 1)) → IfOk r (λ done. done ≡ true → new ≡ old ++ widths_from ks types word v left)
widths_pushed ks types word v left w old pushed new r some is push rest =
    IfOk-weaker r (λ done. done ≡ true → new ≡ pushed ++ widths_from ks types word (v + 1) (left - 1)) (λ done. done ≡ true → new ≡ old ++ widths_from ks types word v left)
    (λ done h t. h t ∙ (λ i. push i ++ widths_from ks types word (v + 1) (left - 1)) ∙ append_assoc old (w ∷ []) (widths_from ks types word (v + 1) (left - 1))
    ∙ (λ i. old ++ (is i ∷ widths_from ks types word (v + 1) (left - 1))) ∙ ap (λ (ws : List ℕ). old ++ ws) (sym (more_widths ks types word v left some)))
    rest
