-- The consequences of a refinement.
use Rattle.std.proofs.Common.{◌≡◌, ◌∙◌, ℕ, ◌==◌, List, [], Bool, true, false, ◌&&◌, Option, Some, None, slice_get, refl, sym, ap, subst}
use Rattle.std.proofs.lemmas.Bool.{eqb-true, and_parts}
use Rattle.std.proofs.lemmas.Option.{same_Some}
use Rattle.ir_types.specs.declared.bits.BitsKind.{BitsKind}
use Rattle.ir_types.specs.declared.bits.BitsKind.TheVariants as kind
use Rattle.dialects_int.specs.Folds.{Known, same_kind}
use Rattle.user_patterns_check.specs.Contents.{Content}
use Rattle.user_patterns_check.specs.Outcomes.{Outcome, run}
use Rattle.user_patterns_check.specs.Checks.{keeps, old_steps, old_ran, old_refined, new_refines, refines, same_known, shown}
use Rattle.user_patterns_check.specs.Kept.{StaysDefined, StaysTheValue}
use Rattle.user_patterns_check.proofs.Found.{true_false}

pub same_kinds : (j k : BitsKind) → same_kind j k ≡ true → j ≡ k
same_kinds (kind.Int v) (kind.Int w) e = ap kind.Int (eqb-true v w e)
same_kinds (kind.Int v) kind.Index e = absurd (true_false (sym e))
same_kinds kind.Index (kind.Int w) e = absurd (true_false (sym e))
same_kinds kind.Index kind.Index e = refl

pub one_known : (x y : Known) → same_known x y ≡ true → x ≡ y
one_known x y e =
    let h = and_parts (same_kind x.0 y.0) (x.1 == y.1) e in
    let k = same_kinds x.0 y.0 h.0 in
    let n = eqb-true x.1 y.1 h.1 in
    (λ i. (k i, n i))

-- a side's steps have a result that refines the old outcome
abbrev Shown : Outcome → ℕ → Option (List Outcome) → Type 0
Shown old place r = (new : List Outcome) × (x : Outcome) × (r ≡ Some new) × (slice_get new place ≡ Some x) × (refines old x ≡ true)

shown_at : (old : Outcome) (place : ℕ) (new : List Outcome) (o : Option Outcome) → slice_get new place ≡ o → new_refines old o ≡ true → (x : Outcome) × (slice_get new place ≡ Some x) × (refines old x ≡ true)
shown_at old place new None is e = absurd (true_false (sym e))
shown_at old place new (Some x) is e = (x, is, e)

shown_by : (old : Outcome) (place : ℕ) (r : Option (List Outcome)) → new_refines old (shown place r) ≡ true → Shown old place r
shown_by old place None e = absurd (true_false (sym e))
shown_by old place (Some new) e = let h = shown_at old place new (slice_get new place) refl e in (new, h.0, refl, h.1, h.2)

kept_by : (s : Content) (values : List ℕ) (env : List Outcome) (old : Outcome) → keeps s values ≡ true
    → old_steps s values [] ≡ Some env → slice_get env s.old_result ≡ Some old → Shown old s.new_result (run s.new env)
kept_by s values env old k ran is =
    let at_env = subst (λ (r : Option (List Outcome)). old_ran s r ≡ true) ran k in
    shown_by old s.new_result (run s.new env) (subst (λ (o : Option Outcome). old_refined s env o ≡ true) is at_env)

pub stays_defined : StaysDefined
stays_defined s values env old k ran is = let h = kept_by s values env old k ran is in (h.0, h.1, h.2, h.3)

pub value_refined : (v : Known) (x : Outcome) → refines (Some v) x ≡ true → x ≡ Some v
value_refined v None e = absurd (true_false (sym e))
value_refined v (Some w) e = ap (λ (u : Known). Some u) (sym (one_known v w e))

pub stays_the_value : StaysTheValue
stays_the_value s values env new v k ran is ran_new =
    let h = kept_by s values env (Some v) k ran is in
    let same : h.0 ≡ new = same_Some h.0 new (sym h.2 ∙ ran_new) in
    subst (λ (e : List Outcome). slice_get e s.new_result ≡ Some (Some v)) same (h.3 ∙ ap (λ (o : Outcome). Some o) (value_refined v h.1 h.4))
