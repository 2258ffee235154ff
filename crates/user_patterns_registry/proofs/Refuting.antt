-- A counterexample of the sampled check refutes the pattern.
use Rattle.std.proofs.Common.{◌≡◌, ℕ, zero, suc, ◌^◌, ◌<◌, ◌≤◌, ◌++◌, List, [], ◌∷◌, map, replicate, take, Bool, true, false, if◌then◌else◌, Option, Some, None, nat_lt, ltb-true, arith, refl, sym, subst}
use Rattle.std.proofs.lemmas.Nat.{shr_le}
use Rattle.std.proofs.lemmas.Bool.{and_parts}
use Rattle.std.proofs.lemmas.Option.{none-some}
use Rattle.ir_types.specs.declared.bits.BitsKind.{BitsKind}
use Rattle.ir_types.specs.Bits.{is_bits, width_of}
use Rattle.ir_types.specs.Reasons.{is_width}
use Rattle.user_patterns_check.specs.Cases.{AreBelow}
use Rattle.user_patterns_check.proofs.Found.{fails, true_false}
use Rattle.user_patterns_check.specs.Contents.{Content}
use Rattle.user_patterns_check.specs.Checks.{bound, counts, keeps, old_ran}
use Rattle.user_patterns_check.specs.Families.{AreWidths}
use Rattle.user_patterns_check.specs.Outcomes.{Outcome, given, run}
use Rattle.user_patterns_data.specs.Fitting.{content_at}
use Rattle.user_patterns_registry.specs.Sampled.{RefutesTruly, cases, refines_at_case, case_bounds}
use Rattle.user_patterns_widths.specs.SampledWidths.{level_width, levels}

-- ---- widths

level_low : (w level : ℕ) → 1 ≤ level_width w level
level_low w level = omega arith

level_high : (w level : ℕ) → 1 ≤ w → level_width w level ≤ w
level_high w level l = omega (arith, shr_le w level)

levels_are_widths : (n w : ℕ) (numbers more : List ℕ) → 1 ≤ w → AreBelow (replicate n levels ++ more) numbers
    → AreWidths n w (map (level_width w) (take n numbers))
levels_are_widths zero w numbers more l b = tt
levels_are_widths (suc n) w [] more l b = absurd b
levels_are_widths (suc n) w (v ∷ vs) more l b = (level_low w v, level_high w v l, levels_are_widths n w vs more l b.1)

-- ---- values

-- bound values are in range of their kinds
one_bound : (k : BitsKind) (ks : List BitsKind) (v : ℕ) (vs : List ℕ) (env out : List Outcome) (b : Bool) → is_bits k v ≡ b
    → ((more : List Outcome) → bound ks vs more ≡ Some out → AreBelow (map (λ k. 2 ^ width_of k) ks) vs)
    → given (if b then Some (k, v) else None) (λ x. bound ks vs (env ++ (Some x ∷ []))) ≡ Some out
    → (v < 2 ^ width_of k) × AreBelow (map (λ k. 2 ^ width_of k) ks) vs
one_bound k ks v vs env out true h rest e =
    (ltb-true v (2 ^ width_of k) (and_parts (is_width (width_of k)) (nat_lt v (2 ^ width_of k)) h).1, rest (env ++ (Some (k, v) ∷ [])) e)
one_bound k ks v vs env out false h rest e = absurd (none-some out e)

bound_below : (ks : List BitsKind) (vs : List ℕ) (env out : List Outcome) → bound ks vs env ≡ Some out → AreBelow (map (λ k. 2 ^ width_of k) ks) vs
bound_below [] [] env out e = tt
bound_below [] (v ∷ vs) env out e = absurd (none-some out e)
bound_below (k ∷ ks) [] env out e = absurd (none-some out e)
bound_below (k ∷ ks) (v ∷ vs) env out e =
    one_bound k ks v vs env out (is_bits k v) refl (λ more f. bound_below ks vs more out f) e

was_bound : (s : Content) (vs : List ℕ) (applies : Bool) (r : Option (List Outcome)) → bound s.value_types vs [] ≡ r
    → old_ran s (if applies then given (given r (run s.given)) (run s.old) else None) ≡ false → AreBelow (counts s) vs
was_bound s vs true (Some out) is e = bound_below s.value_types vs [] out is
was_bound s vs true None is e = absurd (true_false e)
was_bound s vs false r is e = absurd (true_false e)

broken_below : (s : Content) (vs : List ℕ) → keeps s vs ≡ false → AreBelow (counts s) vs
broken_below s vs e = was_bound s vs s.applies (bound s.value_types vs []) refl e

pub refutes_truly : RefutesTruly
refutes_truly p near w c t r =
    let found = fails (refines_at_case p near w) (case_bounds p near) r.first.0 r.first.1 in (
      subst (AreWidths p.types w) (sym r.first.2) (levels_are_widths p.types w r.first.0 (cases near ∷ []) t.low found.0),
      broken_below (content_at p c.widths.items) c.values.items r.broken,
      r.broken,
    )
