-- A pattern whose sides are the same polynomial is a refinement.
use Rattle.std.proofs.Common.{◌≡◌, ℕ, ◌%◌, ◌^◌, ◌==◌, List, [], ◌++◌, map, Bool, true, false, true≢false, ◌&&◌, if◌then◌else◌, Option, Some, None, slice_get, sym, ap, refl, ◌∙◌, eq-eqb}
use Rattle.std.specs.List.{list_all}
use Rattle.std.proofs.lemmas.Bool.{and_parts}
use Rattle.std.proofs.lemmas.Option.{none-some, same_Some}
use Rattle.std.proofs.Math.Nat.{mod-eq_of_lt}
use Rattle.ir_types.specs.declared.bits.BitsKind.{BitsKind}
use Rattle.ir_types.specs.Bits.{width_of}
use Rattle.dialects_int.proofs.KnownOperands.{same_itself}
use Rattle.user_patterns_check.specs.Checks.{bound, keeps, new_refines, old_ran, old_refined, old_steps, refines, shown}
use Rattle.user_patterns_check.proofs.Following.{run_after}
use Rattle.user_patterns_check.specs.Outcomes.{Outcome, given, run}
use Rattle.user_patterns_data.specs.Fitting.{content_with, fits, extra_fits, extra_step, is_requested, kind_at, new_step, number_fits, number_step, pattern_op_step}
use Rattle.user_patterns_data.specs.Shapes.{PatternModel}
use Rattle.user_patterns_widths.specs.Polynomials.{Polynomial, are_one}
use Rattle.user_patterns_widths.specs.AllWidths.{Formal, first_type, formal, formal_at, formal_extras, formal_news, formal_numbers, formal_olds, formal_values, extra_has, has_one_type, has_type, is_some_type, is_variable, new_has, number_has, pattern_op_has, results_are_one, sides_are_one}
use Rattle.user_patterns_widths.specs.Lasting.{PolynomialsKeep}
use Rattle.user_patterns_widths.proofs.PolyZero.{ones_same}
use Rattle.user_patterns_widths.proofs.PolyOutcomes.{Stands, is_below, is_wide}
use Rattle.user_patterns_widths.proofs.PolyPlaces.{AllStand, IsPreceding, found_at, preceding_at, preceding_of_steps, precedings, given_some, number_at}
use Rattle.user_patterns_widths.proofs.PolyRuns.{extras_stand, news_run, numbers_are_valid, olds_are_valid, values_stand}

-- ---- the pattern

record OneType (p : PatternModel) : Type 0 where
  t : ℕ
  values : list_all (λ v. v == t) p.values ≡ true
  extra : list_all (extra_has t) p.extra ≡ true
  numbers : list_all (number_has t) p.given ≡ true

one_type : (p : PatternModel) → has_one_type p ≡ true → OneType p
one_type p e = go (first_type p.old) e
  where
    go : (r : Option ℕ) → is_some_type p r ≡ true → OneType p
    go None e = absurd (true≢false (sym e))
    go (Some t) e =
        let h = and_parts (is_variable p (slice_get p.value_types t)) (has_type t p) e in
        let v = and_parts (list_all (λ v. v == t) p.values) (list_all (extra_has t) p.extra && (list_all (number_has t) p.given && (list_all (pattern_op_has t) p.old && list_all (new_has t) p.new))) h.1 in
        let f = and_parts (list_all (extra_has t) p.extra) (list_all (number_has t) p.given && (list_all (pattern_op_has t) p.old && list_all (new_has t) p.new)) v.1 in
        let n = and_parts (list_all (number_has t) p.given) (list_all (pattern_op_has t) p.old && list_all (new_has t) p.new) f.1 in
        record { t = t; values = v.0; extra = f.0; numbers = n.0 }

-- the entries of the places before both sides
abbrev formal_given : PatternModel → Formal
formal_given p = formal_numbers p.given (formal_extras p.extra (formal_values p.values []))

record Sides (p : PatternModel) : Type 0 where
  old : Formal
  new : Formal
  old_is : formal_olds p.old (formal_given p) ≡ Some old
  new_is : formal_news p.new old ≡ Some new
  root : Polynomial
  result : Polynomial
  root_is : formal_at p.root new ≡ Some root
  result_is : formal_at p.result new ≡ Some result
  one : are_one root result ≡ true

sides : (p : PatternModel) → sides_are_one p (formal p) ≡ true → Sides p
sides p e = go (formal p) refl e
  where
    both : (new : Formal) → formal p ≡ Some new → (q r : Option Polynomial) → formal_at p.root new ≡ q → formal_at p.result new ≡ r → results_are_one q r ≡ true → Sides p
    both new is None r eq er e = absurd (true≢false (sym e))
    both new is (Some q) None eq er e = absurd (true≢false (sym e))
    both new is (Some q) (Some r) eq er e =
        let g = given_some (formal_olds p.old (formal_given p)) (formal_news p.new) new is in
        record { old = g.0; new = new; old_is = g.1; new_is = g.2; root = q; result = r; root_is = eq; result_is = er; one = e }

    go : (r : Option Formal) → formal p ≡ r → sides_are_one p r ≡ true → Sides p
    go None is e = absurd (true≢false (sym e))
    go (Some new) is e = both new is (formal_at p.root new) (formal_at p.result new) refl refl e

-- ---- its outcomes

record Steps (ks : List BitsKind) (p : PatternModel) (values : List ℕ) (env : List Outcome) : Type 0 where
  fitting : fits ks p ≡ true
  bounds : List Outcome
  extra : List Outcome
  numbers : List Outcome
  bounds_are : bound (map (kind_at ks) p.values) values [] ≡ Some bounds
  extra_are : run (map (extra_step ks) p.extra) bounds ≡ Some extra
  numbers_are : run (map (number_step ks) p.given) extra ≡ Some numbers
  old_are : run (map (pattern_op_step ks) p.old) numbers ≡ Some env

steps : (ks : List BitsKind) (p : PatternModel) (values : List ℕ) (env : List Outcome) → old_steps (content_with ks p) values [] ≡ Some env → Steps ks p values env
steps ks p values env e = go (fits ks p) refl e
  where
    go : (b : Bool) → fits ks p ≡ b
        → (if b then given (given (bound (map (kind_at ks) p.values) values []) (run (map (extra_step ks) p.extra ++ map (number_step ks) p.given))) (run (map (pattern_op_step ks) p.old)) else None) ≡ Some env → Steps ks p values env
    go false is e = absurd (none-some env e)
    go true is e =
        let before = given (bound (map (kind_at ks) p.values) values []) (run (map (extra_step ks) p.extra ++ map (number_step ks) p.given)) in
        let o = given_some before (run (map (pattern_op_step ks) p.old)) env e in
        let b = given_some (bound (map (kind_at ks) p.values) values []) (run (map (extra_step ks) p.extra ++ map (number_step ks) p.given)) o.0 o.1 in
        let f = given_some (run (map (extra_step ks) p.extra) b.0) (run (map (number_step ks) p.given)) o.0 (sym (run_after (map (extra_step ks) p.extra) (map (number_step ks) p.given) b.0) ∙ b.2) in
        record { fitting = is; bounds = b.0; extra = f.0; numbers = o.0; bounds_are = b.1; extra_are = f.1; numbers_are = f.2; old_are = o.2 }

-- two values of equal polynomials are equal
same_stand : (k : BitsKind) (V : ℕ → ℕ) (q r : Polynomial) (x y : Outcome) → Stands k V q x → Stands k V r y → are_one q r ≡ true → refines x y ≡ true
same_stand k V q r x y s t e =
    let w = width_of k in
    let one : s.value % 2 ^ w ≡ t.value % 2 ^ w = s.same ∙ ones_same V w (is_wide k s.value s.fits) q r t.low e ∙ sym t.same in
    let same : s.value ≡ t.value = sym (mod-eq_of_lt (is_below k s.value s.fits)) ∙ one ∙ mod-eq_of_lt (is_below k t.value t.fits) in
    (λ i. refines (s.is i) (t.is i)) ∙ rw (same_itself k, eq-eqb s.value t.value same) refl

module _ (ks : List BitsKind) (p : PatternModel) (one : OneType p) (side : Sides p) where
  abbrev k : BitsKind
  k = kind_at ks one.t

  old_is_valid : (values : List ℕ) (env : List Outcome) (s : Steps ks p values env) → AllStand k (number_at s.numbers) side.old env
  old_is_valid values env s =
      let fin = s.numbers in
      let V = number_at fin in
      let f = and_parts (list_all (is_requested ks) p.type_constraints) (list_all (extra_fits ks) p.extra && list_all (number_fits ks) p.given) s.fitting in
      let g = and_parts (list_all (extra_fits ks) p.extra) (list_all (number_fits ks) p.given) f.1 in
      let preceding : (zs : List Outcome) → IsPreceding zs s.bounds → IsPreceding zs fin = λ zs z. precedings zs s.bounds fin z (precedings s.bounds s.extra fin
      (preceding_of_steps (map (extra_step ks) p.extra) s.bounds s.extra s.extra_are)
      (preceding_of_steps (map (number_step ks) p.given) s.extra fin s.numbers_are)) in
      let a = values_stand ks one.t fin p.values values [] [] s.bounds one.values s.bounds_are preceding tt in
      let b = extras_stand ks one.t fin p.extra (formal_values p.values []) s.bounds s.extra one.extra g.0 s.extra_are a in
      let c = numbers_are_valid ks one.t fin p.given (formal_extras p.extra (formal_values p.values [])) s.extra one.numbers g.1 s.numbers_are b in
      olds_are_valid ks one.t V p.old (formal_given p) side.old fin env side.old_is s.old_are c

  refined : (values : List ℕ) (env : List Outcome) (s : Steps ks p values env) (old : Outcome) → slice_get env p.root ≡ Some old
      → new_refines old (shown p.result (run (map (new_step ks) p.new) env)) ≡ true
  refined values env s old is =
      let V = number_at s.numbers in
      let r = news_run ks one.t V p.new side.old side.new env side.new_is (old_is_valid values env s) in
      let preceding = preceding_of_steps (map (new_step ks) p.new) env r.env r.is in
      let x = found_at k V side.new r.env p.root side.root r.stand side.root_is in
      let y = found_at k V side.new r.env p.result side.result r.stand side.result_is in
      let first : old ≡ x.outcome = same_Some old x.outcome (sym (preceding_at env r.env preceding p.root old is) ∙ x.is) in
      ap (λ d. new_refines old (shown p.result d)) r.is ∙ ap (new_refines old) y.is
      ∙ ap (λ o. refines o y.outcome) first ∙ same_stand k V side.root side.result x.outcome y.outcome x.stands y.stands side.one

  kept : (values : List ℕ) → keeps (content_with ks p) values ≡ true
  kept values = go (old_steps (content_with ks p) values []) refl
    where
      at : (env : List Outcome) → Steps ks p values env → (o : Option Outcome) → slice_get env p.root ≡ o → old_refined (content_with ks p) env o ≡ true
      at env s None is = refl
      at env s (Some old) is = refined values env s old is

      go : (r : Option (List Outcome)) → old_steps (content_with ks p) values [] ≡ r → old_ran (content_with ks p) r ≡ true
      go None is = refl
      go (Some env) is = at env (steps ks p values env is) (slice_get env p.root) refl

pub polynomials_keep : PolynomialsKeep
polynomials_keep p e ks wide values below =
    let h = and_parts (has_one_type p) (sides_are_one p (formal p)) e in
    kept ks p (one_type p h.0) (sides p h.1) values
