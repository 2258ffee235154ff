-- Arithmetic operations define the matched values and the root's result.
use Rattle.std.proofs.Common.{◌≡◌, ℕ, zero, suc, ◌+◌, ◌-◌, ◌<◌, refl, ap, ◌∙◌, subst, List, [], ◌∷◌, length, map, Bool, true, ◌&&◌, Option, Some, None, slice_get, arith}
use Rattle.std.specs.Prelude.{is_some}
use Rattle.std.specs.List.{list_all}
use Rattle.std.proofs.lemmas.Bool.{and_parts}
use Rattle.std.proofs.lemmas.List.{length-map}
use Rattle.std.proofs.lemmas.Option.{none-some, same_Some}
use Rattle.ir_tree.specs.declared.value.Value.TheVariants.{Result}
use Rattle.ir_tree.specs.Meaning.{Operation}
use Rattle.ir_tree_laws.specs.Values.{type_of_value}
use Rattle.dialects_int.specs.declared.operations.Rule.{Rule}
use Rattle.dialects_int.specs.Folds.{kind_of, rule_of}
use Rattle.ir_types.specs.declared.bits.BitsKind.{BitsKind}
use Rattle.user_patterns_check.specs.Outcomes.{Outcome, given}
use Rattle.user_patterns_data.specs.declared.pattern.PatternOp.{PatternOp}
use Rattle.user_patterns_data.specs.Matching.{Header, BoundValues}
use Rattle.user_patterns_data.specs.Names.{name_of}
use Rattle.user_patterns_data.specs.Planning.{old_place}
use Rattle.user_patterns_data.specs.Shapes.{PatternModel}
use Rattle.user_patterns_build.specs.CanBuild.{has_name}
use Rattle.patterns_refinement.specs.Meaning.{Assignment, FitsEach, is_arithmetic, makes, makes_by, result_kind}
use Rattle.patterns_refinement.specs.Applied.{IsFound, IsProper}
use Rattle.patterns_refinement.specs.Better.{is_arithmetic_there}
use Rattle.patterns_refinement.specs.Observing.{is_computed}
use Rattle.patterns_refinement.proofs.Forms.{form_rule, defining_op_of, defining_op_type, named_is}
use Rattle.patterns_refinement.proofs.Going.{wellformed_parts, made_parts, matched_parts, typed_at, typed_parts}
use Rattle.patterns_refinement.proofs.Rewritten.{AllPut}
use Rattle.patterns_refinement.proofs.BoundValues.{AllHold, Holds, Stands, one_stands, stands_standing}

-- a property of each pattern op is a property of one
pub hold_at : (t : Operation) (verified : Header → Bool) (k : ℕ) (ps : List PatternOp) (b : BoundValues _) → AllHold t verified k ps b → (i : ℕ) → i < length ps → (q : PatternOp) × (slice_get ps i ≡ Some q) × Holds t verified (k + i) q b
hold_at t verified k [] b h i l = absurd (omega (arith, l))
hold_at t verified k (q ∷ ps) b h zero l = (q, refl, subst (λ z. Holds t verified z q b) (same k) h.0)
  where
    same : (k : ℕ) → k ≡ k + 0
    same k = omega arith
hold_at t verified k (q ∷ ps) b h (suc i) l =
    let r = hold_at t verified (k + 1) ps b h.1 i (omega (arith, l)) in
    (r.0, r.1, subst (λ z. Holds t verified z r.0 b) (same k i) r.2)
  where
    same : (k i : ℕ) → k + 1 + i ≡ k + suc i
    same k i = omega arith

-- matched operations have names
pub named_at : (ps : List PatternOp) (i : ℕ) (q : PatternOp) → list_all (λ (o : PatternOp). has_name o.form) ps ≡ true → slice_get ps i ≡ Some q → has_name q.form ≡ true
named_at [] i q e s = absurd (none-some q s)
named_at (o ∷ ps) zero q e s = subst (λ (o : PatternOp). has_name o.form ≡ true) (same_Some o q s) (and_parts (has_name o.form) (list_all (λ (o : PatternOp). has_name o.form) ps) e).0
named_at (o ∷ ps) (suc i) q e s = named_at ps i q (and_parts (has_name o.form) (list_all (λ (o : PatternOp). has_name o.form) ps) e).1 s

-- if a pattern matches, an arithmetic operation computes the root's result
pub root_computed : (t : Operation) (verified : Header → Bool) (n : ℕ) (p : PatternModel) (x : ℕ) (a : Assignment) (done : ℕ → Bool) → IsProper p → IsFound t verified n p x a done → is_computed t (Result x 0) ≡ true
root_computed t verified n p x a done proper found =
    let f = wellformed_parts p proper.wellformed in
    let k = made_parts p proper.buildable in
    let at = matched_parts t verified n p x found.here found.is_matched in
    let are = typed_parts t verified n p found.here found.types found.are_types in
    let i = p.root - old_place p in
    let w = typed_at t verified (old_place p) (map PatternOp.ty p.old) found.here found.types are.pattern_ops i (omega (arith, f.root, k.root, length-map p.old PatternOp.ty)) in
    let h = hold_at t verified (old_place p) p.old found.here at.pattern_ops i (omega (arith, f.root, k.root)) in
    let v = h.2 in
    let place : p.root ≡ old_place p + i = omega (arith, k.root) in
    let of : type_of_value v.value t ≡ Some w.2.term = ap (λ v. type_of_value v t) (one_stands (old_place p + i) v.value w.2.value found.here v.stands w.2.stands) ∙ w.2.of_value in
    let g = defining_op_of t verified v.value v.header v.gives in
    let first = defining_op_type t verified v.value v.header w.2.term g of in
    let by = ap rule_of (named_is (name_of h.0.form) v.header.name v.name) ∙ form_rule h.0.form (named_at p.old i h.0 proper.named h.1) in
    let arithmetic : is_arithmetic v.header ≡ true = (λ j. is_some (by j) && is_some (given (first j) kind_of)) ∙ found.of_kinds w.0 w.2.term (stands_standing w.0 w.2.term found.types w.2.type_stands) in
    subst (λ v. is_computed t v ≡ true) (one_stands (old_place p + i) v.value (Result x 0) found.here v.stands (subst (λ z. Stands z (Result x 0) found.here) place at.root))
    (ap (is_computed t) g.value ∙ ap is_arithmetic_there g.found ∙ ap is_arithmetic g.heads ∙ arithmetic)

-- an operation with an outcome is arithmetic
makes_arithmetic : (h : Header) (xs : List Outcome) (y : Outcome) → makes h xs ≡ Some y → is_arithmetic h ≡ true
makes_arithmetic h xs y e = go (rule_of h.name) (result_kind h) e
  where
    go : (r : Option Rule) (k : Option BitsKind) → given r (λ r. given k (λ k. makes_by r h k xs)) ≡ Some y → (is_some r && is_some k) ≡ true
    go None k e = absurd (none-some y e)
    go (Some r) None e = absurd (none-some y e)
    go (Some r) (Some k) e = refl

pub all_arithmetic : (c : Assignment) (n : ℕ) (os : List Operation) → FitsEach c n os → AllPut (λ h. is_arithmetic h ≡ true) n os
all_arithmetic c n [] s = tt
all_arithmetic c n (o ∷ os) s = (makes_arithmetic _ _ (c (Result n 0)) s.0, all_arithmetic c (n + 1) os s.1)
