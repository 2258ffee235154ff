-- A pattern doesn't match at an operation whose name differs from the name of its root.
use Rattle.std.proofs.Common.{◌≡◌, ℕ, ◌+◌, ◌-◌, ◌<◌, refl, ap, sym, ◌∙◌, List, ◌∷◌, length, take, get_or, subst, Bool, true, false, not, ◌&&◌, Option, Some, None, arith}
use Rattle.std.proofs.Math.Seq.{take-length}
use Rattle.std.proofs.lemmas.Bool.{not-true}
use Rattle.ir_event.specs.trees.declared.value.Value.{Value}
use Rattle.ir_event.specs.trees.declared.value.Value.TheVariants.{Result}
use Rattle.ir_event.specs.trees.Uses.{same_value}
use Rattle.ir_event.specs.trees.Meaning.{Operation}
use Rattle.ir_event.proofs.of_trees.Replaced.{same_value_true}
use Rattle.patterns_base.specs.Words.{named}
use Rattle.user_patterns_check.specs.Outcomes.{given}
use Rattle.user_patterns_data.specs.declared.pattern.PatternOp.{PatternOp}
use Rattle.user_patterns_data.specs.Matching.{Header, BoundValues, all_bound, constraints_agree, bound, defining_op_head, header_matched, nothing, op_matches, ops_match, placed, binding_at, value_matched, when}
use Rattle.user_patterns_data.specs.Names.{name_of, operands_of}
use Rattle.user_patterns_data.specs.Planning.{old_place, places}
use Rattle.user_patterns_data.specs.Shapes.{PatternModel}
use Rattle.user_patterns_apply.specs.Matched.{any, matched}
use Rattle.user_patterns_apply.specs.Mismatches.{constraint_tests, first_of, header_tests, matched_tests, on_value, op_tests, ops_tests, unless, with_value}
use Rattle.user_patterns_apply.specs.declared.mismatch.Mismatch.TheVariants as fails
use Rattle.user_patterns_apply.proofs.FoundBuilt.{bound_at, stands_there}
use Rattle.user_patterns_apply.proofs.Placed.{placed_last}

module _ (t : Operation) (p : PatternModel) (x : ℕ) (d : PatternOp) (some : 0 < length p.old) (root : p.root ≡ old_place p + (length p.old - 1)) (h : Header) (gives : defining_op_head t any (Result x 0) ≡ Some h) (other : named (name_of (get_or p.old (length p.old - 1) d).form) h.name ≡ false) where
  abbrev last : PatternOp
  last = get_or p.old (length p.old - 1) d

  -- the root is the first pattern op that is matched
  first : placed (old_place p) p.old ≡ (old_place p + (length p.old - 1), last) ∷ placed (old_place p) (take (length p.old - 1) p.old)
  first =
      let one : length p.old ≡ length p.old - 1 + 1 = omega (arith, some) in
      sym (ap (placed (old_place p)) (take-length p.old)) ∙ ap (λ n. placed (old_place p) (take n p.old)) one
      ∙ placed_last (old_place p) p.old (length p.old - 1) d (omega (arith, some))

  unlike : (b : BoundValues Value) → header_matched t any last h b ≡ None
  unlike b = ap (λ z. when (z && constraints_agree t any last h) (all_bound same_value (operands_of last.form) h.operands b)) other

  stops : (b : BoundValues Value) → binding_at p.root b ≡ Some (Result x 0) → op_matches t any (old_place p + (length p.old - 1), last) b ≡ None
  stops b at =
      ap (λ k. given (binding_at k b) (λ v. value_matched t any last v b)) (sym root)
      ∙ ap (λ z. given z (λ v. value_matched t any last v b)) at
      ∙ ap (λ z. given z (λ g. header_matched t any last g b)) gives ∙ unlike b

  go : (r : Option (BoundValues Value)) → bound same_value p.root (Result x 0) (nothing (places p)) ≡ r → given r (λ b. ops_match t any (placed (old_place p) p.old) b) ≡ None
  go None e = refl
  go (Some b) e =
      let at = stands_there p.root b (Result x 0) (bound_at same_value same_value_true p.root (Result x 0) (nothing (places p)) b e) in
      ap (λ z. ops_match t any z b) first ∙ ap (λ z. given z (ops_match t any (placed (old_place p) (take (length p.old - 1) p.old)))) (stops b at)

  tests_stop : (b : BoundValues Value) → binding_at p.root b ≡ Some (Result x 0) → op_tests t (old_place p + (length p.old - 1), last) b ≡ Some (fails.Operation p.root)
  tests_stop b at =
      ap (λ k. op_tests t (k, last) b) (sym root)
      ∙ ap (λ z. with_value (given z (defining_op_head t any)) (fails.Operation p.root) (λ h. header_tests t p.root last h b)) at
      ∙ ap (λ z. with_value z (fails.Operation p.root) (λ h. header_tests t p.root last h b)) gives
      ∙ ap (λ z. first_of (unless z (fails.Operation p.root)) (constraint_tests t p.root last h b)) other

  tests_go : (r : Option (BoundValues Value)) → bound same_value p.root (Result x 0) (nothing (places p)) ≡ r → with_value r (fails.Operation p.root) (ops_tests t (placed (old_place p) p.old)) ≡ Some (fails.Operation p.root)
  tests_go None e = refl
  tests_go (Some b) e =
      let at = stands_there p.root b (Result x 0) (bound_at same_value same_value_true p.root (Result x 0) (nothing (places p)) b e) in
      ap (λ z. ops_tests t z b) first
      ∙ ap (λ z. first_of z (on_value (op_matches t any (old_place p + (length p.old - 1), last) b) (ops_tests t (placed (old_place p) (take (length p.old - 1) p.old))))) (tests_stop b at)

  pub root_fails : matched_tests t p x ≡ Some (fails.Operation p.root)
  root_fails = tests_go (bound same_value p.root (Result x 0) (nothing (places p))) refl

  pub not_matched : matched t any p x ≡ None
  not_matched = go (bound same_value p.root (Result x 0) (nothing (places p))) refl

-- the same for a slice of pattern ops
module _ (t : Operation) (p : PatternModel) (x : ℕ) (d : PatternOp) (old : List PatternOp) (same : old ≡ p.old) (some : 0 < length old) (root : p.root ≡ old_place p + (length old - 1))
    (h : Header) (gives : defining_op_head t any (Result x 0) ≡ Some h) (name : List ℕ) (is : name ≡ h.name)
    (r : Bool) (test : r ≡ named (name_of (get_or old (length old - 1) d).form) name) (other : not r ≡ true) where
  few : 0 < length p.old
  few = subst (λ os. 0 < length os) same some

  place : p.root ≡ old_place p + (length p.old - 1)
  place = root ∙ ap (λ os. old_place p + (length os - 1)) same

  unnamed : named (name_of (get_or p.old (length p.old - 1) d).form) h.name ≡ false
  unnamed = sym (test ∙ λ i. named (name_of (get_or (same i) (length (same i) - 1) d).form) (is i)) ∙ not-true r other

  pub other_is_not_matched : matched t any p x ≡ None
  other_is_not_matched = not_matched t p x d few place h gives unnamed

  pub other_fails : matched_tests t p x ≡ Some (fails.Operation p.root)
  other_fails = root_fails t p x d few place h gives unnamed
