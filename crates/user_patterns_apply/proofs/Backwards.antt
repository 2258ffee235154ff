-- Pattern ops from the last to the first.
use Rattle.std.proofs.Common.{◌≡◌, ℕ, ◌+◌, ◌-◌, ◌≤◌, ◌<◌, refl, ap, sym, ◌∙◌, subst, List, ◌∷◌, length, take, get_or, Bool, true, false, Option, Some, None, arith}
use Rattle.std.specs.Prelude.{is_none}
use Rattle.ir_event.specs.trees.declared.value.Value.{Value}
use Rattle.ir_event.specs.trees.Meaning.{Operation}
use Rattle.user_patterns_check.specs.Outcomes.{given}
use Rattle.user_patterns_data.specs.Matching.{BoundValues, op_matches, ops_match, placed}
use Rattle.dialects_int.specs.declared.operations.Cast.TheVariants.{Truncate}
use Rattle.user_patterns_data.specs.declared.pattern.Expression.TheVariants as form
use Rattle.user_patterns_data.specs.declared.pattern.PatternOp.{PatternOp}
use Rattle.user_patterns_apply.specs.Matched.{any}
use Rattle.user_patterns_apply.specs.Mismatches.{Test, each, first_of, on_value, op_tests, ops_tests, unless}
use Rattle.user_patterns_apply.specs.declared.mismatch.Mismatch.{Mismatch}
use Rattle.user_patterns_apply.specs.Stands.{Stands}
use Rattle.user_patterns_apply.proofs.Binding.{stands_no, stands_yes}
use Rattle.user_patterns_apply.proofs.Placed.{placed_last}

-- the default for an index past the end of a list
pub some_pattern_op : PatternOp
some_pattern_op = record { form = form.IntegerCast Truncate 0; bare = false; ty = 0 }

module _ (t : Operation) (k : ℕ) (ps : List PatternOp) (left : ℕ) (some : 0 < left) (few : left ≤ length ps) where
  last : (d : PatternOp) → placed k (take left ps) ≡ (k + (left - 1), get_or ps (left - 1) d) ∷ placed k (take (left - 1) ps)
  last d =
      let one : left ≡ left - 1 + 1 = omega (arith, some) in
      ap (λ n. placed k (take n ps)) one ∙ placed_last k ps (left - 1) d (omega (arith, some, few))

  -- a test of each pattern op
  module _ (f : ℕ × PatternOp → Bool) (m : ℕ × PatternOp → Mismatch) (total : Test) (d : PatternOp) (same : each f m (placed k (take left ps)) ≡ total) (r : Bool) (is : r ≡ f (k + (left - 1), get_or ps (left - 1) d)) where
    here : first_of (unless r (m (k + (left - 1), get_or ps (left - 1) d))) (each f m (placed k (take (left - 1) ps))) ≡ total
    here = ap (λ z. first_of (unless z (m (k + (left - 1), get_or ps (left - 1) d))) (each f m (placed k (take (left - 1) ps)))) is ∙ sym (ap (each f m) (last d)) ∙ same

    pub each_stops : r ≡ false → Some (m (k + (left - 1), get_or ps (left - 1) d)) ≡ total
    each_stops e = ap (λ z. first_of (unless z (m (k + (left - 1), get_or ps (left - 1) d))) (each f m (placed k (take (left - 1) ps)))) (sym e) ∙ here

    pub each_goes : r ≡ true → each f m (placed k (take (left - 1) ps)) ≡ total
    each_goes e = ap (λ z. first_of (unless z (m (k + (left - 1), get_or ps (left - 1) d))) (each f m (placed k (take (left - 1) ps)))) (sym e) ∙ here

  module _ (b : BoundValues Value) (total : Option (BoundValues Value)) (same : ops_match t any (placed k (take left ps)) b ≡ total) (d : PatternOp) (new : BoundValues Value) (r : Bool) (stands : Stands (op_matches t any (k + (left - 1), get_or ps (left - 1) d) b) new r) where
    split : given (op_matches t any (k + (left - 1), get_or ps (left - 1) d) b) (ops_match t any (placed k (take (left - 1) ps))) ≡ total
    split = sym (ap (λ z. ops_match t any z b) (last d)) ∙ same

    pub pattern_ops_stop : r ≡ false → Stands total new false
    pattern_ops_stop e =
        let none : None ≡ total = ap (λ o. given o (ops_match t any (placed k (take (left - 1) ps)))) (sym (stands_no (op_matches t any (k + (left - 1), get_or ps (left - 1) d) b) new r stands e)) ∙ split in
        subst (λ z. Stands z new false) none refl

    pub pattern_ops_go : r ≡ true → ops_match t any (placed k (take (left - 1) ps)) new ≡ total
    pattern_ops_go e = ap (λ o. given o (ops_match t any (placed k (take (left - 1) ps)))) (sym (stands_yes (op_matches t any (k + (left - 1), get_or ps (left - 1) d) b) new r stands e)) ∙ split

  -- the tests of the pattern ops
  module _ (b : BoundValues Value) (total : Test) (same : ops_tests t (placed k (take left ps)) b ≡ total) (d : PatternOp) (new : BoundValues Value) (r : Test) (is : r ≡ op_tests t (k + (left - 1), get_or ps (left - 1) d) b) where
    abbrev rest : Test
    rest = on_value (op_matches t any (k + (left - 1), get_or ps (left - 1) d) b) (ops_tests t (placed k (take (left - 1) ps)))

    split_tests : first_of r rest ≡ total
    split_tests = ap (λ z. first_of z rest) is ∙ sym (ap (λ z. ops_tests t z b) (last d)) ∙ same

    pub ops_tests_stop : (m : Mismatch) → r ≡ Some m → Some m ≡ total
    ops_tests_stop m e = ap (λ z. first_of z rest) (sym e) ∙ split_tests

    pub ops_tests_go : Stands (op_matches t any (k + (left - 1), get_or ps (left - 1) d) b) new (is_none r) → r ≡ None → ops_tests t (placed k (take (left - 1) ps)) new ≡ total
    ops_tests_go stands e =
        sym (ap (λ z. on_value z (ops_tests t (placed k (take (left - 1) ps)))) (stands_yes (op_matches t any (k + (left - 1), get_or ps (left - 1) d) b) new (is_none r) stands (ap is_none e)))
        ∙ ap (λ z. first_of z rest) (sym e) ∙ split_tests
