-- Erasing an operation without used results.
use Rattle.std.proofs.Common.{◌≡◌, refl, ap, sym, ◌∙◌, subst, ℕ, ◌<◌, Bool, true, false, true≢false, not, eqb, eq-eqb, [], ◌∷◌, length, Option, Some, None, inl, inr}
use Rattle.std.specs.List.{list_all}
use Rattle.std.specs.Prelude.{slice_get, is_some, option_and_then}
use Rattle.ir_tree.specs.declared.value.Value.{Value}
use Rattle.ir_tree.specs.declared.value.Value.TheVariants.{Result}
use Rattle.ir_tree.specs.Tree.{OpOf, head}
use Rattle.ir_tree.specs.Ids.{HasDistinctIds, find}
use Rattle.ir_tree.specs.Uses.{uses_of, operand_uses}
use Rattle.ir_tree.specs.Frames.{owner_of}
use Rattle.ir_tree.specs.Sites.{operands_visible}
use Rattle.ir_tree.specs.Places.{without}
use Rattle.ir_tree.proofs.Replaced.{same_value_refl}
use Rattle.ir_tree_laws.specs.Stands.{OpWithPathOf, op_with_path_id, stands, dominated_by, gone_in, is_gone, dropping}
use Rattle.ir_tree_laws.specs.Members.{In}
use Rattle.ir_tree_laws.specs.Values.{has_value}
use Rattle.ir_tree_laws.specs.Reads.{is_within}
use Rattle.ir_tree_laws.specs.Reasons.{leaves_within, unused_outside}
use Rattle.ir_tree_laws.proofs.Listed.{bool_cases, all_each, each_all, or_left}
use Rattle.ir_tree_laws.proofs.Readings.{stands_every, stands_uses}
use Rattle.ir_tree_laws.proofs.Members.{within}
use Rattle.ir_tree_laws.proofs.Around.{present_stand, within_gone}
use Rattle.ir_tree_laws.proofs.Without.{member_left, same_head}
use Rattle.ir_tree_laws.proofs.HeadForm.{used_here, in_gather}
use Rattle.ir_tree_laws.proofs.DominatedBy.{stands_operands}
use Rattle.ir_tree_laws.proofs.Values.{seen_by}
use Rattle.ir_tree_laws.proofs.Shift.{inner_of}
use Rattle.patterns_base.proofs.Inner.{seen_outside}
use Rattle.std.proofs.lemmas.Option.{slice_get_within}

module _ {N T A : Type 0} (isolated : N → Bool) (x : ℕ) (t o : OpOf N T A) (d : HasDistinctIds t) (root : eqb (head t).id x ≡ false) (found : find x t ≡ Some o) (wellformed : operands_visible isolated t ≡ true) where
  -- none of its results is used
  module _ (unused : (k : ℕ) → k < length (head o).results → uses_of (Result x k) t ≡ []) where
    outside : (s : OpWithPathOf N T A) → In s (stands [] t) → is_gone x s ≡ false → (v : Value) → In v (head s.here).operands → is_within (owner_of v).0 (Some o) ≡ false
    outside s h g v m = elim (bool_cases (is_within (owner_of v).0 (Some o))) [
      | inr k ↦ k
      | inl k ↦ absurd (
          let i = inner_of x t o found root in
          let u = present_stand (i.step_in ∷ i.path) o (owner_of v).0 k in
          let there = within o (i.step_in ∷ i.path) u.0 u.1 [] t i.there in
          let gone = within_gone x o (i.step_in ∷ i.path) (or_left (eqb (head o).id x) (gone_in x i.step_in.parent i.path) (eq-eqb (head o).id x i.id)) u.0 u.1 in
          let e = all_each (dominated_by isolated s.path) (head s.here).operands (all_each (λ (z : OpWithPathOf N T A). list_all (dominated_by isolated z.path) (head z.here).operands) (stands [] t) (sym (stands_operands isolated t) ∙ wellformed) s h) v m in
          let r = seen_outside isolated x t d root s.here s.path h g v e u.0 there (sym u.2) gone in
          let w = seen_by isolated t d s h v e in
          used r.0 (few r.0 (ap (λ z. has_value z t) (sym r.1) ∙ w.is)) (subst (λ z. In z (head s.here).operands) r.1 m))
    ]
      where
        few : (k : ℕ) → is_some (option_and_then (λ z. slice_get (head z).results k) (find x t)) ≡ true → k < length (head o).results
        few k e = go (slice_get (head o).results k) refl (sym (ap (λ f. is_some (option_and_then (λ z. slice_get (head z).results k) f)) found) ∙ e)
          where
            go : (f : Option T) → slice_get (head o).results k ≡ f → is_some f ≡ true → k < length (head o).results
            go None e h = absurd (true≢false (sym h))
            go (Some y) e h = slice_get_within (head o).results k y e

        used : (k : ℕ) → k < length (head o).results → In (Result x k) (head s.here).operands → ⊥
        used k l m =
            let n = used_here (Result x k) (op_with_path_id s) 0 (head s.here).operands (Result x k) m (same_value_refl (Result x k)) in
            subst (In (op_with_path_id s, n.0)) (stands_uses (Result x k) [] t ∙ unused k l) (in_gather (λ (z : OpWithPathOf N T A). operand_uses (Result x k) (op_with_path_id z) 0 (head z.here).operands) (op_with_path_id s, n.0) s (stands [] t) h n.1)

    pub nobody_uses : unused_outside x t ≡ true
    nobody_uses =
        sym (stands_every (λ q. leaves_within (find x t) (head q)) [] (without x t))
        ∙ each_all (λ (u : OpWithPathOf N T A). leaves_within (find x t) (head u.here)) (stands [] (without x t)) (λ u h.
        let w = member_left x t u h in
        ap (λ (z : OpWithPathOf N T A). leaves_within (find x t) (head z.here)) w.3
        ∙ ap (leaves_within (find x t)) (same_head x (dropping x) w.0.here)
        ∙ ap (λ f. leaves_within f (head w.0.here)) found
        ∙ each_all (λ v. not (is_within (owner_of v).0 (Some o))) (head w.0.here).operands (λ v m. ap not (outside w.0 w.1 w.2 v m)))
