-- A value that dominates an operation may replace its results.
use Rattle.std.proofs.Common.{◌≡◌, refl, ap, sym, ◌∙◌, subst, ℕ, ◌+◌, Bool, true, false, cond, ◌&&◌, eqb, eqb-true, List, [], ◌∷◌, inl, inr}
use Rattle.std.specs.List.{list_all}
use Rattle.ir_tree.specs.declared.value.Value.{Value}
use Rattle.ir_tree.specs.declared.value.Value.TheVariants.{Result}
use Rattle.ir_tree.specs.Tree.{OpOf, head}
use Rattle.ir_tree.specs.Ids.{HasDistinctIds}
use Rattle.ir_tree.specs.Uses.{same_value, operand_uses, uses_of}
use Rattle.ir_tree.specs.Sites.{visible, operands_visible}
use Rattle.ir_tree.proofs.Replaced.{same_value_true}
use Rattle.ir_tree_laws.specs.Members.{In}
use Rattle.ir_tree_laws.specs.Stands.{OpWithPathOf, op_with_path_id, stands, gather, dominated_by}
use Rattle.ir_tree_laws.specs.Reasons.{is_visible_to_users}
use Rattle.ir_tree_laws.specs.Values.{has_value}
use Rattle.ir_tree_laws.proofs.Listed.{in_parts, one_any, all_each, each_all, both}
use Rattle.ir_tree_laws.proofs.Readings.{stands_uses}
use Rattle.ir_tree_laws.proofs.DominatedBy.{stands_visible, stands_operands, visible_there}
use Rattle.ir_tree_laws.proofs.Values.{seen_by}
use Rattle.patterns_base.proofs.Preceding.{after_dominated_by}
use Rattle.ir_tree_laws.proofs.ShiftDominance.{of_uses}

pub of_gather : {X Y : Type 0} (f : X → List Y) (y : Y) (xs : List X) → In y (gather f xs) → (x : X) × In x xs × In y (f x)
of_gather f y [] h = absurd h
of_gather f y (x ∷ xs) h = elim (in_parts y (f x) (gather f xs) h) [
  | inl k ↦ (x, inl refl, k)
  | inr k ↦ let w = of_gather f y xs k in (w.0, inr w.1, w.2)
]

module _ {N T A : Type 0} where
  -- a user of a value is an operation that has it as an operand
  pub user : (v : Value) (t : OpOf N T A) (u : ℕ × ℕ) → In u (uses_of v t) → (s : OpWithPathOf N T A) × In s (stands [] t) × (u.0 ≡ op_with_path_id s) × In v (head s.here).operands
  user v t u h =
      let w = of_gather (λ (s : OpWithPathOf N T A). operand_uses v (op_with_path_id s) 0 (head s.here).operands) u (stands [] t) (subst (In u) (sym (stands_uses v [] t)) h) in
      let r = of_uses v (op_with_path_id w.0) 0 (head w.0.here).operands u w.2 in
      (w.0, w.1, r.0, r.1)

  module _ (isolated : N → Bool) (t : OpOf N T A) (d : HasDistinctIds t) where
    -- if a value dominates an operation, the operation is in the tree
    pub seer : (x : ℕ) (v : Value) → visible isolated t x v ≡ true → (s : OpWithPathOf N T A) × In s (stands [] t) × (op_with_path_id s ≡ x) × (dominated_by isolated s.path v ≡ true)
    seer x v e =
        let w = one_any (λ (s : OpWithPathOf N T A). eqb (op_with_path_id s) x && dominated_by isolated s.path v) (stands [] t) (sym (stands_visible isolated t x v) ∙ e) in
        let b = both (eqb (op_with_path_id w.0) x) (dominated_by isolated w.0.path v) w.2 in
        (w.0, w.1, eqb-true (op_with_path_id w.0) x b.0, b.1)

    -- a dominating value exists
    pub seen_is : (x : ℕ) (v : Value) → visible isolated t x v ≡ true → has_value v t ≡ true
    seen_is x v e = let w = seer x v e in (seen_by isolated t d w.0 w.1 v w.3).is

    -- the values that dominate x dominate each user of a result of x
    pub users_see_it : operands_visible isolated t ≡ true → (x k : ℕ) (v : Value) → visible isolated t x v ≡ true → is_visible_to_users isolated (Result x k) v t ≡ true
    users_see_it wellformed x k v e = each_all (λ u. visible isolated t u.0 v) (uses_of (Result x k) t) (λ u h.
        let s = user (Result x k) t u h in
        let w = seer x v e in
        let own = all_each (dominated_by isolated s.0.path) (head s.0.here).operands (all_each (λ (z : OpWithPathOf N T A). list_all (dominated_by isolated z.path) (head z.here).operands) (stands [] t) (sym (stands_operands isolated t) ∙ wellformed) s.0 s.1) (Result x k) s.3 in
        ap (λ z. visible isolated t z v) s.2
        ∙ visible_there isolated t d s.0 s.1 v
        ∙ after_dominated_by isolated t d w.0.here w.0.path w.1 s.0.here s.0.path s.1 k (ap (λ z. dominated_by isolated s.0.path (Result z k)) w.2 ∙ own) v w.3)
