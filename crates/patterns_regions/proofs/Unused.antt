-- Whether the results of an operation are used, by the uses of each; and how many it has.
use Rattle.std.proofs.Common.{◌≡◌, refl, ap, sym, ◌∙◌, subst, ℕ, ◌<◌, Bool, true, false, true≢false, not, eqb, eqb-true, eq-eqb, List, [], ◌∷◌, length, Option, Some, None, option_map, inl, inr}
use Rattle.std.specs.List.{list_all}
use Rattle.std.specs.Prelude.{MatchOption, is_some, option_and_then, slice_get}
use Rattle.std.proofs.lemmas.Option.{slice_get_within}
use Rattle.ir_event.specs.types.Things.{ContextModel}
use Rattle.ir_event.specs.types.Terms.{name_term, type_term, attr_term}
use Rattle.ir_event.specs.trees.declared.value.Value.{Value}
use Rattle.ir_event.specs.trees.declared.value.Value.TheVariants.{Result, Arg}
use Rattle.ir_event.specs.trees.Tree.{Op, OpOf, op, head}
use Rattle.ir_event.specs.trees.Ids.{HasDistinctIds, find}
use Rattle.ir_event.specs.trees.Meaning.{meaning}
use Rattle.ir_event.proofs.of_trees.Mapped.{map_every}
use Rattle.ir_event.specs.store.Nodes.{Node, node_of}
use Rattle.ir_event.specs.store.Using.{is_use}
use Rattle.ir_event.specs.trees.Uses.{uses_of, operand_uses}
use Rattle.ir_event.specs.trees.Sites.{operands_visible}
use Rattle.ir_event.proofs.of_trees.Replaced.{same_value_refl}
use Rattle.ir_event.specs.tree_laws.Stands.{OpWithPathOf, op_with_path_id, stands, dominated_by}
use Rattle.ir_event.specs.tree_laws.Members.{In}
use Rattle.ir_event.specs.tree_laws.Values.{has_value}
use Rattle.ir_event.proofs.of_tree_laws.Listed.{bool_cases, all_each, each_all}
use Rattle.ir_event.proofs.of_tree_laws.Readings.{stands_every, stands_uses}
use Rattle.ir_event.proofs.of_tree_laws.HeadForm.{used_here, in_gather}
use Rattle.ir_event.proofs.of_tree_laws.DominatedBy.{stands_operands}
use Rattle.ir_event.proofs.of_tree_laws.Values.{seen_by}
use Rattle.patterns_plans.proofs.of_base.Given.{user}
use Rattle.effects.specs.Dead.{is_result_of, is_unused}

module _ {N T A : Type 0} (isolated : N → Bool) (x : ℕ) (t : OpOf N T A) (d : HasDistinctIds t) (wellformed : operands_visible isolated t ≡ true) where
  -- if none of the results has a use, the operation is unused
  module _ (none : (k : ℕ) → has_value (Result x k) t ≡ true → uses_of (Result x k) t ≡ []) where
    not_there : (k : ℕ) (s : OpWithPathOf N T A) → In s (stands [] t) → In (Result x k) (head s.here).operands → ⊥
    not_there k s h m =
        let e = all_each (dominated_by isolated s.path) (head s.here).operands (all_each (λ (z : OpWithPathOf N T A). list_all (dominated_by isolated z.path) (head z.here).operands) (stands [] t) (sym (stands_operands isolated t) ∙ wellformed) s h) (Result x k) m in
        let there = (seen_by isolated t d s h (Result x k) e).is in
        let n = used_here (Result x k) (op_with_path_id s) 0 (head s.here).operands (Result x k) m (same_value_refl (Result x k)) in
        subst (In (op_with_path_id s, n.0)) (stands_uses (Result x k) [] t ∙ none k there) (in_gather (λ (z : OpWithPathOf N T A). operand_uses (Result x k) (op_with_path_id z) 0 (head z.here).operands) (op_with_path_id s, n.0) s (stands [] t) h n.1)

    spared : (s : OpWithPathOf N T A) → In s (stands [] t) → (v : Value) → In v (head s.here).operands → not (is_result_of x v) ≡ true
    spared s h (Arg y r k) m = refl
    spared s h (Result y k) m = elim (bool_cases (eqb y x)) [
      | inr e ↦ ap not e
      | inl e ↦ absurd (not_there k s h (subst (λ z. In (Result z k) (head s.here).operands) (eqb-true y x e) m))
    ]

    pub none_used : is_unused x t ≡ true
    none_used =
        sym (stands_every (λ o. list_all (λ v. not (is_result_of x v)) (head o).operands) [] t)
        ∙ each_all (λ (s : OpWithPathOf N T A). list_all (λ v. not (is_result_of x v)) (head s.here).operands) (stands [] t) (λ s h. each_all (λ v. not (is_result_of x v)) (head s.here).operands (spared s h))

-- if one result has a use, the operation is used
module _ {N T A : Type 0} (x k : ℕ) (t : OpOf N T A) where
  pub one_used : (u : ℕ × ℕ) → In u (uses_of (Result x k) t) → is_unused x t ≡ false
  one_used u h = elim (bool_cases (is_unused x t)) [
    | inr e ↦ e
    | inl e ↦ absurd (
        let s = user (Result x k) t u h in
        let all = all_each (λ (s : OpWithPathOf N T A). list_all (λ v. not (is_result_of x v)) (head s.here).operands) (stands [] t) (stands_every (λ o. list_all (λ v. not (is_result_of x v)) (head o).operands) [] t ∙ e) s.0 s.1 in
        let no = all_each (λ v. not (is_result_of x v)) (head s.0.here).operands all (Result x k) s.3 in
        true≢false (sym no ∙ ap not (eq-eqb x x refl)))
  ]

-- by numbers
pub unused_meant : (c : ContextModel) (x : ℕ) (t : Op) → is_unused x (meaning c t) ≡ is_unused x t
unused_meant c x t = map_every (name_term c) (type_term c) (attr_term c) _ _ own t
  where
    own : (o : Op) → list_all (λ v. not (is_result_of x v)) (head (meaning c o)).operands ≡ list_all (λ v. not (is_result_of x v)) (head o).operands
    own (op h rs) = refl

pub some_used : (x k : ℕ) (t : Op) (r : Option (ℕ × ℕ)) → MatchOption r (uses_of (Result x k) t ≡ []) (λ u. is_use u.0 u.1 (uses_of (Result x k) t) ≡ true) → (b : Bool) → b ≡ is_some r → b ≡ true → is_unused x t ≡ false
some_used x k t None m b e f = absurd (true≢false (sym f ∙ e))
some_used x k t (Some u) m b e f = go (uses_of (Result x k) t) refl m
  where
    go : (us : List (ℕ × ℕ)) → uses_of (Result x k) t ≡ us → is_use u.0 u.1 us ≡ true → is_unused x t ≡ false
    go [] g h = absurd (true≢false (sym h))
    go (v ∷ us) g h = one_used x k t v (subst (In v) (sym g) (inl refl))

-- the number of results that the store shows
results_in : (o : Op) (k : ℕ) → is_some (slice_get (head o).results k) ≡ true → k < length (node_of o).head.results
results_in (op h rs) k e = go (slice_get h.results k) refl e
  where
    go : (f : Option ℕ) → slice_get h.results k ≡ f → is_some f ≡ true → k < length h.results
    go None e h = absurd (true≢false (sym h))
    go (Some y) e i = slice_get_within h.results k y e

pub counted : (x k : ℕ) (t : Op) (n : Node) → Some n ≡ option_map node_of (find x t) → has_value (Result x k) t ≡ true → k < length n.head.results
counted x k t n e h = go (find x t) refl e
  where
    go : (o : Option Op) → find x t ≡ o → Some n ≡ option_map node_of o → k < length n.head.results
    go None f e = absurd cc
    go (Some o) f e =
        let same : n ≡ node_of o = cc in
        subst (λ (m : Node). k < length m.head.results) (sym same) (results_in o k (sym (ap (λ o. is_some (option_and_then (λ (z : Op). slice_get (head z).results k) o)) f) ∙ h))

pub not_counted : (x k : ℕ) (t : Op) → None ≡ option_map node_of (find x t) → has_value (Result x k) t ≡ true → ⊥
not_counted x k t e h = go (find x t) e h
  where
    go : (o : Option Op) → None ≡ option_map node_of o → is_some (option_and_then (λ (z : Op). slice_get (head z).results k) o) ≡ true → ⊥
    go None e h = true≢false (sym h)
    go (Some o) e h = absurd cc
