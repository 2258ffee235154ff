-- Used results and dead operations, by numbers.
use Rattle.std.proofs.Common.{◌≡◌, refl, ap, sym, ◌∙◌, subst, ℕ, ◌+◌, ◌<◌, ◌≤◌, Bool, true, false, true≢false, cond, ◌&&◌, not, eqb, eq-eqb, eqb-true, List, [], ◌∷◌, ◌++◌, length, map, Option, Some, None, option_map, inl, inr, arith}
use Rattle.std.specs.Prelude.{slice_get, is_some, option_and_then, nat_lt, nat_le}
use Rattle.std.specs.List.{list_all}
use Rattle.std.proofs.lemmas.Bool.{leb-true}
use Rattle.ir_event.specs.types.Things.{ContextModel}
use Rattle.ir_event.specs.types.Terms.{name_term, type_term, attr_term}
use Rattle.ir_event.specs.trees.declared.value.Value.{Value}
use Rattle.ir_event.specs.trees.declared.value.Value.TheVariants.{Result, Arg}
use Rattle.ir_event.specs.trees.Tree.{HeadOf, OpOf, Op, op, RegionsOf, no_regions, region, RegionOf, empty, block, OpsOf, no_ops, next, head}
use Rattle.ir_event.specs.trees.Ids.{HasDistinctIds, find}
use Rattle.ir_event.specs.trees.Uses.{uses_of, operand_uses, same_value}
use Rattle.ir_event.specs.trees.Limits.{op_fits, head_fits, items_fit, most_items, most_regions, all_arguments_pass}
use Rattle.ir_event.specs.trees.Tree.{region_count}
use Rattle.ir_event.specs.trees.Maps.{map_head, map_tree, map_regions, map_region, map_ops}
use Rattle.ir_event.specs.trees.Meaning.{meaning, isolated_in}
use Rattle.ir_event.proofs.of_trees.Mapped.{map_find}
use Rattle.ir_event.proofs.of_trees.Replaced.{same_value_refl, same_value_true}
use Rattle.ir_event.specs.tree_laws.Stands.{OpWithPathOf, op_with_path_id, stands, dominated_by, gather}
use Rattle.ir_event.specs.tree_laws.Members.{In}
use Rattle.ir_event.proofs.of_tree_laws.Listed.{bool_cases, all_each, each_all, both}
use Rattle.ir_event.proofs.of_tree_laws.Readings.{stands_every, stands_uses}
use Rattle.ir_event.proofs.of_tree_laws.Members.{found_stands}
use Rattle.ir_event.proofs.of_tree_laws.HeadForm.{used_here, in_gather}
use Rattle.ir_event.proofs.of_tree_laws.Wellformed.{from_wellformed}
use Rattle.ir_event.proofs.of_tree_laws.Values.{seen_by}
use Rattle.ir_event.specs.store.Nodes.{Node, node_of}
use Rattle.ir_event.specs.declared.world.World.{World}
use Rattle.ir_event.specs.Heads.{heads, all_operands}
use Rattle.op_registry.specs.declared.own.Own.{Own}
use Rattle.op_registry.specs.Registry.{own_of}
use Rattle.effects.specs.Counts.{results_among}
use Rattle.effects.specs.Dead.{is_result_of, is_unused, is_kept, may_go, dead_in, dead_at}
use Rattle.effects.specs.Effects.{effects, regions_effects, region_effects, ops_effects, effects_by, union, own_by}
use Rattle.effects.specs.Idle.{idle_in, idle_at}
use Rattle.effects.proofs.Headed.{unused_is, mapped_heads}
use Rattle.ir_event.proofs.of_tree_laws.Changed.{gather_none}
use Rattle.std.proofs.lemmas.Option.{slice_get_within}

-- a result that is used
pub none_here : (v : Value) (x k : ℕ) (ws : List Value) → ((w : Value) → In w ws → same_value v w ≡ false) → operand_uses v x k ws ≡ []
none_here v x k [] f = refl
none_here v x k (w ∷ ws) f = ap (λ b. cond b ((x, k) ∷ operand_uses v x (k + 1) ws) (operand_uses v x (k + 1) ws)) (f w (inl refl)) ∙ none_here v x (k + 1) ws (λ u h. f u (inr h))

module _ {N T A : Type 0} where
  each_unused : (x : ℕ) (t : OpOf N T A) → is_unused x t ≡ true → (s : OpWithPathOf N T A) → In s (stands [] t) → (v : Value) → In v (head s.here).operands → not (is_result_of x v) ≡ true
  each_unused x t e s h v m = all_each (λ v. not (is_result_of x v)) (head s.here).operands (all_each (λ (s : OpWithPathOf N T A). list_all (λ v. not (is_result_of x v)) (head s.here).operands) (stands [] t) (stands_every (λ o. list_all (λ v. not (is_result_of x v)) (head o).operands) [] t ∙ e) s h) v m

  no_uses : (x k : ℕ) (t : OpOf N T A) → is_unused x t ≡ true → uses_of (Result x k) t ≡ []
  no_uses x k t e =
      sym (stands_uses (Result x k) [] t)
      ∙ gather_none (λ (s : OpWithPathOf N T A). operand_uses (Result x k) (op_with_path_id s) 0 (head s.here).operands) (stands [] t) (λ s h.
      none_here (Result x k) (op_with_path_id s) 0 (head s.here).operands (λ w m. elim (bool_cases (same_value (Result x k) w)) [
        | inr i ↦ i
        | inl i ↦ absurd (
            let one : Result x k ≡ w = same_value_true (Result x k) w i in
            let own : is_result_of x w ≡ true = ap (is_result_of x) (sym one) ∙ eq-eqb x x refl in
            true≢false (sym (each_unused x t e s h w m) ∙ ap not own))
      ]))

  pub used_result : (x k : ℕ) (t : OpOf N T A) → (uses_of (Result x k) t ≡ [] → ⊥) → false ≡ is_unused x t
  used_result x k t some = go (is_unused x t) refl
    where
      go : (b : Bool) → is_unused x t ≡ b → false ≡ b
      go false e = refl
      go true e = absurd (some (no_uses x k t e))

  -- results without uses
  module _ (isolated : N → Bool) (t : OpOf N T A) (d : HasDistinctIds t) (wellformed : (s : OpWithPathOf N T A) → In s (stands [] t) → list_all (dominated_by isolated s.path) (head s.here).operands ≡ true) (x : ℕ) (o : OpOf N T A) (found : find x t ≡ Some o)
      (unused : (k : ℕ) → k < length (head o).results → uses_of (Result x k) t ≡ []) where
    few : (k : ℕ) → is_some (option_and_then (λ z. slice_get (head z).results k) (find x t)) ≡ true → k < length (head o).results
    few k e = go (slice_get (head o).results k) refl (sym (ap (λ f. is_some (option_and_then (λ z. slice_get (head z).results k) f)) found) ∙ e)
      where
        go : (f : Option T) → slice_get (head o).results k ≡ f → is_some f ≡ true → k < length (head o).results
        go None e h = absurd (true≢false (sym h))
        go (Some y) e h = slice_get_within (head o).results k y e

    not_used : (s : OpWithPathOf N T A) → In s (stands [] t) → (k : ℕ) → In (Result x k) (head s.here).operands → ⊥
    not_used s h k m =
        let e = all_each (dominated_by isolated s.path) (head s.here).operands (wellformed s h) (Result x k) m in
        let l = few k (seen_by isolated t d s h (Result x k) e).is in
        let n = used_here (Result x k) (op_with_path_id s) 0 (head s.here).operands (Result x k) m (same_value_refl (Result x k)) in
        subst (In (op_with_path_id s, n.0)) (stands_uses (Result x k) [] t ∙ unused k l) (in_gather (λ (z : OpWithPathOf N T A). operand_uses (Result x k) (op_with_path_id z) 0 (head z.here).operands) (op_with_path_id s, n.0) s (stands [] t) h n.1)

    one_unused : (s : OpWithPathOf N T A) → In s (stands [] t) → (v : Value) → In v (head s.here).operands → not (is_result_of x v) ≡ true
    one_unused s h (Arg y r k) m = refl
    one_unused s h (Result y k) m = go (eqb y x) refl
      where
        go : (b : Bool) → eqb y x ≡ b → not b ≡ true
        go false e = refl
        go true e = absurd (not_used s h k (subst (λ z. In (Result z k) (head s.here).operands) (eqb-true y x e) m))

    pub unused_results : true ≡ is_unused x t
    unused_results =
        sym (sym (stands_every (λ o. list_all (λ v. not (is_result_of x v)) (head o).operands) [] t)
        ∙ each_all (λ (s : OpWithPathOf N T A). list_all (λ v. not (is_result_of x v)) (head s.here).operands) (stands [] t) (λ s h. each_all (λ v. not (is_result_of x v)) (head s.here).operands (λ v m. one_unused s h v m)))

-- in terms of the module's contents
module _ {N T A M U B : Type 0} (f : N → M) (g : T → U) (h : A → B) where
  mapped_operands : (hs : List (HeadOf N T A)) → all_operands (map (map_head f g h) hs) ≡ all_operands hs
  mapped_operands [] = refl
  mapped_operands (x ∷ hs) = ap (λ l. x.operands ++ l) (mapped_operands hs)

  mapped_unused : (x : ℕ) (t : OpOf N T A) → is_unused x (map_tree f g h t) ≡ is_unused x t
  mapped_unused x t =
      unused_is x (map_tree f g h t)
      ∙ ap (λ hs. nat_lt (results_among x (all_operands hs)) 1) (mapped_heads f g h t)
      ∙ ap (λ vs. nat_lt (results_among x vs) 1) (mapped_operands (heads t))
      ∙ sym (unused_is x t)

  module _ (own : M → Own) where
    mutual
      mapped_effects : (t : OpOf N T A) → effects own (map_tree f g h t) ≡ effects (λ n. own (f n)) t
      mapped_effects (op x rs) = ap (effects_by (own (f x.name))) (mapped_regions rs)

      mapped_regions : (rs : RegionsOf N T A) → regions_effects own (map_regions f g h rs) ≡ regions_effects (λ n. own (f n)) rs
      mapped_regions no_regions = refl
      mapped_regions (region r rs) = λ i. union (mapped_region r i) (mapped_regions rs i)

      mapped_region : (r : RegionOf N T A) → region_effects own (map_region f g h r) ≡ region_effects (λ n. own (f n)) r
      mapped_region empty = refl
      mapped_region (block args os) = mapped_ops os

      mapped_ops : (os : OpsOf N T A) → ops_effects own (map_ops f g h os) ≡ ops_effects (λ n. own (f n)) os
      mapped_ops no_ops = refl
      mapped_ops (next o os) = λ i. union (mapped_effects o i) (mapped_ops os i)

module _ (c : ContextModel) (x : ℕ) (t : Op) where
  dead_is : dead_at x (meaning c t) ≡ dead_in (meaning c t) (option_map (meaning c) (find x t))
  dead_is = ap (dead_in (meaning c t)) (map_find (name_term c) (type_term c) (attr_term c) x t)

  -- the view of x decides
  module _ (n : Node) (shown : Some n ≡ option_map node_of (find x t)) where
    pub dead_shown : (kept unused idle : Bool) → kept ≡ is_kept (name_term c n.head.name) → unused ≡ is_unused x t → idle ≡ idle_at (own_by c) x t → dead_at x (meaning c t) ≡ (unused && (not kept && idle))
    dead_shown kept unused idle e f k = dead_is ∙ go (find x t) refl
      where
        go : (o : Option Op) → find x t ≡ o → dead_in (meaning c t) (option_map (meaning c) o) ≡ (unused && (not kept && idle))
        go None i = let bad : Some n ≡ None = shown ∙ ap (option_map node_of) i in absurd cc
        go (Some (op h rs)) i =
            let one : Some n ≡ Some (node_of (op h rs)) = shown ∙ ap (option_map node_of) i in
            let node : n ≡ node_of (op h rs) = cc in
            let s = found_stands x t (op h rs) i in
            let id : h.id ≡ x = ap (λ (z : Op). (head z).id) (sym s.3) ∙ s.2 in
            let used : is_unused h.id (meaning c t) ≡ unused = ap (λ y. is_unused y (meaning c t)) id ∙ mapped_unused (name_term c) (type_term c) (attr_term c) x t ∙ sym f in
            let stays : is_kept (name_term c h.name) ≡ kept = ap (λ (z : Node). is_kept (name_term c z.head.name)) (sym node) ∙ sym e in
            let goes : may_go (effects own_of (meaning c (op h rs))) ≡ idle = ap may_go (mapped_effects (name_term c) (type_term c) (attr_term c) own_of (op h rs)) ∙ sym (k ∙ ap (idle_in (own_by c)) i) in
            λ j. used j && (not (stays j) && goes j)

  pub dead_none : None ≡ option_map node_of (find x t) → false ≡ dead_at x (meaning c t)
  dead_none e = go (find x t) e ∙ sym dead_is
    where
      go : (o : Option Op) → None ≡ option_map node_of o → false ≡ dead_in (meaning c t) (option_map (meaning c) o)
      go None e = refl
      go (Some o) e = absurd cc

pub few_results : (w : World) (x : ℕ) (n : Node) → Some n ≡ option_map node_of (find x w.store.module_of.tree) → length n.head.results ≤ 256
few_results w x n e = go (find x w.store.module_of.tree) refl e
  where
    own : (o : Op) → op_fits o ≡ true → length (node_of o).head.results ≤ 256
    own (op h rs) f =
        let a = both (head_fits h) (nat_le (region_count rs) most_regions && all_arguments_pass items_fit rs) f in
        let b = both (items_fit h.operands) (items_fit h.results && (items_fit h.properties && items_fit h.attributes)) a.0 in
        leb-true (length h.results) most_items (both (items_fit h.results) (items_fit h.properties && items_fit h.attributes) b.1).0

    go : (f : Option Op) → find x w.store.module_of.tree ≡ f → Some n ≡ option_map node_of f → length n.head.results ≤ 256
    go None i k = absurd cc
    go (Some o) i k =
        let one : n ≡ node_of o = cc in
        let s = found_stands x w.store.module_of.tree o i in
        let small = own s.0.here ((from_wellformed (isolated_in w.ctx) w.store.module_of.tree w.wellformed.wellformed).fits s.0 s.1) in
        let same = ap (λ (z : Op). length (node_of z).head.results) s.3 in
        let count = ap (λ (m : Node). length m.head.results) one in
        omega (arith, small, same, count)

-- no result of x in the view is used
pub none_used : (w : World) (x : ℕ) (n : Node) → Some n ≡ option_map node_of (find x w.store.module_of.tree) → ((k : ℕ) → k < length n.head.results → uses_of (Result x k) w.store.module_of.tree ≡ []) → true ≡ is_unused x w.store.module_of.tree
none_used w x n e u = go (find x w.store.module_of.tree) refl e
  where
    results : (o : Op) → length (node_of o).head.results ≡ length (head o).results
    results (op h rs) = refl

    go : (f : Option Op) → find x w.store.module_of.tree ≡ f → Some n ≡ option_map node_of f → true ≡ is_unused x w.store.module_of.tree
    go None i k = absurd cc
    go (Some o) i k =
        let one : n ≡ node_of o = cc in
        let count : length n.head.results ≡ length (head o).results = ap (λ (m : Node). length m.head.results) one ∙ results o in
        unused_results (isolated_in w.ctx) w.store.module_of.tree w.wellformed.distinct (λ s h. (from_wellformed (isolated_in w.ctx) w.store.module_of.tree w.wellformed.wellformed).dominated_by_own s h) x o i (λ j l. u j (omega (arith, l, count)))
