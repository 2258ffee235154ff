-- The contexts of operations when one is removed, inserted or moved.
use Rattle.std.proofs.Common.{◌≡◌, refl, ap, sym, ◌∙◌, subst, ℕ, ◌+◌, true≢false, eqb, eq-eqb, eqb-true, List, [], ◌∷◌, map, Option, Some, None, inl, inr, ◌⊎◌}
use Rattle.std.specs.Prelude.{option_map}
use Rattle.ir_event.specs.trees.declared.value.Value.{Value}
use Rattle.ir_event.specs.trees.declared.place.Place.{Place}
use Rattle.ir_event.specs.trees.Tree.{HeadOf, OpOf, op, RegionsOf, no_regions, region, empty, block, OpsOf, no_ops, next, head, regions}
use Rattle.ir_event.specs.trees.Ids.{HasDistinctIds, find}
use Rattle.ir_event.specs.trees.Uses.{uses_of}
use Rattle.ir_event.specs.trees.Places.{place_of, without}
use Rattle.ir_event.specs.trees.Frames.{owner_of}
use Rattle.ir_event.specs.store.Nodes.{node_of}
use Rattle.ir_event.specs.tree_laws.Changes.{HoldNone}
use Rattle.ir_event.specs.tree_laws.Values.{type_of_value}
use Rattle.ir_event.specs.tree_laws.Reads.{last_at, prev_of}
use Rattle.ir_event.specs.tree_laws.Stands.{StepOf, OpWithPathOf, op_with_path_id, stands, regions_stands, op_with_path, is_gone, left_step, left_stand}
use Rattle.ir_event.specs.tree_laws.Members.{In}
use Rattle.ir_event.proofs.of_tree_laws.Listed.{bool_cases}
use Rattle.ir_event.proofs.of_tree_laws.Readings.{stands_find}
use Rattle.ir_event.proofs.of_tree_laws.Members.{stand, within, member, stand_found, found_stands}
use Rattle.ir_event.proofs.of_tree_laws.Around.{Within, gone_within}
use Rattle.ir_event.proofs.of_tree_laws.Without.{left_member, member_left}
use Rattle.listeners_support.specs.Surroundings.{last_names, outer_of, surroundings}
use Rattle.listeners_support.proofs.Operands.{not_used}
use Rattle.listeners_support.proofs.Points.{next_in, prev_is, last_is, placed_there, again}
use Rattle.listeners_support.proofs.Left.{AlikeStands, left_list, left_head, left_node, first_gone, far_alike}
use Rattle.listeners_support.proofs.Alike.{Both, neither, each, both, same_value_type, same_surroundings}

module _ {N T A : Type 0} (x : ℕ) where
  pub left_id : (s : OpWithPathOf N T A) → op_with_path_id (left_stand x s) ≡ op_with_path_id s
  left_id s = ap (λ (h : HeadOf N T A). h.id) (left_head x s.here)

  none_inside : (p : OpOf N T A) (path : List (StepOf N T A)) (r : ℕ) (rs : RegionsOf N T A) (s : OpWithPathOf N T A) → HoldNone rs → In s (regions_stands p path r rs) → ⊥
  none_inside p path r no_regions s n h = h
  none_inside p path r (region empty rs) s n h = none_inside p path (r + 1) rs s n h
  none_inside p path r (region (block args no_ops) rs) s n h = none_inside p path (r + 1) rs s n h
  none_inside p path r (region (block args (next o os)) rs) s n h = n

  alone : (b : List (StepOf N T A)) (o : OpOf N T A) (s : OpWithPathOf N T A) → HoldNone (regions o) → In s (stands b o) → op_with_path_id s ≡ (head o).id
  alone b (op h rs) s n (inl e) = ap (λ (z : OpWithPathOf N T A). op_with_path_id z) e
  alone b (op h rs) s n (inr k) = absurd (none_inside (op h rs) b 0 rs s n k)

  -- an operation of a tree is kept, or is inside x
  left_or_within : (t : OpOf N T A) (s : OpWithPathOf N T A) → In s (stands [] t) → In (left_stand x s) (stands [] (without x t)) ⊎ Within x t s
  left_or_within t s h = elim (bool_cases (is_gone x s)) [ inr k ↦ inl (left_member x t s h k) | inl k ↦ inr (gone_within x t s.path s.here h k) ]

  top_found : (t : OpOf N T A) → HasDistinctIds t → (s : OpWithPathOf N T A) → (w : Within x t s) → find x t ≡ Some w.here
  top_found t d s w = ap (λ y. find y t) (sym w.id) ∙ stand_found t d (stand w.here (w.step_in ∷ w.path)) w.there

  -- ---- removing x, if it has no nested operations and its values have no uses
  module _ (t w : OpOf N T A) (d : HasDistinctIds t) (e : HasDistinctIds w) (is : w ≡ without x t) (empty : (o : OpOf N T A) → find x t ≡ Some o → HoldNone (regions o)) where
    pub taken : (s : OpWithPathOf N T A) → In s (stands [] t) → (op_with_path_id s ≡ x → ⊥) → In (left_stand x s) (stands [] w)
    taken s h apart = elim (left_or_within t s h) [
      | inl k ↦ subst (λ z. In (left_stand x s) (stands [] z)) (sym is) k
      | inr i ↦ absurd (apart (alone (i.step_in ∷ i.path) i.here s (empty i.here (top_found t d s i)) i.inner ∙ i.id))
    ]

    pub untaken : (z : ℕ) (r : OpWithPathOf N T A) → In r (stands [] w) → op_with_path_id r ≡ z → (s : OpWithPathOf N T A) × In s (stands [] t) × (op_with_path_id s ≡ z)
    untaken z r h i = let b = member_left x t r (subst (λ u. In r (stands [] u)) is h) in (b.0, b.1, sym (left_id b.0) ∙ ap (λ (s : OpWithPathOf N T A). op_with_path_id s) (sym b.3) ∙ i)

    pub nodes_taken : (z : ℕ) → (z ≡ x → ⊥) → Both (λ s r. node_of s.here ≡ node_of r.here) z t w
    nodes_taken z apart = both (λ s r. node_of s.here ≡ node_of r.here) z t w d e (λ s h i. (left_stand x s, taken s h (λ k. apart (sym i ∙ k)), left_id s ∙ i, sym (left_node x s.here))) (untaken z)

  -- ---- moving x with its subtree
  -- the operation is kept, or is the same with the same context
  abbrev pub Moved : OpWithPathOf N T A → OpWithPathOf N T A → Type 0
  Moved s r = (left_stand x r ≡ left_stand x s) ⊎ ((r.here ≡ s.here) × (outer_of r.path ≡ outer_of s.path))

  module _ (t u : OpOf N T A) (d : HasDistinctIds t) (e : HasDistinctIds u) (is : without x t ≡ without x u) (same : find x t ≡ find x u) where
    pub moved : (s : OpWithPathOf N T A) → In s (stands [] t) → (op_with_path_id s ≡ x → ⊥) → (r : OpWithPathOf N T A) × In r (stands [] u) × (op_with_path_id r ≡ op_with_path_id s) × Moved s r
    moved s h apart = elim (left_or_within t s h) [
      | inl k ↦ (let b = member_left x u (left_stand x s) (subst (λ z. In (left_stand x s) (stands [] z)) is k) in (b.0, b.1, sym (left_id b.0) ∙ ap (λ (z : OpWithPathOf N T A). op_with_path_id z) (sym b.3) ∙ left_id s, inl (sym b.3)))
      | inr i ↦ (let top = found_stands x u i.here (sym same ∙ top_found t d s i) in
          let there : In (stand i.here top.0.path) (stands [] u) = subst (λ q. In (stand q top.0.path) (stands [] u)) top.3 top.1 in
          elim (again (i.step_in ∷ i.path) top.0.path i.here s i.inner) [
            | inl k ↦ absurd (apart (ap (λ (z : OpWithPathOf N T A). op_with_path_id z) k ∙ i.id))
            | inr r ↦ (r.0, within i.here top.0.path r.0 r.1 [] u there, ap (λ o. (head o).id) r.2, inr (r.2, r.3))
          ])
    ]

  node_left : (s r : OpWithPathOf N T A) → Moved s r → node_of s.here ≡ node_of r.here
  node_left s r (inl e) = sym (left_node x s.here) ∙ ap (λ (z : OpWithPathOf N T A). node_of z.here) (sym e) ∙ left_node x r.here
  node_left s r (inr e) = ap (λ o. node_of o) (sym e.0)

  pub left_some : (p : List (StepOf N T A)) (c : StepOf N T A) (k : List (StepOf N T A)) → map (left_step x) p ≡ c ∷ k → (a : StepOf N T A) × (q : List (StepOf N T A)) × (p ≡ a ∷ q) × (left_step x a ≡ c)
  left_some [] c k e = absurd cc
  left_some (a ∷ q) c k e = (a, q, refl, cc)

  module _ (m n : OpOf N T A) (d : HasDistinctIds m) (e : HasDistinctIds n) (is : without x n ≡ without x m) (same : find x n ≡ find x m) (old new : Place) (was_at : place_of x m ≡ Some old) (is_at : place_of x n ≡ Some new) where
    pub found_moved : (v : Value) → type_of_value v m ≡ type_of_value v n
    found_moved v = elim (bool_cases (eqb (owner_of v).0 x)) [
      | inr k ↦ same_value_type v m n (nodes (owner_of v).0 (λ i. true≢false (sym (eq-eqb (owner_of v).0 x i) ∙ k)))
      | inl k ↦ same_value_type v m n (owned (eqb-true (owner_of v).0 x k))
    ]
      where
        nodes : (z : ℕ) → (z ≡ x → ⊥) → Both (λ s r. node_of s.here ≡ node_of r.here) z m n
        nodes z apart = both (λ s r. node_of s.here ≡ node_of r.here) z m n d e
            (λ s h i. let r = moved m n d e (sym is) (sym same) s h (λ k. apart (sym i ∙ k)) in (r.0, r.1, r.2 ∙ i, node_left s r.0 r.3))
            (λ s h i. let r = moved n m e d is same s h (λ k. apart (sym i ∙ k)) in (r.0, r.1, r.2 ∙ i))

        one : (a b : Option (OpWithPathOf N T A)) → option_map (λ (z : OpWithPathOf N T A). z.here) a ≡ option_map (λ (z : OpWithPathOf N T A). z.here) b → op_with_path x m ≡ a → op_with_path x n ≡ b → Both (λ s r. node_of s.here ≡ node_of r.here) x m n
        one None None k i j = neither i j
        one None (Some r) k i j = absurd cc
        one (Some s) None k i j = absurd cc
        one (Some s) (Some r) k i j = let both_here : s.here ≡ r.here = cc in each s r (member x (stands [] m) s i).0 i j (ap (λ o. node_of o) both_here)

        owned : (owner_of v).0 ≡ x → Both (λ s r. node_of s.here ≡ node_of r.here) (owner_of v).0 m n
        owned k = subst (λ z. Both (λ s r. node_of s.here ≡ node_of r.here) z m n) (sym k) (one (op_with_path x m) (op_with_path x n) (stands_find x [] m ∙ sym same ∙ sym (stands_find x [] n)) refl refl)

    -- only x, its parents, the operation that becomes the last of its old block, and the operation before its new
    -- place may get another context
    pub moved_far : (y : ℕ) → (y ≡ x → ⊥) → (y ≡ old.parent → ⊥) → (y ≡ new.parent → ⊥) → (last_at old.parent old.region n ≡ Some y → ⊥) → (prev_of x n ≡ Some y → ⊥) → surroundings y n ≡ surroundings y m
    moved_far y apart outside_old outside_new not_last not_preceding =
        sym (same_surroundings y m n
        (both AlikeStands y m n d e
        (λ s h i. let r = moved m n d e (sym is) (sym same) s h (λ k. apart (sym i ∙ k)) in (r.0, r.1, r.2 ∙ i, alike s r.0 h r.1 i (r.2 ∙ i) r.3))
        (λ s h i. let r = moved n m e d is same s h (λ k. apart (sym i ∙ k)) in (r.0, r.1, r.2 ∙ i)))
        (λ s h i v k. found_moved v))
      where
        there : (t : OpOf N T A) (s : OpWithPathOf N T A) (a : StepOf N T A) (q : List (StepOf N T A)) → In s (stands [] t) → s.path ≡ a ∷ q → In (stand s.here (a ∷ q)) (stands [] t)
        there t s a q h p = subst (λ l. In (stand s.here l) (stands [] t)) p h

        not_in_preceding : (r : OpWithPathOf N T A) → In r (stands [] n) → op_with_path_id r ≡ y → (b : StepOf N T A) (q : List (StepOf N T A)) (o : OpOf N T A) (rest : OpsOf N T A) → r.path ≡ b ∷ q → b.rest ≡ next o rest → (head o).id ≡ x → ⊥
        not_in_preceding r h i b q o rest j k l = not_preceding (ap (λ z. prev_of z n) (sym l) ∙ prev_is n e r.here b q o rest (there n r b q h j) k ∙ ap Some i)

        ends : (s r : OpWithPathOf N T A) → In s (stands [] m) → In r (stands [] n) → op_with_path_id r ≡ y → left_stand x r ≡ left_stand x s
            → (a : StepOf N T A) (q : List (StepOf N T A)) (o : OpOf N T A) (rest : OpsOf N T A) → s.path ≡ a ∷ q → a.rest ≡ next o rest → (head o).id ≡ x → left_list x a.rest ≡ no_ops
            → (b : StepOf N T A) (p : List (StepOf N T A)) → r.path ≡ b ∷ p → left_step x b ≡ left_step x a → (l : OpsOf N T A) → b.rest ≡ l → ⊥
        ends s r h k i same a q o rest j l g none b p c f (next z zs) u =
            not_in_preceding r k i b p z zs c u (first_gone x z zs b.rest u (ap (λ (w : StepOf N T A). w.rest) f ∙ none))
        ends s r h k i same a q o rest j l g none b p c f no_ops u =
            let at = placed_there m d x old was_at o _ q (next_in m d s.here a q o rest (there m s a q h j) l) g in
            let id : (head b.parent).id ≡ old.parent = ap (λ (z : HeadOf N T A). z.id) (sym (left_head x b.parent)) ∙ ap (λ (w : StepOf N T A). (head w.parent).id) f ∙ ap (λ (z : HeadOf N T A). z.id) (left_head x a.parent) ∙ at.0 in
            let number : b.region ≡ old.region = ap (λ (w : StepOf N T A). w.region) f ∙ at.1 in
            not_last ((λ w. last_at (sym id w) (sym number w) n) ∙ last_is n e r.here b p (there n r b p k c) u ∙ ap Some i)

        alike : (s r : OpWithPathOf N T A) → In s (stands [] m) → In r (stands [] n) → op_with_path_id s ≡ y → op_with_path_id r ≡ y → Moved s r → AlikeStands s r
        alike s r h k i j (inr q) = record { node = ap (λ o. node_of o) (sym q.0); lasts = ap (λ o. last_names (regions o)) (sym q.0); outer = sym q.1 }
        alike s r h k i j (inl q) =
            let a = far_alike x m d old was_at s h (λ z. outside_old (sym i ∙ z)) (λ a p o rest f g l none.
            let b = left_some r.path (left_step x a) (map (left_step x) p) (ap (λ (z : OpWithPathOf N T A). z.path) q ∙ ap (map (left_step x)) f) in
            ends s r h k j q a p o rest f g l none b.0 b.1 b.2 b.3 b.0.rest refl) in
            let b = far_alike x n e new is_at r k (λ z. outside_new (sym j ∙ z)) (λ b p o rest f g l none. not_in_preceding r k j b p o rest f g l) in
            record {
              node = sym a.node ∙ ap (λ (z : OpWithPathOf N T A). node_of z.here) (sym q) ∙ b.node;
              lasts = sym a.lasts ∙ ap (λ (z : OpWithPathOf N T A). last_names (regions z.here)) (sym q) ∙ b.lasts;
              outer = sym a.outer ∙ ap (λ (z : OpWithPathOf N T A). outer_of z.path) (sym q) ∙ b.outer;
            }
