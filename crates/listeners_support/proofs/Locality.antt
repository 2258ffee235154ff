-- Each event leaves the contexts of all operations unchanged that aren't near it.
use Rattle.std.proofs.Common.{◌≡◌, refl, ap, sym, ◌∙◌, subst, ℕ, zero, suc, ◌+◌, true, false, true≢false, cond, eqb, eq-eqb, eqb-true, List, [], ◌∷◌, map, Option, Some, None, inl, inr, ◌⊎◌}
use Rattle.std.specs.Prelude.{option_map}
use Rattle.ir_event.specs.trees.declared.value.Value.{Value}
use Rattle.ir_event.specs.trees.declared.place.Place.{Place}
use Rattle.ir_event.specs.trees.Tree.{HeadOf, OpOf, op, RegionsOf, no_regions, region, empty, block, OpsOf, no_ops, next, head, regions}
use Rattle.ir_event.specs.trees.Ids.{HasDistinctIds, first_of, find}
use Rattle.ir_event.specs.trees.Places.{each_list, regions_each_list, place_of, without}
use Rattle.ir_event.specs.trees.Uses.{uses_of}
use Rattle.ir_event.specs.trees.Frames.{owner_of}
use Rattle.ir_event.specs.store.Nodes.{node_of}
use Rattle.ir_event.specs.tree_laws.Changes.{HoldNone}
use Rattle.ir_event.specs.tree_laws.Values.{region_at}
use Rattle.ir_event.specs.tree_laws.Reads.{last_id, last_at}
use Rattle.ir_event.specs.tree_laws.Stands.{StepOf, OpWithPathOf, op_with_path_id, stands, dropping, left_step, left_stand}
use Rattle.ir_event.specs.tree_laws.Members.{In}
use Rattle.ir_event.proofs.of_tree_laws.Listed.{bool_cases}
use Rattle.ir_event.proofs.of_tree_laws.Members.{stand}
use Rattle.listeners_support.specs.Surroundings.{last_name, last_names, ended_by, outer_of, surroundings}
use Rattle.listeners_support.proofs.Operands.{not_used}
use Rattle.listeners_support.proofs.Left.{AlikeStands, left_list, left_head, left_node, first_gone, far_alike}
use Rattle.listeners_support.proofs.Alike.{both, same_value_type, same_surroundings}
use Rattle.listeners_support.proofs.Moves.{taken, untaken, nodes_taken, moved, Moved, left_some, found_moved, left_id}
use Rattle.listeners_support.proofs.Points.{next_in, last_is, placed_there}
use Rattle.listeners_support.proofs.Lasts.{not_last, not_last_after, some_last}

module _ {N T A : Type 0} (x : ℕ) where
  abbrev d : ℕ → ℕ → OpsOf N T A → OpsOf N T A
  d = dropping x

  gone_next : (o : OpOf N T A) (os : OpsOf N T A) → eqb (head o).id x ≡ true → left_list x (next o os) ≡ left_list x os
  gone_next (op h rs) os e = ap (λ b. cond b (left_list x os) (next (each_list d (op h rs)) (left_list x os))) e

  pub kept_next : (o : OpOf N T A) (os : OpsOf N T A) → eqb (head o).id x ≡ false → left_list x (next o os) ≡ next (each_list d o) (left_list x os)
  kept_next (op h rs) os e = ap (λ b. cond b (left_list x os) (next (each_list d (op h rs)) (left_list x os))) e

  some_named : (o : OpOf N T A) (os : OpsOf N T A) → (n : N) × (last_name (next o os) ≡ Some n)
  some_named o no_ops = ((head o).name, refl)
  some_named o (next u us) = let w = some_named u us in (w.0, ap (λ l. first_of l (Some (head o).name)) w.1)

  later_id : (o u : OpOf N T A) (us : OpsOf N T A) → last_id (next o (next u us)) ≡ last_id (next u us)
  later_id o u us = let w = some_last u us in ap (λ l. first_of l (Some (head o).id)) w.1 ∙ sym w.1

  later_name : (o u : OpOf N T A) (us : OpsOf N T A) → last_name (next o (next u us)) ≡ last_name (next u us)
  later_name o u us = let w = some_named u us in ap (λ l. first_of l (Some (head o).name)) w.1 ∙ sym w.1

  -- a list keeps its last operation if x, which isn't the last, is removed
  last_kept : (os : OpsOf N T A) → (last_id os ≡ Some x → ⊥) → last_name (left_list x os) ≡ last_name os
  last_kept no_ops f = refl
  last_kept (next o no_ops) f = elim (bool_cases (eqb (head o).id x)) [
    | inl e ↦ absurd (f (ap Some (eqb-true (head o).id x e)))
    | inr e ↦ ap last_name (kept_next o no_ops e) ∙ ap (λ (h : HeadOf N T A). Some h.name) (left_head x o)
  ]
  last_kept (next o (next u us)) f =
      let more = last_kept (next u us) (λ e. f (later_id o u us ∙ e)) in
      elim (bool_cases (eqb (head o).id x)) [
        | inl e ↦ ap last_name (gone_next o (next u us) e) ∙ more ∙ sym (later_name o u us)
        | inr e ↦ ap last_name (kept_next o (next u us) e) ∙ (λ i. first_of (more i) (Some (left_head x o i).name))
      ]

  -- and the id of its last operation
  pub last_id_kept : (os : OpsOf N T A) → (last_id os ≡ Some x → ⊥) → last_id (left_list x os) ≡ last_id os
  last_id_kept no_ops f = refl
  last_id_kept (next o no_ops) f = elim (bool_cases (eqb (head o).id x)) [
    | inl e ↦ absurd (f (ap Some (eqb-true (head o).id x e)))
    | inr e ↦ ap last_id (kept_next o no_ops e) ∙ ap (λ (h : HeadOf N T A). Some h.id) (left_head x o)
  ]
  last_id_kept (next o (next u us)) f =
      let more = last_id_kept (next u us) (λ e. f (later_id o u us ∙ e)) in
      elim (bool_cases (eqb (head o).id x)) [
        | inl e ↦ ap last_id (gone_next o (next u us) e) ∙ more ∙ sym (later_id o u us)
        | inr e ↦ ap last_id (kept_next o (next u us) e) ∙ (λ i. first_of (more i) (Some (left_head x o i).id))
      ]

  -- a list whose operations are all removed ends with x
  all_gone : (o : OpOf N T A) (os : OpsOf N T A) → left_list x (next o os) ≡ no_ops → last_id (next o os) ≡ Some x
  all_gone o no_ops e = ap Some (first_gone x o no_ops (next o no_ops) refl e)
  all_gone o (next u us) e =
      let first = first_gone x o (next u us) (next o (next u us)) refl e in
      later_id o u us ∙ all_gone u us (sym (gone_next o (next u us) (eq-eqb (head o).id x first)) ∙ e)

  lasts_kept : (p r : ℕ) (rs : RegionsOf N T A) → ((k : ℕ) (args : List T) (os : OpsOf N T A) → region_at k rs ≡ Some (block args os) → last_id os ≡ Some x → ⊥) → last_names (regions_each_list d p r rs) ≡ last_names rs
  lasts_kept p r no_regions f = refl
  lasts_kept p r (region empty rs) f = ap (λ l. None ∷ l) (lasts_kept p (r + 1) rs (λ k args os. f (suc k) args os))
  lasts_kept p r (region (block args os) rs) f = λ i. last_kept os (f zero args os refl) i ∷ lasts_kept p (r + 1) rs (λ k args os. f (suc k) args os) i

  lasts_kept_op : (o : OpOf N T A) → ((k : ℕ) (args : List T) (os : OpsOf N T A) → region_at k (regions o) ≡ Some (block args os) → last_id os ≡ Some x → ⊥) → last_names (regions (each_list d o)) ≡ last_names (regions o)
  lasts_kept_op (op h rs) f = lasts_kept h.id 0 rs f

  -- if x isn't the last of its block, all operations keep their contexts when x is removed
  inner_alike : (t : OpOf N T A) → HasDistinctIds t → (place : Place) (b : ℕ) → place_of x t ≡ Some place → place.before ≡ Some b → (s : OpWithPathOf N T A) → In s (stands [] t) → AlikeStands (left_stand x s) s
  inner_alike t dist place b at more s h = record { node = left_node x s.here; lasts = lasts_kept_op s.here (λ k args os e l. not_last t dist x place b at more s.here s.path k args os h e l); outer = outer s.path refl }
    where
      there : (a : StepOf N T A) (q : List (StepOf N T A)) → s.path ≡ a ∷ q → In (stand s.here (a ∷ q)) (stands [] t)
      there a q i = subst (λ l. In (stand s.here l) (stands [] t)) i h

      ended : (a : StepOf N T A) (q : List (StepOf N T A)) → s.path ≡ a ∷ q → (rest : OpsOf N T A) → a.rest ≡ rest → (l : OpsOf N T A) → left_list x rest ≡ l → ended_by (each_list d a.parent) l ≡ ended_by a.parent rest
      ended a q i no_ops j l e = ap (ended_by (each_list d a.parent)) (sym e) ∙ ap Some (left_node x a.parent)
      ended a q i (next o os) j (next u us) e = refl
      ended a q i (next o os) j no_ops e = absurd (not_last_after t dist x place b at more s.here a q (there a q i) (ap last_id j ∙ all_gone o os e))

      outer : (path : List (StepOf N T A)) → s.path ≡ path → outer_of (map (left_step x) path) ≡ outer_of path
      outer [] i = refl
      outer (a ∷ q) i = λ k. Some (record { name = (left_head x a.parent k).name; ended = ended a q i a.rest refl (left_list x a.rest) refl k })

  -- for any position of x: the operation before x and its parent are needed only at the end of a block
  abbrev pub Precedings : OpWithPathOf N T A → Type 0
  Precedings s = (a : StepOf N T A) (q : List (StepOf N T A)) (o : OpOf N T A) (rest : OpsOf N T A) → s.path ≡ a ∷ q → a.rest ≡ next o rest → (head o).id ≡ x → left_list x a.rest ≡ no_ops → ⊥

  pub any_alike : (t : OpOf N T A) → HasDistinctIds t → (place : Place) → place_of x t ≡ Some place → (s : OpWithPathOf N T A) → In s (stands [] t) → (place.before ≡ None → op_with_path_id s ≡ place.parent → ⊥) → (place.before ≡ None → Precedings s) → AlikeStands (left_stand x s) s
  any_alike t dist place at s h apart f = go place.before refl
    where
      go : (b : Option ℕ) → place.before ≡ b → AlikeStands (left_stand x s) s
      go None e = far_alike x t dist place at s h (apart e) (f e)
      go (Some b) e = inner_alike t dist place b at e s h

  -- removing x, or inserting it
  pub taken_leaves : (t w : OpOf N T A) (dt : HasDistinctIds t) (dw : HasDistinctIds w) (is : w ≡ without x t) (bare : (o : OpOf N T A) → find x t ≡ Some o → HoldNone (regions o)) (place : Place) → place_of x t ≡ Some place → ((v : Value) → (owner_of v).0 ≡ x → uses_of v t ≡ [])
      → (y : ℕ) → (y ≡ x → ⊥) → (place.before ≡ None → y ≡ place.parent → ⊥) → ((s : OpWithPathOf N T A) → In s (stands [] t) → op_with_path_id s ≡ y → place.before ≡ None → Precedings s) → surroundings y w ≡ surroundings y t
  taken_leaves t w dt dw is bare place at unused y apart outside f =
      sym (same_surroundings y t w
      (both AlikeStands y t w dt dw (λ s h i.
      let a = any_alike t dt place at s h (λ e k. outside e (sym i ∙ k)) (f s h i) in
      (left_stand x s, taken x t w dt dw is bare s h (λ k. apart (sym i ∙ k)), left_id x s ∙ i, record { node = sym a.node; lasts = sym a.lasts; outer = sym a.outer })) (untaken x t w dt dw is bare y))
      (λ s h i v k. same_value_type v t w (nodes_taken x t w dt dw is bare (owner_of v).0 (λ j. not_used v s t (unused v j) h k))))

  -- moving x with its subtree
  module _ (m n : OpOf N T A) (dm : HasDistinctIds m) (dn : HasDistinctIds n) (is : without x n ≡ without x m) (same : find x n ≡ find x m) (old new : Place) (was_at : place_of x m ≡ Some old) (is_at : place_of x n ≡ Some new) where
    -- only x and, where its old or new place is the end of a block, the operations before it and its parents may get
    -- another context
    pub moved_leaves : (y : ℕ) → (y ≡ x → ⊥) → (old.before ≡ None → y ≡ old.parent → ⊥) → (new.before ≡ None → ⊥) → (old.before ≡ None → last_at old.parent old.region n ≡ Some y → ⊥) → surroundings y n ≡ surroundings y m
    moved_leaves y apart outside_old inner_new not_last =
        sym (same_surroundings y m n
        (both AlikeStands y m n dm dn
        (λ s h i. let r = moved x m n dm dn (sym is) (sym same) s h (λ k. apart (sym i ∙ k)) in (r.0, r.1, r.2 ∙ i, alike s r.0 h r.1 i (r.2 ∙ i) r.3))
        (λ s h i. let r = moved x n m dn dm is same s h (λ k. apart (sym i ∙ k)) in (r.0, r.1, r.2 ∙ i)))
        (λ s h i v k. found_moved x m n dm dn is same old new was_at is_at v))
      where
        there : (t : OpOf N T A) (s : OpWithPathOf N T A) (a : StepOf N T A) (q : List (StepOf N T A)) → In s (stands [] t) → s.path ≡ a ∷ q → In (stand s.here (a ∷ q)) (stands [] t)
        there t s a q h p = subst (λ l. In (stand s.here l) (stands [] t)) p h

        before_some : (b : Option ℕ) → new.before ≡ b → (k : ℕ) × (new.before ≡ Some k)
        before_some None e = absurd (inner_new e)
        before_some (Some k) e = (k, e)

        -- nothing is left after y in its block: only x was the end of the block, and it isn't in n
        trailing : (r : OpWithPathOf N T A) → In r (stands [] n) → (b : StepOf N T A) (p : List (StepOf N T A)) → r.path ≡ b ∷ p → (l : OpsOf N T A) → b.rest ≡ l → left_list x b.rest ≡ no_ops → b.rest ≡ no_ops
        trailing r k b p c no_ops u none = u
        trailing r k b p c (next z zs) u none =
            let w = before_some new.before refl in
            absurd (not_last_after n dn x new w.0 is_at w.1 r.here b p (there n r b p k c) (ap last_id u ∙ all_gone z zs (ap (left_list x) (sym u) ∙ none)))

        ends : (s r : OpWithPathOf N T A) → In s (stands [] m) → In r (stands [] n) → op_with_path_id r ≡ y → left_stand x r ≡ left_stand x s → old.before ≡ None
            → (a : StepOf N T A) (q : List (StepOf N T A)) (o : OpOf N T A) (rest : OpsOf N T A) → s.path ≡ a ∷ q → a.rest ≡ next o rest → (head o).id ≡ x → left_list x a.rest ≡ no_ops
            → (b : StepOf N T A) (p : List (StepOf N T A)) → r.path ≡ b ∷ p → left_step x b ≡ left_step x a → ⊥
        ends s r h k i same old_end a q o rest j l g none b p c f =
            let empty_after = trailing r k b p c b.rest refl (ap (λ (w : StepOf N T A). w.rest) f ∙ none) in
            let at = placed_there m dm x old was_at o _ q (next_in m dm s.here a q o rest (there m s a q h j) l) g in
            let id : (head b.parent).id ≡ old.parent = ap (λ (z : HeadOf N T A). z.id) (sym (left_head x b.parent)) ∙ ap (λ (w : StepOf N T A). (head w.parent).id) f ∙ ap (λ (z : HeadOf N T A). z.id) (left_head x a.parent) ∙ at.0 in
            let number : b.region ≡ old.region = ap (λ (w : StepOf N T A). w.region) f ∙ at.1 in
            not_last old_end ((λ w. last_at (sym id w) (sym number w) n) ∙ last_is n dn r.here b p (there n r b p k c) empty_after ∙ ap Some i)

        alike : (s r : OpWithPathOf N T A) → In s (stands [] m) → In r (stands [] n) → op_with_path_id s ≡ y → op_with_path_id r ≡ y → Moved x s r → AlikeStands s r
        alike s r h k i j (inr q) = record { node = ap (λ o. node_of o) (sym q.0); lasts = ap (λ o. last_names (regions o)) (sym q.0); outer = sym q.1 }
        alike s r h k i j (inl q) =
            let a = any_alike m dm old was_at s h (λ e z. outside_old e (sym i ∙ z)) (λ e a p o rest f g l none.
            let b = left_some x r.path (left_step x a) (map (left_step x) p) (ap (λ (z : OpWithPathOf N T A). z.path) q ∙ ap (map (left_step x)) f) in
            ends s r h k j q e a p o rest f g l none b.0 b.1 b.2 b.3) in
            let w = before_some new.before refl in
            let b = inner_alike n dn new w.0 is_at w.1 r k in
            record {
              node = sym a.node ∙ ap (λ (z : OpWithPathOf N T A). node_of z.here) (sym q) ∙ b.node;
              lasts = sym a.lasts ∙ ap (λ (z : OpWithPathOf N T A). last_names (regions z.here)) (sym q) ∙ b.lasts;
              outer = sym a.outer ∙ ap (λ (z : OpWithPathOf N T A). outer_of z.path) (sym q) ∙ b.outer;
            }
