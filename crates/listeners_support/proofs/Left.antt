-- The contexts of operations in a tree without one operation.
use Rattle.std.proofs.Common.{◌≡◌, refl, ap, sym, ◌∙◌, ℕ, zero, suc, ◌+◌, false, cond, eqb, eqb-true, List, [], ◌∷◌, map, Some, None, inl, inr}
use Rattle.ir_event.specs.trees.declared.place.Place.{Place}
use Rattle.ir_event.specs.trees.Tree.{OpOf, op, RegionsOf, no_regions, region, empty, block, OpsOf, no_ops, next, head, regions}
use Rattle.ir_event.specs.trees.Ids.{HasDistinctIds, first_of}
use Rattle.ir_event.specs.trees.Places.{each_list, regions_each_list, ops_each_list, drop_op, place_of}
use Rattle.ir_event.specs.store.Nodes.{node_of, regions_arguments}
use Rattle.ir_event.specs.tree_laws.Values.{region_at}
use Rattle.ir_event.specs.tree_laws.Reads.{is_among}
use Rattle.ir_event.specs.tree_laws.Stands.{StepOf, OpWithPathOf, op_with_path_id, stands, dropping, left_step, left_stand}
use Rattle.ir_event.specs.tree_laws.Members.{In}
use Rattle.ir_event.proofs.of_tree_laws.Listed.{bool_cases, neither}
use Rattle.listeners_support.specs.Surroundings.{last_name, last_names, ended_by, outer_of}
use Rattle.listeners_support.proofs.Points.{free_elsewhere}

-- two operations with the same context
pub record AlikeStands {N T A : Type 0} (s u : OpWithPathOf N T A) : Type 0 where
  pub node : node_of s.here ≡ node_of u.here
  pub lasts : last_names (regions s.here) ≡ last_names (regions u.here)
  pub outer : outer_of s.path ≡ outer_of u.path

module _ {N T A : Type 0} (x : ℕ) where
  abbrev d : ℕ → ℕ → OpsOf N T A → OpsOf N T A
  d = dropping x

  abbrev pub left_list : OpsOf N T A → OpsOf N T A
  left_list os = drop_op x (ops_each_list d os)

  pub left_head : (o : OpOf N T A) → head (each_list d o) ≡ head o
  left_head (op h rs) = refl

  -- the arguments of an operation's blocks are unchanged
  left_arguments : (p r : ℕ) (rs : RegionsOf N T A) → regions_arguments (regions_each_list d p r rs) ≡ regions_arguments rs
  left_arguments p r no_regions = refl
  left_arguments p r (region empty rs) = ap (λ l. None ∷ l) (left_arguments p (r + 1) rs)
  left_arguments p r (region (block args os) rs) = ap (λ l. Some args ∷ l) (left_arguments p (r + 1) rs)

  pub left_node : (o : OpOf N T A) → node_of (each_list d o) ≡ node_of o
  left_node (op h rs) = λ i. record { head = h; arguments = left_arguments h.id 0 rs i }

  -- a list without x keeps its last operation
  left_next : (o : OpOf N T A) (os : OpsOf N T A) → eqb (head o).id x ≡ false → left_list (next o os) ≡ next (each_list d o) (left_list os)
  left_next (op h rs) os e = ap (λ b. cond b (left_list os) (next (each_list d (op h rs)) (left_list os))) e

  left_last : (os : OpsOf N T A) → is_among x os ≡ false → last_name (left_list os) ≡ last_name os
  left_last no_ops f = refl
  left_last (next o os) f =
      let n = neither (eqb (head o).id x) (is_among x os) f in
      ap last_name (left_next o os n.0) ∙ λ i. first_of (left_last os n.1 i) (Some (left_head o i).name)

  -- and so do regions
  abbrev pub IsFree : RegionsOf N T A → Type 0
  IsFree rs = (r : ℕ) (args : List T) (os : OpsOf N T A) → region_at r rs ≡ Some (block args os) → is_among x os ≡ false

  left_lasts : (p r : ℕ) (rs : RegionsOf N T A) → IsFree rs → last_names (regions_each_list d p r rs) ≡ last_names rs
  left_lasts p r no_regions f = refl
  left_lasts p r (region empty rs) f = ap (λ l. None ∷ l) (left_lasts p (r + 1) rs (λ k args os. f (suc k) args os))
  left_lasts p r (region (block args os) rs) f = λ i. left_last os (f zero args os refl) i ∷ left_lasts p (r + 1) rs (λ k args os. f (suc k) args os) i

  left_lasts_op : (o : OpOf N T A) → IsFree (regions o) → last_names (regions (each_list d o)) ≡ last_names (regions o)
  left_lasts_op (op h rs) f = left_lasts h.id 0 rs f

  -- a list whose only operation is x
  left_none : (o : OpOf N T A) (os : OpsOf N T A) → left_list (next o os) ≡ no_ops → (head o).id ≡ x
  left_none o os e = elim (bool_cases (eqb (head o).id x)) [ inl k ↦ eqb-true (head o).id x k | inr k ↦ (let no : next (each_list d o) (left_list os) ≡ no_ops = sym (left_next o os k) ∙ e in absurd cc) ]

  pub first_gone : (o : OpOf N T A) (os rest : OpsOf N T A) → rest ≡ next o os → left_list rest ≡ no_ops → (head o).id ≡ x
  first_gone o os rest e f = left_none o os (ap left_list (sym e) ∙ f)

  -- if operation x is removed from a place, all operations keep their contexts, except its parents and the operation
  -- before it if x was the last
  pub far_alike : (t : OpOf N T A) → HasDistinctIds t → (place : Place) → place_of x t ≡ Some place → (s : OpWithPathOf N T A) → In s (stands [] t) → (op_with_path_id s ≡ place.parent → ⊥)
      → ((a : StepOf N T A) (q : List (StepOf N T A)) (o : OpOf N T A) (rest : OpsOf N T A) → s.path ≡ a ∷ q → a.rest ≡ next o rest → (head o).id ≡ x → left_list a.rest ≡ no_ops → ⊥)
      → AlikeStands (left_stand x s) s
  far_alike t dist place at s h apart f = record { node = left_node s.here; lasts = left_lasts_op s.here (free_elsewhere t dist x place at s.here s.path h apart); outer = outer s.path refl }
    where
      ended : (a : StepOf N T A) (q : List (StepOf N T A)) → s.path ≡ a ∷ q → (rest : OpsOf N T A) → a.rest ≡ rest → (l : OpsOf N T A) → left_list rest ≡ l → ended_by (each_list d a.parent) l ≡ ended_by a.parent rest
      ended a q i no_ops j l e = ap (ended_by (each_list d a.parent)) (sym e) ∙ ap Some (left_node a.parent)
      ended a q i (next o os) j (next u us) e = refl
      ended a q i (next o os) j no_ops e = absurd (f a q o os i j (left_none o os e) (ap left_list j ∙ e))

      outer : (path : List (StepOf N T A)) → s.path ≡ path → outer_of (map (left_step x) path) ≡ outer_of path
      outer [] i = refl
      outer (a ∷ q) i = λ k. Some (record { name = (left_head a.parent k).name; ended = ended a q i a.rest refl (left_list a.rest) refl k })
