-- The contexts of operations in a tree with changed heads.
use Rattle.std.proofs.Common.{◌≡◌, refl, ap, sym, ◌∙◌, subst, ℕ, zero, suc, true, false, cond, eqb, eqb-true, List, [], ◌∷◌, map, Option, Some, None, inl, inr}
use Rattle.std.specs.Prelude.{option_map, option_and_then}
use Rattle.ir_event.specs.trees.declared.value.Value.{Value}
use Rattle.ir_event.specs.trees.Tree.{HeadOf, OpOf, op, RegionsOf, no_regions, region, empty, block, OpsOf, no_ops, next, head, regions}
use Rattle.ir_event.specs.trees.Ids.{HasDistinctIds, find, first_of}
use Rattle.ir_event.specs.trees.Edits.{each_head, regions_each_head, ops_each_head, at}
use Rattle.ir_event.specs.trees.Frames.{owner_of}
use Rattle.ir_event.specs.store.Nodes.{node_of, regions_arguments}
use Rattle.ir_event.specs.tree_laws.Values.{type_of_value, region_at}
use Rattle.ir_event.specs.tree_laws.Reads.{ops_in, last_id, last_at}
use Rattle.ir_event.specs.tree_laws.Stands.{StepOf, OpWithPathOf, op_with_path_id, stands, find_op_with_path, op_with_path, edit_step, edit_stand}
use Rattle.ir_event.specs.tree_laws.Members.{In}
use Rattle.ir_event.proofs.of_tree_laws.Listed.{bool_cases}
use Rattle.ir_event.proofs.of_tree_laws.Readings.{stands_find}
use Rattle.ir_event.proofs.of_tree_laws.Members.{stand, member}
use Rattle.ir_event.proofs.of_tree_laws.Heads.{each_stands}
use Rattle.listeners_support.specs.Surroundings.{last_name, last_names, ended_by, outer_of, surround, surroundings}
use Rattle.listeners_support.specs.Near.{if_any, lasts_of, lasts_in, lasts_found}
use Rattle.ir_event.proofs.Typed.{types_of, typed, typed_value}
use Rattle.listeners_support.proofs.Points.{last_is}

-- the last operation of a block is among the last ones
last_among : {N T A : Type 0} (y r : ℕ) (rs : RegionsOf N T A) → option_and_then last_id (option_and_then ops_in (region_at r rs)) ≡ Some y → In y (lasts_of rs)
last_among y r no_regions e = absurd cc
last_among y zero (region g rs) e = subst (λ (o : Option ℕ). In y (if_any o (lasts_of rs))) (sym e) (inl refl)
last_among y (suc r) (region g rs) e = go (option_and_then last_id (ops_in g)) (last_among y r rs e)
  where
    go : (o : Option ℕ) → In y (lasts_of rs) → In y (if_any o (lasts_of rs))
    go None h = h
    go (Some z) h = inr h

last_found : {N T A : Type 0} (y r : ℕ) (o : Option (OpOf N T A)) → option_and_then last_id (option_and_then (λ p. option_and_then ops_in (region_at r (regions p))) o) ≡ Some y → In y (lasts_found o)
last_found y r None e = absurd cc
last_found y r (Some p) e = last_among y r (regions p) e

last_in : {N T A : Type 0} (x y r : ℕ) (t : OpOf N T A) → last_at x r t ≡ Some y → In y (lasts_in x t)
last_in x y r t e = last_found y r (find x t) e

-- a head with the same id, name and result types
pub record Keeps {N T A : Type 0} (g h : HeadOf N T A) : Type 0 where
  pub id : g.id ≡ h.id
  pub name : g.name ≡ h.name
  pub results : g.results ≡ h.results

module _ {N T A : Type 0} (g : HeadOf N T A → HeadOf N T A) where
  each_arguments : (rs : RegionsOf N T A) → regions_arguments (regions_each_head g rs) ≡ regions_arguments rs
  each_arguments no_regions = refl
  each_arguments (region empty rs) = ap (λ l. None ∷ l) (each_arguments rs)
  each_arguments (region (block args os) rs) = ap (λ l. Some args ∷ l) (each_arguments rs)

  node_each : (o : OpOf N T A) → g (head o) ≡ head o → node_of (each_head g o) ≡ node_of o
  node_each (op h rs) e = λ i. record { head = e i; arguments = each_arguments rs i }

  each_operands : (o : OpOf N T A) → g (head o) ≡ head o → (head (each_head g o)).operands ≡ (head o).operands
  each_operands (op h rs) e = λ i. (e i).operands

  module _ (keeps : (h : HeadOf N T A) → Keeps (g h) h) where
    each_id : (o : OpOf N T A) → (head (each_head g o)).id ≡ (head o).id
    each_id (op h rs) = (keeps h).id

    each_name : (o : OpOf N T A) → (head (each_head g o)).name ≡ (head o).name
    each_name (op h rs) = (keeps h).name

    each_types : (o : OpOf N T A) → types_of (each_head g o) ≡ types_of o
    each_types (op h rs) = λ i. ((keeps h).results i, each_arguments rs i)

    stand_each : (x : ℕ) (ss : List (OpWithPathOf N T A)) → find_op_with_path x (map (edit_stand g) ss) ≡ option_map (edit_stand g) (find_op_with_path x ss)
    stand_each x [] = refl
    stand_each x (s ∷ ss) =
        (λ i. cond (eqb (each_id s.here i) x) (Some (edit_stand g s)) (stand_each x ss i))
        ∙ elim (eqb (op_with_path_id s) x) as (λ b. cond b (Some (edit_stand g s)) (option_map (edit_stand g) (find_op_with_path x ss)) ≡ option_map (edit_stand g) (cond b (Some s) (find_op_with_path x ss))) [ true ↦ refl | false ↦ refl ]

    stand_of_each : (x : ℕ) (t : OpOf N T A) → op_with_path x (each_head g t) ≡ option_map (edit_stand g) (op_with_path x t)
    stand_of_each x t = ap (find_op_with_path x) (each_stands g [] t) ∙ stand_each x (stands [] t)

    here_each : (o : Option (OpWithPathOf N T A)) → option_map types_of (option_map (λ (s : OpWithPathOf N T A). s.here) (option_map (edit_stand g) o)) ≡ option_map types_of (option_map (λ (s : OpWithPathOf N T A). s.here) o)
    here_each None = refl
    here_each (Some s) = ap Some (each_types s.here)

    types_each : (v : Value) (t : OpOf N T A) → type_of_value v (each_head g t) ≡ type_of_value v t
    types_each v t =
        let x = (owner_of v).0 in
        typed_value v (each_head g t)
        ∙ ap (λ o. option_and_then (typed v) (option_map types_of o)) (sym (stands_find x [] (each_head g t)))
        ∙ ap (λ o. option_and_then (typed v) (option_map types_of (option_map (λ (s : OpWithPathOf N T A). s.here) o))) (stand_of_each x t)
        ∙ ap (option_and_then (typed v)) (here_each (op_with_path x t))
        ∙ ap (λ o. option_and_then (typed v) (option_map types_of o)) (stands_find x [] t)
        ∙ sym (typed_value v t)

    last_each : (os : OpsOf N T A) → last_name (ops_each_head g os) ≡ last_name os
    last_each no_ops = refl
    last_each (next o os) = λ i. first_of (last_each os i) (Some (each_name o i))

    lasts_each : (rs : RegionsOf N T A) → last_names (regions_each_head g rs) ≡ last_names rs
    lasts_each no_regions = refl
    lasts_each (region empty rs) = ap (λ l. None ∷ l) (lasts_each rs)
    lasts_each (region (block args os) rs) = λ i. last_each os i ∷ lasts_each rs i

    lasts_each_op : (o : OpOf N T A) → last_names (regions (each_head g o)) ≡ last_names (regions o)
    lasts_each_op (op h rs) = lasts_each rs

-- an edit of operation x changes only the contexts of x and of the last operations of its blocks
module _ {N T A : Type 0} (x : ℕ) (f : HeadOf N T A → HeadOf N T A) (keeps : (h : HeadOf N T A) → Keeps (at x f h) h) where
  abbrev g : HeadOf N T A → HeadOf N T A
  g = at x f

  other : (h : HeadOf N T A) → eqb h.id x ≡ false → g h ≡ h
  other h e = ap (λ b. cond b (f h) h) e

  module _ (m n : OpOf N T A) (is : n ≡ each_head g m) (d : HasDistinctIds n) (y : ℕ) (apart : eqb y x ≡ false) (far : In y (lasts_in x n) → ⊥) where
    outer_each : (s : OpWithPathOf N T A) → op_with_path_id s ≡ y → In (edit_stand g s) (stands [] n) → (b : List (StepOf N T A)) → s.path ≡ b → outer_of (map (edit_step g) b) ≡ outer_of b
    outer_each s e h [] i = refl
    outer_each s e h (a ∷ q) i = λ k. Some (record { name = each_name g keeps a.parent k; ended = ends a.rest refl k })
      where
        there : In (stand (each_head g s.here) (edit_step g a ∷ map (edit_step g) q)) (stands [] n)
        there = subst (λ l. In (stand (each_head g s.here) (map (edit_step g) l)) (stands [] n)) i h

        ends : (rest : OpsOf N T A) → a.rest ≡ rest → ended_by (each_head g a.parent) (ops_each_head g rest) ≡ ended_by a.parent rest
        ends (next o os) j = refl
        ends no_ops j = elim (bool_cases (eqb (head a.parent).id x)) [
          | inr k ↦ ap Some (node_each g a.parent (other (head a.parent) k))
          | inl k ↦ (let last = last_is n d (each_head g s.here) (edit_step g a) (map (edit_step g) q) there (ap (ops_each_head g) j) in
              let id : (head (each_head g a.parent)).id ≡ x = each_id g keeps a.parent ∙ eqb-true (head a.parent).id x k in
              let at_x : last_at x a.region n ≡ Some y = ap (λ z. last_at z a.region n) (sym id) ∙ last ∙ ap Some (each_id g keeps s.here ∙ e) in
              absurd (far (last_in x y a.region n at_x)))
        ]

    pub each_far : surroundings y n ≡ surroundings y m
    each_far = go (op_with_path y m) refl
      where
        found : op_with_path y n ≡ option_map (edit_stand g) (op_with_path y m)
        found = ap (op_with_path y) is ∙ stand_of_each g keeps y m

        go : (o : Option (OpWithPathOf N T A)) → op_with_path y m ≡ o → surroundings y n ≡ surroundings y m
        go None e = ap (option_map (surround n)) (found ∙ ap (option_map (edit_stand g)) e) ∙ sym (ap (option_map (surround m)) e)
        go (Some s) e =
            let there : op_with_path y n ≡ Some (edit_stand g s) = found ∙ ap (option_map (edit_stand g)) e in
            let mem = member y (stands [] m) s e in
            let mem2 = member y (stands [] n) (edit_stand g s) there in
            let kept : g (head s.here) ≡ head s.here = other (head s.here) (ap (λ z. eqb z x) mem.1 ∙ apart) in
            let types : (v : Value) → type_of_value v n ≡ type_of_value v m = λ v. ap (type_of_value v) is ∙ types_each g keeps v m in
            let same : surround n (edit_stand g s) ≡ surround m s = (λ i. record {
              node = node_each g s.here kept i;
              lasts = lasts_each_op g keeps s.here i;
              types = map (λ v. types v i) (each_operands g s.here kept i);
              outer = outer_each s mem.1 mem2.0 s.path refl i;
            }) in
            ap (option_map (surround n)) there ∙ ap Some same ∙ sym (ap (option_map (surround m)) e)
