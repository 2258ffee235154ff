-- Ids, counts, uses and reads of the other operations, after inserting and taking out.
use Rattle.std.proofs.Common.{◌≡◌, refl, ap, sym, ◌∙◌, subst, ℕ, ◌+◌, Bool, true, false, cond, eqb, List, [], ◌∷◌, ◌++◌, length, map, filter, Some, option_map, arith}
use Rattle.std.specs.Prelude.{◌-◌}
use Rattle.std.proofs.lemmas.List.{length-map}
use Rattle.ir_tree.specs.declared.value.Value.{Value}
use Rattle.ir_tree.specs.declared.place.Place.{Place}
use Rattle.ir_tree.specs.Tree.{HeadOf, OpOf, head}
use Rattle.ir_tree.specs.Ids.{ids, op_count, has_id, find, HasDistinctIds}
use Rattle.ir_tree.specs.Frames.{owner_of}
use Rattle.ir_tree.specs.Uses.{operand_uses, uses_of}
use Rattle.ir_tree.specs.Sites.{visible}
use Rattle.ir_tree.specs.Places.{put, without, place_of}
use Rattle.ir_tree.proofs.Left.{left_distinct}
use Rattle.ir_tree_laws.specs.Members.{In}
use Rattle.ir_tree_laws.specs.Preorder.{IsCutAt}
use Rattle.ir_tree_laws.specs.Reads.{around}
use Rattle.ir_tree_laws.specs.Restores.{MayPut}
use Rattle.ir_tree_laws.specs.Stands.{StepOf, OpWithPathOf, op_with_path_id, stands, op_with_path, gather, is_gone, left_step, left_stand, dropping, place_in, table_in}
use Rattle.ir_tree_laws.specs.Tables.{table_of}
use Rattle.ir_tree_laws.proofs.Readings.{stands_table}
use Rattle.ir_tree_laws.proofs.Members.{stand, stand_of_member, stand_found}
use Rattle.ir_tree_laws.proofs.Around.{present_stand, stands_around}
use Rattle.ir_tree_laws.proofs.Without.{member_left, same_head, left_dominated_by_same}
use Rattle.ir_tree_laws.proofs.DominatedBy.{visible_there}
use Rattle.ir_tree_laws.proofs.Stretches.{Parted, part, parted_ids, left_ids, parted_count, parted_uses, left_uses_of}
use Rattle.ir_tree_laws.proofs.PutForm.{landed, put_around, put_back}
use Rattle.ir_tree_laws.proofs.Cuts.{put_part, put_ids, put_left_ids, put_cut}
use Rattle.ir_tree_laws.proofs.Shift.{Inner, inner_of, inner_place}

module _ {N T A : Type 0} (place : Place) (o t : OpOf N T A) (may : MayPut place o t) where
  -- the inserted operations are one segment of the list
  pub put_inside : (path : List (StepOf N T A)) × (place_in path ≡ Some place) × (around place.parent t ≡ Some (length path - 1)) × (filter (is_gone (head o).id) (stands [] (put place o t)) ≡ stands path o)
  put_inside =
      let l = landed place o t may in
      let path = l.step_in ∷ l.path in
      let one : length l.path ≡ length path - 1 = omega arith in (
        path,
        ap Some (λ i. record { parent = l.parent i; region = l.region i; before = l.before i }),
        put_around place o t may ∙ ap Some one,
        (put_part place o t may).gone,
      )

  pub put_order : (preceding back : List ℕ) × (ids t ≡ preceding ++ back) × (ids (put place o t) ≡ preceding ++ (ids o ++ back)) × IsCutAt place t preceding back
  put_order =
      let w = put_part place o t may in
      (map (λ (z : OpWithPathOf N T A). op_with_path_id z) w.preceding, map (λ (z : OpWithPathOf N T A). op_with_path_id z) w.back, put_left_ids place o t may, put_ids place o t may, put_cut place o t may)

  pub put_op_count : op_count (put place o t) ≡ op_count t + op_count o
  put_op_count =
      let l = landed place o t may in
      parted_count (head o).id (l.step_in ∷ l.path) o (put place o t) (put_part place o t may) ∙ ap (λ u. op_count u + op_count o) (put_back place o t may)

  pub put_uses : (v : Value) → (preceding back : List (ℕ × ℕ)) × (uses_of v t ≡ preceding ++ back) × (uses_of v (put place o t) ≡ preceding ++ (uses_of v o ++ back))
  put_uses v =
      let l = landed place o t may in
      let w = put_part place o t may in (
        gather (λ s. operand_uses v (op_with_path_id s) 0 (head s.here).operands) w.preceding,
        gather (λ s. operand_uses v (op_with_path_id s) 0 (head s.here).operands) w.back,
        ap (uses_of v) (sym (put_back place o t may)) ∙ left_uses_of (head o).id (l.step_in ∷ l.path) o (put place o t) w v,
        parted_uses (head o).id (l.step_in ∷ l.path) o (put place o t) w v,
      )

module _ {N T A : Type 0} (x : ℕ) (t o : OpOf N T A) (d : HasDistinctIds t) (found : find x t ≡ Some o) (not_root : eqb (head t).id x ≡ false) where
  abbrev inner : Inner x t o
  inner = inner_of x t o found not_root

  pub taken_part : Parted x ((inner_of x t o found not_root).step_in ∷ (inner_of x t o found not_root).path) o t
  taken_part = subst (λ y. Parted y (inner.step_in ∷ inner.path) o t) inner.id (part t d o inner.step_in inner.path inner.there)

  -- the operations that were taken out were one segment of the list
  pub taken_inside : (path : List (StepOf N T A)) × (place_in path ≡ place_of x t) × (around x t ≡ Some (length path)) × (filter (is_gone x) (stands [] t) ≡ stands path o)
  taken_inside = (
    inner.step_in ∷ inner.path,
    sym (inner_place x t o d inner),
    sym (stands_around x [] t) ∙ ap (option_map (λ (s : OpWithPathOf N T A). length s.path)) (ap (λ z. op_with_path z t) (sym inner.id) ∙ stand_of_member t d (stand o (inner.step_in ∷ inner.path)) inner.there),
    taken_part.gone,
  )

  pub taken_order : (preceding back : List ℕ) × (ids t ≡ preceding ++ (ids o ++ back)) × (ids (without x t) ≡ preceding ++ back)
  taken_order =
      let w = taken_part in
      (map (λ (z : OpWithPathOf N T A). op_with_path_id z) w.preceding, map (λ (z : OpWithPathOf N T A). op_with_path_id z) w.back, parted_ids x (inner.step_in ∷ inner.path) o t w, left_ids x (inner.step_in ∷ inner.path) o t w)

  pub taken_op_count : op_count t ≡ op_count (without x t) + op_count o
  taken_op_count = parted_count x (inner.step_in ∷ inner.path) o t taken_part

  pub taken_uses : (v : Value) → (preceding back : List (ℕ × ℕ)) × (uses_of v t ≡ preceding ++ (uses_of v o ++ back)) × (uses_of v (without x t) ≡ preceding ++ back)
  taken_uses v =
      let w = taken_part in (
        gather (λ s. operand_uses v (op_with_path_id s) 0 (head s.here).operands) w.preceding,
        gather (λ s. operand_uses v (op_with_path_id s) 0 (head s.here).operands) w.back,
        parted_uses x (inner.step_in ∷ inner.path) o t w v,
        left_uses_of x (inner.step_in ∷ inner.path) o t w v,
      )

module _ {N T A : Type 0} (x : ℕ) (t : OpOf N T A) (d : HasDistinctIds t) (y : ℕ) (there : has_id y (without x t) ≡ true) where
  -- an operation that remains, with its old path
  pub record Stayed : Type 0 where
    pub was : OpWithPathOf N T A
    pub old : In was (stands [] t)
    pub id : op_with_path_id was ≡ y
    pub new : In (left_stand x was) (stands [] (without x t))
    pub same : op_with_path_id (left_stand x was) ≡ y

  pub stayed : Stayed
  stayed =
      let u = present_stand [] (without x t) y there in
      let m = member_left x t u.0 u.1 in
      let same : op_with_path_id (left_stand x m.0) ≡ y = ap (λ (z : OpWithPathOf N T A). op_with_path_id z) (sym m.3) ∙ u.2 in
      record { was = m.0; old = m.1; id = ap (λ (h : HeadOf N T A). h.id) (sym (same_head x (dropping x) m.0.here)) ∙ same; new = subst (λ (z : OpWithPathOf N T A). In z (stands [] (without x t))) m.3 u.1; same = same }

  stand_was : op_with_path y t ≡ Some stayed.was
  stand_was = ap (λ z. op_with_path z t) (sym stayed.id) ∙ stand_of_member t d stayed.was stayed.old

  stand_is : op_with_path y (without x t) ≡ Some (left_stand x stayed.was)
  stand_is = ap (λ z. op_with_path z (without x t)) (sym stayed.same) ∙ stand_of_member (without x t) (left_distinct x t d) (left_stand x stayed.was) stayed.new

  pub head_stays : option_map head (find y (without x t)) ≡ option_map head (find y t)
  head_stays =
      ap (λ z. option_map head (find z (without x t))) (sym stayed.same)
      ∙ ap (option_map head) (stand_found (without x t) (left_distinct x t d) (left_stand x stayed.was) stayed.new)
      ∙ ap Some (same_head x (dropping x) stayed.was.here)
      ∙ sym (ap (λ z. option_map head (find z t)) (sym stayed.id) ∙ ap (option_map head) (stand_found t d stayed.was stayed.old))

  pub around_stays : around y (without x t) ≡ around y t
  around_stays =
      sym (stands_around y [] (without x t))
      ∙ ap (option_map (λ (s : OpWithPathOf N T A). length s.path)) stand_is
      ∙ ap Some (length-map stayed.was.path (left_step x))
      ∙ sym (sym (stands_around y [] t) ∙ ap (option_map (λ (s : OpWithPathOf N T A). length s.path)) stand_was)

  table_stays_in : (is_table : N → Bool) (path : List (StepOf N T A)) → table_in is_table (map (left_step x) path) ≡ table_in is_table path
  table_stays_in is_table [] = refl
  table_stays_in is_table (a ∷ path) = λ i. cond (is_table (same_head x (dropping x) a.parent i).name) (Some (same_head x (dropping x) a.parent i).id) (table_stays_in is_table path i)

  pub table_stays : (is_table : N → Bool) → table_of is_table y (without x t) ≡ table_of is_table y t
  table_stays is_table =
      sym (stands_table is_table y [] (without x t))
      ∙ ap (option_map (λ (s : OpWithPathOf N T A). table_in is_table s.path)) stand_is
      ∙ ap Some (table_stays_in is_table stayed.was.path)
      ∙ sym (sym (stands_table is_table y [] t) ∙ ap (option_map (λ (s : OpWithPathOf N T A). table_in is_table s.path)) stand_was)

  pub dominance_stays : (isolated : N → Bool) (v : Value) → eqb (owner_of v).0 x ≡ false → visible isolated (without x t) y v ≡ visible isolated t y v
  dominance_stays isolated v e =
      ap (λ z. visible isolated (without x t) z v) (sym stayed.same)
      ∙ visible_there isolated (without x t) (left_distinct x t d) (left_stand x stayed.was) stayed.new v
      ∙ left_dominated_by_same x isolated v e stayed.was.path
      ∙ sym (ap (λ z. visible isolated t z v) (sym stayed.id) ∙ visible_there isolated t d stayed.was stayed.old v)
