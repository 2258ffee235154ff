-- An operation is moved: properties of the other operations, and when the move isn't refused.
use Rattle.std.proofs.Common.{◌≡◌, refl, ap, sym, ◌∙◌, subst, ℕ, ◌+◌, ◌<◌, Bool, true, false, true≢false, not, ◌&&◌, eqb, eq-eqb, List, [], ◌∷◌, ◌++◌, length, map, Option, Some, None, option_map, inl, inr, ◌⊎◌}
use Rattle.std.specs.List.{list_all}
use Rattle.std.specs.Option.{option_eq}
use Rattle.ir_event.specs.trees.declared.value.Value.{Value}
use Rattle.ir_event.specs.trees.declared.value.Value.TheVariants.{Result}
use Rattle.ir_event.specs.trees.declared.place.Place.{Place}
use Rattle.ir_event.specs.trees.Tree.{HeadOf, OpOf, op, block, OpsOf, head, regions}
use Rattle.ir_event.specs.trees.Ids.{HasDistinctIds, find, has_id}
use Rattle.ir_event.specs.trees.Uses.{uses_of}
use Rattle.ir_event.specs.trees.Frames.{owner_of}
use Rattle.ir_event.specs.trees.Limits.{depth, every}
use Rattle.ir_event.specs.trees.Sites.{visible, operands_visible}
use Rattle.ir_event.specs.trees.Places.{each_list, put, put_here, region_each_list, shifted, without}
use Rattle.ir_event.specs.trees.WellFormed.{ModuleOf, IsWellFormed}
use Rattle.ir_event.proofs.of_trees.Left.{left_distinct}
use Rattle.ir_event.proofs.of_trees.Moves.{unput, untouched}
use Rattle.ir_event.specs.tree_laws.Stands.{StepOf, OpWithPathOf, op_with_path_id, stands, dominated_by, gone_in, is_gone, left_stand, left_step, dropping}
use Rattle.ir_event.specs.tree_laws.Tables.{table_of}
use Rattle.ir_event.specs.tree_laws.Members.{In}
use Rattle.ir_event.specs.tree_laws.Reads.{around}
use Rattle.ir_event.specs.tree_laws.Reasons.{fits_around, has_place, leads_inside, levels_in, same_table, shift_reason}
use Rattle.ir_event.specs.tree_laws.Restores.{MayPut}
use Rattle.ir_event.specs.tree_laws.Values.{region_at}
use Rattle.ir_event.proofs.of_tree_laws.Listed.{all_each, both_hold, each_all, in_left, in_parts, in_right}
use Rattle.ir_event.proofs.of_tree_laws.Readings.{stands_every}
use Rattle.ir_event.proofs.of_tree_laws.Members.{found_stands, same_stand, stand, stand_found, within}
use Rattle.ir_event.proofs.of_tree_laws.Around.{absent_find, present_stand, stand_present}
use Rattle.ir_event.proofs.of_tree_laws.Put.{put_find, region_each}
use Rattle.ir_event.proofs.of_tree_laws.PutForm as put_form
use Rattle.ir_event.proofs.of_tree_laws.Edited.{around_stays, head_stays, put_uses, dominance_stays, table_stays, taken_uses}
use Rattle.ir_event.proofs.of_tree_laws.DominatedBy.{stands_operands, visible_there}
use Rattle.ir_event.proofs.of_tree_laws.Shift as shift
use Rattle.ir_event.proofs.of_tree_laws.ShiftDominance.{shift_dominated_by}
use Rattle.ir_event.proofs.of_tree_laws.WellKept.{shift_keeps}
use Rattle.ir_event.proofs.of_tree_laws.Without.{left_member, member_left, same_head}
use Rattle.patterns_base.proofs.Moved.{restands, same_option}
use Rattle.patterns_soundness.proofs.Ordered.{Before, Inside, before_back, before_left, inside_back, inside_left, left_gone, there_left}
use Rattle.ir_event.proofs.of_tree_laws.Reverted.{passed, same_tables}

module _ {N T A : Type 0} where
  -- operation p has a block in region r
  pub record HasBlock (p r : ℕ) (t : OpOf N T A) : Type 0 where
    pub here : OpOf N T A
    pub found : find p t ≡ Some here
    pub args : List T
    pub list : OpsOf N T A
    pub is : region_at r (regions here) ≡ Some (block args list)

  each_block : (f : ℕ → ℕ → OpsOf N T A → OpsOf N T A) (r : ℕ) (q : OpOf N T A) (args : List T) (os : OpsOf N T A) → region_at r (regions q) ≡ Some (block args os) → (list : OpsOf N T A) × (region_at r (regions (each_list f q)) ≡ Some (block args list))
  each_block f r (op h rs) args os e = (_, region_each f h.id 0 r rs ∙ ap (option_map (region_each_list f h.id (0 + r))) e)

  -- the position of an operation after another is taken out
  pub located_left : (t z o : OpOf N T A) → HasDistinctIds t → find (head z).id t ≡ Some z → find (head o).id t ≡ Some o → has_id (head o).id z ≡ false → find (head o).id (without (head z).id t) ≡ Some (each_list (dropping (head z).id) o)
  located_left t z o d found at out =
      let zi = (head z).id in
      let s = found_stands (head o).id t o at in
      let there : In (stand o s.0.path) (stands [] t) = subst (λ (q : OpOf N T A). In (stand q s.0.path) (stands [] t)) s.3 s.1 in
      let present : has_id (head o).id t ≡ true = stand_present [] t (stand o s.0.path) there in
      let gone = left_gone zi t d (stand o s.0.path) there (there_left t z d found (head o).id present out) in
      ap (λ i. find i (without zi t)) (sym (ap (λ (y : HeadOf N T A). y.id) (same_head zi (dropping zi) o)))
      ∙ stand_found (without zi t) (left_distinct zi t d) (left_stand zi (stand o s.0.path)) (left_member zi t (stand o s.0.path) there gone)

module _ {N T A : Type 0} (isolated is_table : N → Bool) (m : ModuleOf N T A) (w : IsWellFormed isolated m) (z : OpOf N T A) (place : Place) (found : find (head z).id m.tree ≡ Some z) (root : eqb (head m.tree).id (head z).id ≡ false) (point : has_place place m.tree ≡ true) (outside : leads_inside place (Some z) ≡ false) where
  abbrev t : OpOf N T A
  t = m.tree

  abbrev zi : ℕ
  zi = (head z).id

  abbrev after : OpOf N T A
  after = put place z (without (head z).id m.tree)

  abbrev d : HasDistinctIds m.tree
  d = w.distinct

  pub may : MayPut place z (without (head z).id m.tree)
  may = shift.may_shift zi place t z d found root point outside

  pub is_put : shifted (head z).id place m.tree ≡ put place z (without (head z).id m.tree)
  is_put = shift.is_put zi place t z d found root point outside

  pub after_distinct : HasDistinctIds (put place z (without (head z).id m.tree))
  after_distinct = shift.shift_distinct zi place t z d found root point outside

  pub after_rest : without (head z).id (put place z (without (head z).id m.tree)) ≡ without (head z).id m.tree
  after_rest = shift.shift_rest zi place t z d found root point outside

  pub itself_found : find (head z).id (put place z (without (head z).id m.tree)) ≡ Some z
  itself_found = shift.shift_found zi place t z d found root point outside ∙ found

  -- another operation, outside the moved one
  module _ (b : ℕ) (there : has_id b m.tree ≡ true) (out : has_id b z ≡ false) where
    left : has_id b (without (head z).id m.tree) ≡ true
    left = there_left t z d found b there out

    pub left_after : has_id b (without (head z).id (put place z (without (head z).id m.tree))) ≡ true
    left_after = ap (has_id b) after_rest ∙ left

    pub dominance : (v : Value) → eqb (owner_of v).0 (head z).id ≡ false → visible isolated (put place z (without (head z).id m.tree)) b v ≡ visible isolated m.tree b v
    dominance v n = sym (dominance_stays zi after after_distinct b left_after isolated v n) ∙ ap (λ q. visible isolated q b v) after_rest ∙ dominance_stays zi t d b left isolated v n

    pub around_same : around b (put place z (without (head z).id m.tree)) ≡ around b m.tree
    around_same = sym (around_stays zi after after_distinct b left_after) ∙ ap (around b) after_rest ∙ around_stays zi t d b left

    pub table_same : table_of is_table b (put place z (without (head z).id m.tree)) ≡ table_of is_table b m.tree
    table_same = sym (table_stays zi after after_distinct b left_after is_table) ∙ ap (table_of is_table b) after_rest ∙ table_stays zi t d b left is_table

    pub head_same : option_map head (find b (put place z (without (head z).id m.tree))) ≡ option_map head (find b m.tree)
    head_same = sym (head_stays zi after after_distinct b left_after) ∙ ap (λ q. option_map head (find b q)) after_rest ∙ head_stays zi t d b left

    pub before_same : (a : ℕ) → eqb a (head z).id ≡ false → Before a b m.tree → Before a b (put place z (without (head z).id m.tree))
    before_same a apart e = before_back zi a b after (subst (Before a b) (sym after_rest) (before_left zi a b t d left apart e))

    pub inside_same : (p r : ℕ) → Inside p r b m.tree → Inside p r b (put place z (without (head z).id m.tree))
    inside_same p r e = inside_back zi p r b after (subst (Inside p r b) (sym after_rest) (inside_left zi p r b t d left e))

  -- an operation that it isn't moved into or out of
  pub literal : (o : OpOf N T A) → find (head o).id m.tree ≡ Some o → has_id (head o).id z ≡ false → has_id (head z).id o ≡ false → has_id place.parent o ≡ false → find (head o).id (put place z (without (head z).id m.tree)) ≡ Some o
  literal o at out lacks far =
      put_find place z (head o).id (absent_find (head o).id z out) (without zi t)
      ∙ ap (option_map (put place z)) (located_left t z o d found at out ∙ ap Some (untouched zi o lacks))
      ∙ ap Some (unput place z o far)

  pub block_same : (p r : ℕ) → has_id p z ≡ false → (HasBlock p r m.tree) → HasBlock p r (put place z (without (head z).id m.tree))
  block_same p r out b =
      let s = found_stands p t b.here b.found in
      let id : (head b.here).id ≡ p = ap (λ (q : OpOf N T A). (head q).id) (sym s.3) ∙ s.2 in
      let at = located_left t z b.here d found (ap (λ i. find i t) id ∙ b.found) (ap (λ i. has_id i z) id ∙ out) in
      let one = each_block (dropping zi) r b.here b.args b.list b.is in
      let two = each_block (put_here place z) r (each_list (dropping zi) b.here) b.args one.0 one.1 in
      record {
        here = put place z (each_list (dropping zi) b.here);
        found = put_find place z p (absent_find p z out) (without zi t) ∙ ap (option_map (put place z)) (ap (λ i. find i (without zi t)) (sym id) ∙ at);
        args = b.args;
        list = two.0;
        is = two.1;
      }

  -- a user of a value after the move used it before
  pub used_before : (v : Value) (u : ℕ × ℕ) → In u (uses_of v (put place z (without (head z).id m.tree))) → In u (uses_of v m.tree)
  used_before v u h =
      let a = taken_uses zi t z d found root v in
      let p = put_uses place z (without zi t) may v in
      let was : In u (a.0 ++ a.1) → In u (uses_of v t) = (λ k. subst (In u) (sym a.2) (elim (in_parts u a.0 a.1 k) [ inl l ↦ in_left u a.0 (uses_of v z ++ a.1) l | inr l ↦ in_right u a.0 (uses_of v z ++ a.1) (in_right u (uses_of v z) a.1 l) ])) in
      let kept : In u (p.0 ++ p.1) → In u (uses_of v t) = (λ k. was (subst (In u) (sym p.2 ∙ a.3) k)) in
      elim (in_parts u p.0 (uses_of v z ++ p.1) (subst (In u) p.3 h)) [
        | inl k ↦ kept (in_left u p.0 p.1 k)
        | inr k ↦ elim (in_parts u (uses_of v z) p.1 k) [
          | inl l ↦ subst (In u) (sym a.2) (in_right u a.0 (uses_of v z ++ a.1) (in_left u (uses_of v z) a.1 l))
          | inr l ↦ kept (in_right u p.0 p.1 l)
        ]
      ]

  -- if an operation stays as it is, the values that dominate the operations inside it still do
  pub transferred : (o : OpOf N T A) (p q : List (StepOf N T A)) → In (stand o p) (stands [] m.tree) → In (stand o q) (stands [] (put place z (without (head z).id m.tree))) → (v : Value) → dominated_by isolated q v ≡ true → (u : OpWithPathOf N T A) → In u (stands [] m.tree) → has_id (op_with_path_id u) o ≡ true
      → dominated_by isolated u.path v ≡ true → visible isolated (put place z (without (head z).id m.tree)) (op_with_path_id u) v ≡ true
  transferred o p q old new v seen u h inner own =
      let s = present_stand q o (op_with_path_id u) inner in
      let r = restands isolated (λ k. k ≡ v) p q (λ k e l. subst (λ i. dominated_by isolated q i ≡ true) (sym e) seen) o s.0 s.1 in
      let id : op_with_path_id r.0 ≡ op_with_path_id u = ap (λ (i : OpOf N T A). (head i).id) r.2 ∙ s.2 in
      let same = same_stand t d r.0 u (within o p r.0 r.1 [] t old) h id in
      ap (λ i. visible isolated after i v) (sym s.2)
      ∙ visible_there isolated after after_distinct s.0 (within o q s.0 s.1 [] after new) v
      ∙ r.3 v refl (ap (λ (k : OpWithPathOf N T A). dominated_by isolated k.path v) same ∙ own)

  -- the move isn't refused
  module _ (zp : List (StepOf N T A)) (located : In (stand z zp) (stands [] m.tree)) (P : Value → Type 0) (used : (s : OpWithPathOf N T A) → In s (stands zp z) → (v : Value) → In v (head s.here).operands → P v)
      (more : (v : Value) → P v → dominated_by isolated zp v ≡ true → visible isolated (put place z (without (head z).id m.tree)) (head z).id v ≡ true)
      (users : (k : ℕ) → k < length (head z).results → list_all (λ u. visible isolated (put place z (without (head z).id m.tree)) u.0 (Result (head z).id k)) (uses_of (Result (head z).id k) m.tree) ≡ true) where
    inner : every (λ q. list_all (visible isolated (put place z (without (head z).id m.tree)) (head q).id) (head q).operands) z ≡ true
    inner =
        let l = put_form.landed place z (without zi t) may in
        let zq = l.step_in ∷ l.path in
        sym (stands_every (λ q. list_all (visible isolated after (head q).id) (head q).operands) zq z)
        ∙ each_all (λ (s : OpWithPathOf N T A). list_all (visible isolated after (head s.here).id) (head s.here).operands) (stands zq z) (λ s h.
        let r = restands isolated P zp zq (λ v n e. sym (visible_there isolated after after_distinct (stand z zq) l.there v) ∙ more v n e) z s h in
        let was = within z zp r.0 r.1 [] t located in
        each_all (visible isolated after (head s.here).id) (head s.here).operands (λ v i.
        let j : In v (head r.0.here).operands = subst (λ (q : OpOf N T A). In v (head q).operands) (sym r.2) i in
        visible_there isolated after after_distinct s (within z zq s h [] after l.there) v
        ∙ r.3 v (used r.0 r.1 v j) (all_each (dominated_by isolated r.0.path) (head r.0.here).operands (all_each (λ (k : OpWithPathOf N T A). list_all (dominated_by isolated k.path) (head k.here).operands) (stands [] t) (sym (stands_operands isolated t) ∙ w.wellformed.visible) r.0 was) v j)))

    pub all_seen : operands_visible isolated (shifted (head z).id place m.tree) ≡ true
    all_seen = shift_dominated_by isolated zi place t z d found root point outside w.wellformed.visible
        (subst (λ q. every (λ q'. list_all (visible isolated q (head q').id) (head q').operands) z ≡ true) (sym is_put) inner)
        (λ k n. subst (λ q. list_all (λ u. visible isolated q u.0 (Result zi k)) (uses_of (Result zi k) t) ≡ true) (sym is_put) (users k n))

    pub move_reason : has_id place.parent m.tree ≡ true → table_of is_table (head z).id m.tree ≡ table_of is_table (head z).id (put place z (without (head z).id m.tree)) → fits_around (depth z) (around place.parent m.tree) ≡ true → shift_reason isolated is_table (head z).id place m.tree ≡ None
    move_reason parent tables levels =
        passed _ _ _ (both_hold _ _ (stand_present [] t (stand z zp) located) parent)
        (passed _ _ _ (ap not root)
        (passed _ _ _ point
        (passed _ _ _ (ap not (ap (leads_inside place) found ∙ outside))
        (passed _ _ _ (same_tables _ _ (tables ∙ ap (table_of is_table zi) (sym is_put)))
        (passed _ _ _ (ap (λ o. fits_around (levels_in o) (around place.parent t)) found ∙ levels)
        (passed _ _ _ all_seen refl))))))

    pub move_wellformed : has_id place.parent m.tree ≡ true → table_of is_table (head z).id m.tree ≡ table_of is_table (head z).id (put place z (without (head z).id m.tree)) → fits_around (depth z) (around place.parent m.tree) ≡ true → IsWellFormed isolated (record m { tree = put place z (without (head z).id m.tree) })
    move_wellformed parent tables levels = subst (λ q. IsWellFormed isolated (record m { tree = q })) is_put (shift_keeps isolated is_table zi place m w (move_reason parent tables levels))
