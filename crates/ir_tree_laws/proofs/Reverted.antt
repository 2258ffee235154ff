-- Undoing a set operand and undoing a shift are not refused.
use Rattle.std.proofs.Common.{◌≡◌, refl, ap, sym, ◌∙◌, subst, ℕ, zero, suc, ◌+◌, ◌<◌, ◌≤◌, Bool, true, false, true≢false, cond, not, ◌&&◌, ◌||◌, eqb, eq-eqb, eqb-true, List, [], ◌∷◌, ◌++◌, length, map, Option, Some, None, option_map, inl, inr, ◌⊎◌, arith}
use Rattle.std.specs.Prelude.{slice_get, option_and_then}
use Rattle.std.specs.List.{list_any, IsDistinct}
use Rattle.std.specs.Option.{option_eq}
use Rattle.std.proofs.lemmas.Bool.{lt-ltb, le-leb}
use Rattle.ir_tree.specs.types.declared.refusal.Refusal.{Refusal}
use Rattle.ir_tree.specs.types.declared.refusal.Refusal.TheVariants.{NoSuchOp, NoSuchValue, NoSuchIndex, NotVisible, IsRoot, IntoItself, OtherTable, TooDeepHere}
use Rattle.ir_tree.specs.declared.value.Value.{Value}
use Rattle.ir_tree.specs.declared.place.Place.{Place}
use Rattle.ir_tree.specs.Tree.{HeadOf, OpOf, op, RegionOf, empty, block, OpsOf, no_ops, next, head, regions}
use Rattle.ir_tree.specs.Ids.{ids, HasDistinctIds, has_id, find}
use Rattle.ir_tree.specs.Limits.{depth, most_around}
use Rattle.ir_tree.specs.Sites.{visible, operands_visible}
use Rattle.ir_tree.specs.Edits.{at, put_operand}
use Rattle.ir_tree.specs.Places.{first_id, each_list, region_each_list, ops_each_list, drop_op, without, shifted}
use Rattle.ir_tree.specs.WellFormed.{ModuleOf, IsWellFormed}
use Rattle.ir_tree.proofs.Heads.{alike_operand, head_visible}
use Rattle.ir_tree.proofs.Returns.{halves}
use Rattle.ir_tree_laws.specs.Members.{In}
use Rattle.ir_tree_laws.specs.Stands.{StepOf, OpWithPathOf, op_with_path_id, op_with_path, stands, ops_stands, dominated_by, place_in, dropping}
use Rattle.ir_tree_laws.specs.Tables.{table_of}
use Rattle.ir_tree_laws.specs.Values.{region_at}
use Rattle.ir_tree_laws.specs.Reads.{around, is_among}
use Rattle.ir_tree_laws.specs.Reasons.{unless, value_reason, operand_reason, set_operand_reason, is_in_list, has_place, fits_around, before_within, leads_inside, levels_in, same_table, shift_reason}
use Rattle.ir_tree_laws.specs.Changes.{operand_at, SetsOperand, Shifts}
use Rattle.ir_tree_laws.proofs.Listed.{all_each, bool_cases, either, or_left, or_right}
use Rattle.ir_tree_laws.proofs.Readings.{stands_depth, step}
use Rattle.ir_tree_laws.proofs.Members.{stand, within, joined_ops, ops_child, found_stands, same_stand, stand_found, stand_of_member}
use Rattle.ir_tree_laws.proofs.Around.{around_there, stand_present, stands_around, member_of_place}
use Rattle.ir_tree_laws.proofs.Without.{member_left, same_head}
use Rattle.ir_tree_laws.proofs.DominatedBy.{visible_there}
use Rattle.ir_tree_laws.proofs.Stretches.{part, parted_ids, left_ids}
use Rattle.ir_tree_laws.proofs.Put.{point_of, of_point, region_each, child}
use Rattle.ir_tree_laws.proofs.Wellformed.{from_wellformed, greatest_within}
use Rattle.ir_tree_laws.proofs.Values.{seen_by}
use Rattle.ir_tree_laws.proofs.Changed.{point_left}
use Rattle.ir_tree_laws.proofs.Edited.{around_stays}
use Rattle.ir_tree_laws.proofs.Undone.{shifted_back}
use Rattle.std.proofs.lemmas.Option.{slice_get_within}

got_in : {X : Type 0} (xs : List X) (k : ℕ) (x : X) → slice_get xs k ≡ Some x → In x xs
got_in [] k x e = absurd cc
got_in (y ∷ ys) zero x e = (let same : y ≡ x = cc in inl (sym same))
got_in (y ∷ ys) (suc k) x e = inr (got_in ys k x e)

pub passed : (b : Bool) (r : Refusal) (rest : Option Refusal) → b ≡ true → rest ≡ None → unless b r rest ≡ None
passed b r rest e f = ap (λ c. unless c r rest) e ∙ f

pub same_tables : (a b : Option (Option ℕ)) → a ≡ b → same_table a b ≡ true
same_tables a b e = ap (same_table a) (sym e) ∙ go a
  where
    inside : (a : Option ℕ) → option_eq eqb a a ≡ true
    inside None = refl
    inside (Some x) = eq-eqb x x refl

    go : (a : Option (Option ℕ)) → same_table a a ≡ true
    go None = refl
    go (Some x) = inside x

module _ {N T A : Type 0} where
  operand_found : (x k : ℕ) (t : OpOf N T A) (v : Value) → operand_at x k t ≡ Some v → (o : OpOf N T A) × (find x t ≡ Some o) × (slice_get (head o).operands k ≡ Some v)
  operand_found x k t v e = go (find x t) refl e
    where
      go : (f : Option (OpOf N T A)) → find x t ≡ f → option_and_then (λ o. slice_get (head o).operands k) f ≡ Some v → (o : OpOf N T A) × (find x t ≡ Some o) × (slice_get (head o).operands k ≡ Some v)
      go None f h = absurd cc
      go (Some o) f h = (o, f, h)

  -- an operand is set back
  pub operand_reverts : (isolated : N → Bool) (x k : ℕ) (old new : Value) (m n : ModuleOf N T A) → IsWellFormed isolated m → IsWellFormed isolated n → SetsOperand x k old new m n → set_operand_reason isolated x k old n.tree ≡ None
  operand_reverts isolated x k old new m n w u c =
      let a = operand_found x k m.tree old c.was in
      let b = operand_found x k n.tree new c.is in
      let s = found_stands x m.tree a.0 a.1 in
      let z = found_stands x n.tree b.0 b.1 in
      let g = from_wellformed isolated m.tree w.wellformed in
      let own : In old (head s.0.here).operands = subst (λ (o : OpOf N T A). In old (head o).operands) (sym s.3) (got_in (head a.0).operands k old a.2) in
      let saw : visible isolated m.tree x old ≡ true = ap (λ y. visible isolated m.tree y old) (sym s.2) ∙ visible_there isolated m.tree w.distinct s.0 s.1 old ∙ all_each (dominated_by isolated s.0.path) (head s.0.here).operands (g.dominated_by_own s.0 s.1) old own in
      let dominated_by_it : visible isolated n.tree x old ≡ true = ap (λ t. visible isolated t x old) c.after ∙ head_visible (at x (put_operand k new)) (alike_operand x k new) isolated m.tree x old ∙ saw in
      let there : dominated_by isolated z.0.path old ≡ true = sym (visible_there isolated n.tree u.distinct z.0 z.1 old) ∙ ap (λ y. visible isolated n.tree y old) z.2 ∙ dominated_by_it in
      let value = (seen_by isolated n.tree u.distinct z.0 z.1 old there).is in
      ap (operand_reason k (value_reason isolated x old n.tree)) b.1
      ∙ ap (λ e. cond e (value_reason isolated x old n.tree) (Some NoSuchIndex)) (lt-ltb k (length (head b.0).operands) (slice_get_within (head b.0).operands k new b.2))
      ∙ ap (λ e. cond e (cond (visible isolated n.tree x old) None (Some NotVisible)) (Some NoSuchValue)) value
      ∙ ap (λ e. cond e None (Some NotVisible)) dominated_by_it

  -- an operation within x doesn't remain after x is taken out
  pub inside_goes : (t : OpOf N T A) → HasDistinctIds t → (o : OpOf N T A) (a : StepOf N T A) (q : List (StepOf N T A)) → In (stand o (a ∷ q)) (stands [] t) → (y : ℕ) → has_id y (without (head o).id t) ≡ true → has_id y o ≡ false
  inside_goes t d o a q h y e = elim (bool_cases (has_id y o)) [
    | inr k ↦ k
    | inl k ↦ (let w = part t d o a q h in
        let preceding = map (λ (z : OpWithPathOf N T A). op_with_path_id z) w.preceding in
        let back = map (λ (z : OpWithPathOf N T A). op_with_path_id z) w.back in
        let all = halves preceding (ids o ++ back) (subst (IsDistinct eqb) (parted_ids (head o).id (a ∷ q) o t w) d) in
        let mid = halves (ids o) back all.right in
        absurd (elim (parts preceding back (sym (ap (list_any (λ z. eqb z y)) (left_ids (head o).id (a ∷ q) o t w)) ∙ e)) [
          | inl f ↦ true≢false (sym (join (ids o) back k) ∙ all.disjoint y f)
          | inr b ↦ true≢false (sym b ∙ mid.disjoint y k)
        ]))
  ]
    where
      parts : (xs ys : List ℕ) → list_any (λ z. eqb z y) (xs ++ ys) ≡ true → (list_any (λ z. eqb z y) xs ≡ true) ⊎ (list_any (λ z. eqb z y) ys ≡ true)
      parts [] ys h = inr h
      parts (x ∷ xs) ys h = elim (either (eqb x y) (list_any (λ z. eqb z y) (xs ++ ys)) h) [
        | inl k ↦ inl (or_left (eqb x y) _ k)
        | inr k ↦ elim (parts xs ys k) [ inl l ↦ inl (or_right (eqb x y) _ l) | inr l ↦ inr l ]
      ]

      join : (xs ys : List ℕ) → list_any (λ z. eqb z y) xs ≡ true → list_any (λ z. eqb z y) (xs ++ ys) ≡ true
      join [] ys h = absurd (true≢false (sym h))
      join (x ∷ xs) ys h = elim (either (eqb x y) (list_any (λ z. eqb z y) xs) h) [ inl k ↦ or_left (eqb x y) _ k | inr k ↦ or_right (eqb x y) _ (join xs ys k) ]

  pub among_split : (b : ℕ) (os : OpsOf N T A) → is_among b os ≡ true → (preceding : List (OpOf N T A)) × (p : OpOf N T A) × (rest : OpsOf N T A) × (os ≡ joined_ops preceding (next p rest)) × ((head p).id ≡ b)
  among_split b no_ops h = absurd (true≢false (sym h))
  among_split b (next p os) h = elim (either (eqb (head p).id b) (is_among b os) h) [
    | inl k ↦ ([], p, os, refl, eqb-true (head p).id b k)
    | inr k ↦ (let r = among_split b os k in (p ∷ r.0, r.1, r.2, ap (next p) r.3, r.4))
  ]

  -- the place's parent, and the next operation of the place, are in the tree
  pub point_parent : (place : Place) (t : OpOf N T A) → has_place place t ≡ true → has_id place.parent t ≡ true
  point_parent place t h =
      let s = point_of place t h in
      let w = found_stands place.parent t s.parent s.found in
      subst (λ z. has_id z t ≡ true) w.2 (stand_present [] t w.0 w.1)

  pub point_before : (place : Place) (t : OpOf N T A) → has_place place t ≡ true → (b : ℕ) → place.before ≡ Some b → has_id b t ≡ true
  point_before place t h b e =
      let s = point_of place t h in
      let w = found_stands place.parent t s.parent s.found in
      let r = among_split b s.list (ap (λ z. is_in_list z (Some s.list)) (sym e) ∙ s.among) in
      let up : In (stand s.parent w.0.path) (stands [] t) = subst (λ (z : OpOf N T A). In (stand z w.0.path) (stands [] t)) w.3 w.1 in
      let c = step s.parent place.region s.args r.0 r.2 in
      let m : In (stand r.1 (c ∷ w.0.path)) (ops_stands s.parent w.0.path place.region s.args [] s.list) =
      subst (λ (l : OpsOf N T A). In (stand r.1 (c ∷ w.0.path)) (ops_stands s.parent w.0.path place.region s.args [] l)) (sym r.3) (ops_child s.parent w.0.path place.region s.args [] r.0 r.1 r.2) in
      subst (λ z. has_id z t ≡ true) r.4 (stand_present [] t (stand r.1 (c ∷ w.0.path)) (within s.parent w.0.path (stand r.1 (c ∷ w.0.path)) (child s.parent w.0.path place.region s.args s.list (stand r.1 (c ∷ w.0.path)) s.is m) [] t up))

  -- a place of the remaining tree was a place before
  among_before : (x b : ℕ) (os : OpsOf N T A) → is_among b (drop_op x (ops_each_list (dropping x) os)) ≡ true → is_among b os ≡ true
  among_before x b no_ops h = h
  among_before x b (next (op h rs) os) e = go (eqb h.id x) e (among_before x b os)
    where
      go : (c : Bool) → is_among b (cond c (drop_op x (ops_each_list (dropping x) os)) (next (each_list (dropping x) (op h rs)) (drop_op x (ops_each_list (dropping x) os)))) ≡ true
          → (is_among b (drop_op x (ops_each_list (dropping x) os)) ≡ true → is_among b os ≡ true) → (eqb h.id b || is_among b os) ≡ true
      go true k later = or_right (eqb h.id b) (is_among b os) (later k)
      go false k later = elim (either (eqb h.id b) (is_among b (drop_op x (ops_each_list (dropping x) os))) k) [ inl l ↦ or_left (eqb h.id b) (is_among b os) l | inr l ↦ or_right (eqb h.id b) (is_among b os) (later l) ]

  in_before : (x : ℕ) (b : Option ℕ) (os : OpsOf N T A) → is_in_list b (Some (drop_op x (ops_each_list (dropping x) os))) ≡ true → is_in_list b (Some os) ≡ true
  in_before x None os h = refl
  in_before x (Some b) os h = among_before x b os h

  pub point_was : (x : ℕ) (place : Place) (t : OpOf N T A) → HasDistinctIds t → has_place place (without x t) ≡ true → has_place place t ≡ true
  point_was x place t d h =
      let s = point_of place (without x t) h in
      let w = found_stands place.parent (without x t) s.parent s.found in
      let m = member_left x t w.0 w.1 in
      let id : op_with_path_id m.0 ≡ place.parent = ap (λ (h : HeadOf N T A). h.id) (sym (same_head x (dropping x) m.0.here)) ∙ ap (λ (z : OpWithPathOf N T A). op_with_path_id z) (sym m.3) ∙ w.2 in
      let found : find place.parent t ≡ Some m.0.here = ap (λ z. find z t) (sym id) ∙ stand_found t d m.0 m.1 in
      let is : region_at place.region (regions (each_list (dropping x) m.0.here)) ≡ Some (block s.args s.list) = ap (λ (z : OpOf N T A). region_at place.region (regions z)) (ap (λ (z : OpWithPathOf N T A). z.here) (sym m.3) ∙ w.3) ∙ s.is in
      let g = block_was m.0.here s.args s.list is in
      of_point place t (record { parent = m.0.here; found = found; args = s.args; list = g.0; is = g.1; among = in_before x place.before g.0 (ap (λ os. is_in_list place.before (Some os)) (sym g.2) ∙ s.among) })
    where
      region_was : (p r : ℕ) (g : Option (RegionOf N T A)) (args : List T) (os : OpsOf N T A) → option_map (region_each_list (dropping x) p r) g ≡ Some (block args os) → (l : OpsOf N T A) × (g ≡ Some (block args l)) × (os ≡ drop_op x (ops_each_list (dropping x) l))
      region_was p r None args os e = absurd cc
      region_was p r (Some empty) args os e = absurd cc
      region_was p r (Some (block types l)) args os e =
          let same : types ≡ args = cc in
          let list : drop_op x (ops_each_list (dropping x) l) ≡ os = cc in
          (l, ap (λ z. Some (block z l)) same, sym list)

      block_was : (q : OpOf N T A) (args : List T) (os : OpsOf N T A) → region_at place.region (regions (each_list (dropping x) q)) ≡ Some (block args os) → (l : OpsOf N T A) × (region_at place.region (regions q) ≡ Some (block args l)) × (os ≡ drop_op x (ops_each_list (dropping x) l))
      block_was (op h rs) args os e = region_was h.id (0 + place.region) (region_at place.region rs) args os (sym (region_each (dropping x) h.id 0 place.region rs) ∙ e)

  -- the depth of an operation at its place is within the limit
  pub fits_there : (isolated : N → Bool) (m : ModuleOf N T A) → IsWellFormed isolated m → (o : OpOf N T A) (a : StepOf N T A) (q : List (StepOf N T A)) → In (stand o (a ∷ q)) (stands [] m.tree) → length q + 1 + depth o ≤ most_around
  fits_there isolated m w o a q h =
      let g = from_wellformed isolated m.tree w.wellformed in
      let e = stands_depth (a ∷ q) o in
      let n = greatest_within (λ (s : OpWithPathOf N T A). length s.path) most_around (stands (a ∷ q) o) (λ s k. g.shallow s (within o (a ∷ q) s k [] m.tree h)) in
      omega (arith, e, n)

  -- an operation is shifted back
  pub shift_reverts : (isolated is_table : N → Bool) (x : ℕ) (old new : Place) (m n : ModuleOf N T A) → IsWellFormed isolated m → IsWellFormed isolated n → Shifts is_table x old new m n → shift_reason isolated is_table x old n.tree ≡ None
  shift_reverts isolated is_table x old new m n w u c =
      let s = member_of_place x old m.tree c.was in
      go s.0 s.1 s.2 s.0.path refl s.3
    where
      back : shifted x old n.tree ≡ m.tree
      back = shifted_back is_table x old new m n w.distinct c

      z : (s : OpWithPathOf N T A) × In s (stands [] n.tree) × (op_with_path_id s ≡ x) × (place_in s.path ≡ Some new)
      z = member_of_place x new n.tree c.is

      inner : eqb (head n.tree).id x ≡ false
      inner = elim (bool_cases (eqb (head n.tree).id x)) [
        | inr k ↦ k
        | inl k ↦ (let same = same_stand n.tree u.distinct z.0 (stand n.tree []) z.1 (root n.tree) (z.2 ∙ sym (eqb-true (head n.tree).id x k)) in
            let bad : None ≡ Some new = ap (λ (s : OpWithPathOf N T A). place_in s.path) (sym same) ∙ z.3 in
            absurd cc)
      ]
        where
          root : (t : OpOf N T A) → In (stand t []) (stands [] t)
          root (op h rs) = inl refl

      go : (s : OpWithPathOf N T A) → In s (stands [] m.tree) → op_with_path_id s ≡ x → (p : List (StepOf N T A)) → s.path ≡ p → place_in s.path ≡ Some old → shift_reason isolated is_table x old n.tree ≡ None
      go s h id [] p e = (let bad : None ≡ Some old = sym (ap place_in p) ∙ e in absurd cc)
      go s h id (a ∷ q) p e =
          let o = s.here in
          let there : In (stand o (a ∷ q)) (stands [] m.tree) = subst (λ l. In (stand o l) (stands [] m.tree)) p h in
          let found : find x n.tree ≡ Some o = c.same ∙ ap (λ y. find y m.tree) (sym id) ∙ stand_found m.tree w.distinct s h in
          let left : has_place old (without x n.tree) ≡ true = ap (has_place old) c.rest ∙ point_left isolated x m.tree w.distinct o a q there id old (sym (ap place_in p) ∙ e) in
          let left_old : has_place old (without x m.tree) ≡ true = ap (has_place old) (sym c.rest) ∙ left in
          let point = point_was x old n.tree u.distinct left in
          let gone : (y : ℕ) → has_id y (without x m.tree) ≡ true → has_id y o ≡ false = (λ y k. inside_goes m.tree w.distinct o a q there y (ap (λ b. has_id y (without b m.tree)) id ∙ k)) in
          let outside : leads_inside old (Some o) ≡ false = (λ i. gone old.parent (point_parent old (without x m.tree) left_old) i || before_out old.before refl left_old gone i) in
          let is : Some (record { parent = (head a.parent).id; region = a.region; before = first_id a.rest }) ≡ Some old = sym (ap place_in p) ∙ e in
          let parent : (head a.parent).id ≡ old.parent = cc in
          let up = (around_there m.tree o a q there).1 in
          let was : around old.parent m.tree ≡ Some (length q) = sym (stands_around old.parent [] m.tree) ∙ ap (option_map (λ (s : OpWithPathOf N T A). length s.path)) (ap (λ y. op_with_path y m.tree) (sym parent) ∙ stand_of_member m.tree w.distinct (stand a.parent q) up) in
          let around_is : around old.parent n.tree ≡ Some (length q) =
          sym (around_stays x n.tree u.distinct old.parent (point_parent old (without x n.tree) left)) ∙ ap (around old.parent) c.rest ∙ around_stays x m.tree w.distinct old.parent (point_parent old (without x m.tree) left_old) ∙ was in
          passed _ NoSuchOp _ ((λ i. has_id x n.tree && point_parent old n.tree point i) ∙ ap (λ b. b && true) (subst (λ y. has_id y n.tree ≡ true) z.2 (stand_present [] n.tree z.0 z.1)))
          (passed _ IsRoot _ (ap not inner)
          (passed _ NoSuchIndex _ point
          (passed _ IntoItself _ (ap (λ f. not (leads_inside old f)) found ∙ ap not outside)
          (passed _ OtherTable _ (same_tables (table_of is_table x n.tree) (table_of is_table x (shifted x old n.tree)) (c.table ∙ ap (table_of is_table x) (sym back)))
          (passed _ TooDeepHere _ ((λ i. fits_around (levels_in (found i)) (around_is i)) ∙ le-leb (length q + 1 + depth o) most_around (fits_there isolated m w o a q there))
          (passed _ NotVisible None (ap (operands_visible isolated) back ∙ w.wellformed.visible) refl))))))
        where
          before_out : (b : Option ℕ) → old.before ≡ b → has_place old (without x m.tree) ≡ true → ((y : ℕ) → has_id y (without x m.tree) ≡ true → has_id y s.here ≡ false) → before_within b (Some s.here) ≡ false
          before_out None k h f = refl
          before_out (Some b) k h f = f b (point_before old (without x m.tree) h b k)
