-- The uses of a tree after an operation is removed.
use Rattle.std.proofs.Common.{◌≡◌, refl, ap, sym, ◌∙◌, ℕ, ◌+◌, false, eqb, List, [], ◌∷◌, ◌++◌, append_assoc, map, Some}
use Rattle.ir_event.specs.trees.Tree.{HeadOf, OpOf, op, RegionsOf, no_regions, region, RegionOf, empty, block, OpsOf, no_ops, next, head, regions}
use Rattle.ir_event.specs.trees.Ids.{HasDistinctIds, find}
use Rattle.ir_event.specs.trees.Places.{without}
use Rattle.ir_event.specs.trees.Edits.{each_head}
use Rattle.ir_event.specs.tree_laws.Changes.{HoldNone}
use Rattle.ir_event.specs.tree_laws.Stands.{StepOf, OpWithPathOf, op_with_path_id, stands, regions_stands, region_stands, ops_stands, gather, edit_stand, dropping}
use Rattle.ir_event.proofs.of_tree_laws.Listed.{gather-append}
use Rattle.ir_event.proofs.of_tree_laws.Heads.{each_stands}
use Rattle.ir_event.proofs.of_tree_laws.Readings.{step}
use Rattle.ir_event.proofs.of_tree_laws.Stretches.{gather_left}
use Rattle.ir_event.proofs.of_tree_laws.Without.{same_head}
use Rattle.ir_event.proofs.of_tree_laws.Shift.{inner_of}
use Rattle.ir_event.proofs.of_tree_laws.Edited.{taken_part}
use Rattle.listeners.specs.declared.key.Use.{Use}
use Rattle.listeners.specs.Uses.{operand_uses, uses_in, regions_uses, region_uses, ops_uses, put_use, in_order}
use Rattle.listeners.proofs.Orders.{insert_sorted}

-- the ordered list doesn't depend on the order of insertion
pub moved_preceding : (us vs ws : List Use) → in_order (us ++ (vs ++ ws)) ≡ in_order (vs ++ (us ++ ws))
moved_preceding us [] ws = refl
moved_preceding us (v ∷ vs) ws = insert_sorted us (vs ++ ws) v ∙ ap (put_use v) (moved_preceding us vs ws)

module _ {N T A : Type 0} where
  abbrev own : OpWithPathOf N T A → List Use
  own s = operand_uses (op_with_path_id s) 0 (head s.here).operands

  -- uses by the list of operations
  mutual
    pub uses_stands : (path : List (StepOf N T A)) (t : OpOf N T A) → gather (λ (s : OpWithPathOf N T A). operand_uses (op_with_path_id s) 0 (head s.here).operands) (stands path t) ≡ uses_in t
    uses_stands path (op h rs) = ap (λ l. operand_uses h.id 0 h.operands ++ l) (regions_uses_stands (op h rs) path 0 rs)

    regions_uses_stands : (p : OpOf N T A) (path : List (StepOf N T A)) (r : ℕ) (rs : RegionsOf N T A) → gather own (regions_stands p path r rs) ≡ regions_uses rs
    regions_uses_stands p path r no_regions = refl
    regions_uses_stands p path r (region g rs) =
        gather-append own (region_stands p path r g) (regions_stands p path (r + 1) rs) ∙ λ i. region_uses_stands p path r g i ++ regions_uses_stands p path (r + 1) rs i

    region_uses_stands : (p : OpOf N T A) (path : List (StepOf N T A)) (r : ℕ) (g : RegionOf N T A) → gather own (region_stands p path r g) ≡ region_uses g
    region_uses_stands p path r empty = refl
    region_uses_stands p path r (block args os) = ops_uses_stands p path r args [] os

    ops_uses_stands : (p : OpOf N T A) (path : List (StepOf N T A)) (r : ℕ) (args : List T) (preceding : List (OpOf N T A)) (os : OpsOf N T A) → gather own (ops_stands p path r args preceding os) ≡ ops_uses os
    ops_uses_stands p path r args preceding no_ops = refl
    ops_uses_stands p path r args preceding (next o os) =
        gather-append own (stands (step p r args preceding os ∷ path) o) (ops_stands p path r args (preceding ++ o ∷ []) os)
        ∙ λ i. uses_stands (step p r args preceding os ∷ path) o i ++ ops_uses_stands p path r args (preceding ++ o ∷ []) os i

  -- the uses of a removed operation were among the others
  pub record Cut (o t u : OpOf N T A) : Type 0 where
    pub preceding : List Use
    pub back : List Use
    pub was : uses_in t ≡ preceding ++ (uses_in o ++ back)
    pub is : uses_in u ≡ preceding ++ back

  pub taken : (x : ℕ) (t o : OpOf N T A) → HasDistinctIds t → find x t ≡ Some o → eqb (head t).id x ≡ false → Cut o t (without x t)
  taken x t o d found inner =
      let w = taken_part x t o d found inner in
      let q = inner_of x t o found inner in
      let path = q.step_in ∷ q.path in
      record {
        preceding = gather own w.preceding;
        back = gather own w.back;
        was = sym (uses_stands [] t)
            ∙ ap (gather own) w.is
            ∙ gather-append own w.preceding (stands path o ++ w.back)
            ∙ ap (λ l. gather own w.preceding ++ l) (gather-append own (stands path o) w.back ∙ ap (λ l. l ++ gather own w.back) (uses_stands path o));
        is = sym (uses_stands [] (without x t))
            ∙ ap (gather own) w.left
            ∙ gather_left own x (λ s. ap (λ (h : HeadOf N T A). operand_uses h.id 0 h.operands) (same_head x (dropping x) s.here)) (w.preceding ++ w.back)
            ∙ gather-append own w.preceding w.back;
      }

  pub cut_order : (o t u : OpOf N T A) → Cut o t u → in_order (uses_in t) ≡ in_order (uses_in o ++ uses_in u)
  cut_order o t u c = ap in_order c.was ∙ moved_preceding c.preceding (uses_in o) c.back ∙ ap (λ l. in_order (uses_in o ++ l)) (sym c.is)

  -- an operation without nested operations has only the uses of its operands
  none_inside : (rs : RegionsOf N T A) → HoldNone rs → regions_uses rs ≡ []
  none_inside no_regions h = refl
  none_inside (region empty rs) h = none_inside rs h
  none_inside (region (block args no_ops) rs) h = none_inside rs h
  none_inside (region (block args (next o os)) rs) h = absurd h

  pub leaf_uses : (o : OpOf N T A) (us : List Use) → HoldNone (regions o) → uses_in o ++ us ≡ operand_uses (head o).id 0 (head o).operands ++ us
  leaf_uses (op h rs) us n = append_assoc (operand_uses h.id 0 h.operands) (regions_uses rs) us ∙ ap (λ l. operand_uses h.id 0 h.operands ++ (l ++ us)) (none_inside rs n)

  -- an edit of heads that keeps ids and operands keeps the uses
  module _ (f : HeadOf N T A → HeadOf N T A) (id : (h : HeadOf N T A) → (f h).id ≡ h.id) (operands : (h : HeadOf N T A) → (f h).operands ≡ h.operands) where
    edited_head : (o : OpOf N T A) → head (each_head f o) ≡ f (head o)
    edited_head (op h rs) = refl

    edited_own : (s : OpWithPathOf N T A) → own (edit_stand f s) ≡ own s
    edited_own s = ap (λ (h : HeadOf N T A). operand_uses h.id 0 h.operands) (edited_head s.here) ∙ λ i. operand_uses (id (head s.here) i) 0 (operands (head s.here) i)

    edited_all : (ss : List (OpWithPathOf N T A)) → gather own (map (edit_stand f) ss) ≡ gather own ss
    edited_all [] = refl
    edited_all (s ∷ ss) = λ i. edited_own s i ++ edited_all ss i

    pub edited_uses : (t : OpOf N T A) → uses_in (each_head f t) ≡ uses_in t
    edited_uses t = sym (uses_stands [] (each_head f t)) ∙ ap (gather own) (each_stands f [] t) ∙ edited_all (stands [] t) ∙ uses_stands [] t
