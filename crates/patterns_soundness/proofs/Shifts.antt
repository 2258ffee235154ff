-- If an operation is moved, the types of values and the heads stay the same.
use Rattle.std.proofs.Common.{◌≡◌, refl, ap, sym, ◌∙◌, subst, ℕ, false, true≢false, eqb, eq-eqb, eqb-true, List, [], ◌∷◌, ◌++◌, Option, Some, None, inl, inr, ◌⊎◌}
use Rattle.std.specs.Prelude.{option_map}
use Rattle.ir_event.specs.types.Words.{is_isolated, is_table}
use Rattle.ir_event.specs.trees.declared.value.Value.{Value}
use Rattle.ir_event.specs.trees.declared.place.Place.{Place}
use Rattle.ir_event.specs.trees.Tree.{head}
use Rattle.ir_event.specs.trees.Ids.{HasDistinctIds, find}
use Rattle.ir_event.specs.trees.Places.{put, shifted, without}
use Rattle.ir_event.specs.trees.Frames.{owner_of}
use Rattle.ir_event.specs.trees.Meaning.{Operation}
use Rattle.ir_event.specs.store.Nodes.{node_of}
use Rattle.ir_event.specs.tree_laws.Stands.{left_stand, op_with_path, stands}
use Rattle.ir_event.specs.tree_laws.Reasons.{leads_inside}
use Rattle.ir_event.specs.tree_laws.Values.{type_of_value}
use Rattle.ir_event.proofs.of_tree_laws.Listed.{bool_cases}
use Rattle.ir_event.proofs.of_tree_laws.Members.{member, stand_found}
use Rattle.ir_event.proofs.of_tree_laws.Around.{present_stand}
use Rattle.ir_event.proofs.of_tree_laws.Readings.{stands_find}
use Rattle.ir_event.proofs.of_tree_laws.Reasoned.{no_shift_reason}
use Rattle.ir_event.proofs.of_tree_laws.Shift as shift
use Rattle.listeners_support.specs.Surroundings.{outer_of}
use Rattle.listeners_support.proofs.Alike.{Both, both, each, neither, same_value_type}
use Rattle.listeners_support.proofs.Left.{left_node}
use Rattle.listeners_support.proofs.Moves.{moved}
use Rattle.ir_event.specs.Modules.{Module}
use Rattle.rewriter_machine.specs.Contents.{all_edited, edit_reason, edited}
use Rattle.rewriter_machine.specs.Edits.{Move}
use Rattle.patterns_base.proofs.Body.{hold_step}
use Rattle.patterns_base.proofs.Plans.{HasFirst, moving}
use Rattle.patterns_soundness.proofs.Unbroken.{OpWithPath}
use Rattle.listeners_support.proofs.Reading.{head_shown}

abbrev SameNode : OpWithPath → OpWithPath → Type 0
SameNode s r = node_of s.here ≡ node_of r.here

module _ (x : ℕ) (m n : Operation) (dm : HasDistinctIds m) (dn : HasDistinctIds n) (is : without x n ≡ without x m) (same : find x n ≡ find x m) where
  left_same : (s r : OpWithPath) → (left_stand x r ≡ left_stand x s) ⊎ ((r.here ≡ s.here) × (outer_of r.path ≡ outer_of s.path)) → SameNode s r
  left_same s r (inl e) = sym (left_node x s.here) ∙ ap (λ (z : OpWithPath). node_of z.here) (sym e) ∙ left_node x r.here
  left_same s r (inr e) = ap (λ o. node_of o) (sym e.0)

  others : (z : ℕ) → (z ≡ x → ⊥) → Both SameNode z m n
  others z apart = both SameNode z m n dm dn
      (λ s h i. let r = moved x m n dm dn (sym is) (sym same) s h (λ k. apart (sym i ∙ k)) in (r.0, r.1, r.2 ∙ i, left_same s r.0 r.3))
      (λ s h i. let r = moved x n m dn dm is same s h (λ k. apart (sym i ∙ k)) in (r.0, r.1, r.2 ∙ i))

  itself : (a b : Option OpWithPath) → option_map (λ (z : OpWithPath). z.here) a ≡ option_map (λ (z : OpWithPath). z.here) b → op_with_path x m ≡ a → op_with_path x n ≡ b → Both SameNode x m n
  itself None None k i j = neither i j
  itself None (Some r) k i j = absurd cc
  itself (Some s) None k i j = absurd cc
  itself (Some s) (Some r) k i j = let one : s.here ≡ r.here = cc in each s r (member x (stands [] m) s i).0 i j (ap (λ o. node_of o) one)

  all_same : (z : ℕ) → Both SameNode z m n
  all_same z = elim (bool_cases (eqb z x)) [
    | inr k ↦ others z (λ i. true≢false (sym (eq-eqb z x i) ∙ k))
    | inl k ↦ subst (λ y. Both SameNode y m n) (sym (eqb-true z x k)) (itself (op_with_path x m) (op_with_path x n) (stands_find x [] m ∙ sym same ∙ sym (stands_find x [] n)) refl refl)
  ]

  types_same : (v : Value) → type_of_value v m ≡ type_of_value v n
  types_same v = same_value_type v m n (all_same (owner_of v).0)

  heads_same : (z : ℕ) → option_map head (find z m) ≡ option_map head (find z n)
  heads_same z = ap (option_map head) (sym (stands_find z [] m)) ∙ go (all_same z) ∙ ap (option_map head) (stands_find z [] n)
    where
      go : Both SameNode z m n → option_map head (option_map (λ (z : OpWithPath). z.here) (op_with_path z m)) ≡ option_map head (option_map (λ (z : OpWithPath). z.here) (op_with_path z n))
      go (neither i j) = ap (λ o. option_map head (option_map (λ (z : OpWithPath). z.here) o)) i ∙ sym (ap (λ o. option_map head (option_map (λ (z : OpWithPath). z.here) o)) j)
      go (each s r h i j k) =
          ap (λ o. option_map head (option_map (λ (z : OpWithPath). z.here) o)) i
          ∙ ap Some (sym (head_shown s.here) ∙ ap (λ n. n.head) k ∙ head_shown r.here)
          ∙ sym (ap (λ o. option_map head (option_map (λ (z : OpWithPath). z.here) o)) j)

-- the move isn't refused
module _ (x : ℕ) (place : Place) (m : Module) (d : HasDistinctIds m.tree) (free : edit_reason (Move x place) m ≡ None) where
  abbrev Stays : Operation → Type 0
  Stays t = ((v : Value) → type_of_value v t ≡ type_of_value v m.tree) × ((z : ℕ) → option_map head (find z t) ≡ option_map head (find z m.tree))

  move_stays : Stays (shifted x place m.tree)
  move_stays =
      let r = no_shift_reason is_isolated is_table x place m.tree free in
      let w = present_stand [] m.tree x r.there in
      let found : find x m.tree ≡ Some w.0.here = ap (λ z. find z m.tree) (sym w.2) ∙ stand_found m.tree d w.0 w.1 in
      let outside : leads_inside place (Some w.0.here) ≡ false = ap (leads_inside place) (sym found) ∙ r.outside in
      let is = shift.is_put x place m.tree w.0.here d found r.inner r.point outside in
      let distinct = shift.shift_distinct x place m.tree w.0.here d found r.inner r.point outside in
      let rest = shift.shift_rest x place m.tree w.0.here d found r.inner r.point outside in
      let same = shift.shift_found x place m.tree w.0.here d found r.inner r.point outside in
      let after = put place w.0.here (without x m.tree) in (
        λ v. ap (type_of_value v) is ∙ sym (types_same x m.tree after d distinct rest same v),
        λ z. ap (λ t. option_map head (find z t)) is ∙ sym (heads_same x m.tree after d distinct rest same z),
      )

  pub move_types : (v : Value) → type_of_value v (shifted x place m.tree) ≡ type_of_value v m.tree
  move_types = move_stays.0

  pub move_heads : (z : ℕ) → option_map head (find z (shifted x place m.tree)) ≡ option_map head (find z m.tree)
  move_heads = move_stays.1

-- the first operations of a block are moved before the operation around it, one after another
pub moved_types : (x r : ℕ) (insertion : Place) (ys zs : List ℕ) (m : Module) → HasFirst x r insertion (ys ++ zs) m → (v : Value) → type_of_value v (all_edited (moving insertion ys) m).tree ≡ type_of_value v m.tree
moved_types x r insertion [] zs m h v = refl
moved_types x r insertion (y ∷ ys) zs m h v =
    let k = hold_step is_isolated is_table x r insertion y (ys ++ zs) m h in
    moved_types x r insertion ys zs (edited (Move y insertion) m) k.1 v ∙ move_types y insertion m h.located.wellformed.distinct k.0 v

pub moved_heads : (x r : ℕ) (insertion : Place) (ys zs : List ℕ) (m : Module) → HasFirst x r insertion (ys ++ zs) m → (z : ℕ) → option_map head (find z (all_edited (moving insertion ys) m).tree) ≡ option_map head (find z m.tree)
moved_heads x r insertion [] zs m h z = refl
moved_heads x r insertion (y ∷ ys) zs m h z =
    let k = hold_step is_isolated is_table x r insertion y (ys ++ zs) m h in
    moved_heads x r insertion ys zs (edited (Move y insertion) m) k.1 z ∙ move_heads y insertion m h.located.wellformed.distinct k.0 z
