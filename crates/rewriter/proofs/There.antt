-- An operation that is in a tree is found there, and it has a place exactly if it isn't the root.
use Rattle.std.proofs.Common.{◌≡◌, ◌∙◌, sym, ap, ℕ, List, [], ◌∷◌, Bool, true, false, eqb, eqb-true, not, refl, inl, inr, Option, Some, None}
use Rattle.std.specs.Prelude.{is_some}
use Rattle.ir_event.specs.types.declared.refusal.Refusal.{Refusal}
use Rattle.ir_event.specs.types.declared.refusal.Refusal.TheVariants.{NoSuchOp, IsRoot, HasUses}
use Rattle.ir_event.specs.trees.declared.place.Place.{Place}
use Rattle.ir_event.specs.trees.Tree.{OpOf, head}
use Rattle.ir_event.specs.trees.Ids.{HasDistinctIds, find, has_id}
use Rattle.ir_event.specs.trees.Places.{place_of}
use Rattle.ir_event.specs.tree_laws.Reasons.{unless, unused_outside}
use Rattle.ir_event.specs.tree_laws.Stands.{OpWithPathOf, place_in}
use Rattle.ir_event.proofs.of_tree_laws.Members.{stand, itself, stand_found, same_stand}
use Rattle.ir_event.proofs.of_tree_laws.Around.{present_stand, member_of_place}
use Rattle.ir_event.proofs.of_tree_laws.Listed.{bool_cases}
use Rattle.ir_event.proofs.of_tree_laws.Shift.{Inner, inner_of, inner_place}
use Rattle.rewriter.specs.Edits.{erase_reason}

module _ {N T A : Type 0} (x : ℕ) (t : OpOf N T A) (d : HasDistinctIds t) (known : has_id x t ≡ true) where
  pub there : (o : OpOf N T A) × (find x t ≡ Some o)
  there = let s = present_stand [] t x known in (s.0.here, ap (λ z. find z t) (sym s.2) ∙ stand_found t d s.0 s.1)

  pub not_gone : find x t ≡ None → ⊥
  not_gone e = let n : None ≡ Some there.0 = sym e ∙ there.1 in cc

  -- the root has no place, and each other operation has one
  root_unplaced : (p : Place) → place_of x t ≡ Some p → eqb (head t).id x ≡ true → ⊥
  root_unplaced p e root =
      let w = member_of_place x p t e in
      let same : w.0 ≡ stand t [] = same_stand t d w.0 (stand t []) w.1 (itself [] t) (w.2 ∙ sym (eqb-true (head t).id x root)) in
      let n : None ≡ Some p = ap (λ (s : OpWithPathOf N T A). place_in s.path) (sym same) ∙ w.3 in
      cc

  other_placed : place_of x t ≡ None → eqb (head t).id x ≡ false → ⊥
  other_placed e other =
      let i = inner_of x t there.0 there.1 other in
      let place : Option Place = None in
      let n : is_some (place_in (i.step_in ∷ i.path)) ≡ is_some place = ap is_some (sym (inner_place x t there.0 d i) ∙ e) in
      let m : true ≡ false = n in
      cc

  is_root : place_of x t ≡ None → eqb (head t).id x ≡ true
  is_root e = elim (bool_cases (eqb (head t).id x)) [
    | inl k ↦ k
    | inr k ↦ absurd (other_placed e k)
  ]

  is_other : (p : Place) → place_of x t ≡ Some p → eqb (head t).id x ≡ false
  is_other p e = elim (bool_cases (eqb (head t).id x)) [
    | inl k ↦ absurd (root_unplaced p e k)
    | inr k ↦ k
  ]

  -- the reason that it can't be erased, if there is one
  pub root_reason : place_of x t ≡ None → erase_reason x t ≡ Some IsRoot
  root_reason e = λ i. unless (known i) NoSuchOp (unless (not (is_root e i)) IsRoot (unless (unused_outside x t) HasUses None))

  pub other_reason : (p : Place) (b : Bool) → place_of x t ≡ Some p → unused_outside x t ≡ b → erase_reason x t ≡ unless b HasUses None
  other_reason p b e u = λ i. unless (known i) NoSuchOp (unless (not (is_other p e i)) IsRoot (unless (u i) HasUses None))
