-- An operation that can be taken out can be erased: it has no operations inside it and no uses.
use Rattle.std.proofs.Common.{◌≡◌, refl, ap, sym, ◌∙◌, ℕ, true, false, true≢false, ◌||◌, not, eqb, eq-eqb, [], ◌∷◌, Some, None}
use Rattle.std.specs.List.{list_any}
use Rattle.std.proofs.lemmas.Bool.{ne_eqb}
use Rattle.ir_event.specs.types.declared.refusal.Refusal.TheVariants.{NoSuchOp, IsRoot, HasUses}
use Rattle.ir_event.specs.trees.Tree.{HeadOf, OpOf, head, regions}
use Rattle.ir_event.specs.trees.Ids.{HasDistinctIds, find, ids}
use Rattle.ir_event.specs.trees.Frames.{owner_of}
use Rattle.ir_event.specs.trees.Limits.{every}
use Rattle.ir_event.specs.trees.Places.{without}
use Rattle.ir_event.proofs.of_trees.Facts.{ids_head}
use Rattle.ir_event.specs.tree_laws.Members.{In}
use Rattle.ir_event.specs.tree_laws.Reads.{is_within}
use Rattle.ir_event.specs.tree_laws.Reasons.{holds_none, leaves, leaves_within, take_reason, unused_outside}
use Rattle.ir_event.specs.tree_laws.Stands.{OpWithPathOf, dropping, stands}
use Rattle.ir_event.proofs.of_tree_laws.Around.{present_stand}
use Rattle.ir_event.proofs.of_tree_laws.Listed.{all_each, each_all, not_false}
use Rattle.ir_event.proofs.of_tree_laws.Members.{stand_found}
use Rattle.ir_event.proofs.of_tree_laws.Readings.{stands_every}
use Rattle.ir_event.proofs.of_tree_laws.Reasoned.{NoTakeReason, no_take_reason, none_ids}
use Rattle.ir_event.proofs.of_tree_laws.Reverted.{passed}
use Rattle.ir_event.proofs.of_tree_laws.Without.{member_left, same_head}
use Rattle.rewriter.specs.Edits.{erase_reason}

module _ {N T A : Type 0} (x : ℕ) (t : OpOf N T A) (d : HasDistinctIds t) (free : take_reason x t ≡ None) where
  abbrev why : NoTakeReason x t
  why = no_take_reason x t free

  abbrev there : (s : OpWithPathOf N T A) × In s (stands [] t) × ((head s.here).id ≡ x)
  there = present_stand [] t x why.there

  abbrev here : OpOf N T A
  here = there.0.here

  found : find x t ≡ Some here
  found = ap (λ z. find z t) (sym there.2) ∙ stand_found t d there.0 there.1

  alone : ids here ≡ x ∷ []
  alone =
      ids_head here
      ∙ ap (λ l. (head here).id ∷ l) (none_ids (regions here) (ap holds_none (sym found) ∙ why.empty))
      ∙ ap (λ z. z ∷ []) there.2

  -- an operation that doesn't use its values uses no value from within it
  leaves_all : (h : HeadOf N T A) → leaves x h ≡ true → leaves_within (Some here) h ≡ true
  leaves_all h l = each_all (λ v. not (is_within (owner_of v).0 (Some here))) h.operands (λ v n.
      let y = (owner_of v).0 in
      let apart : eqb y x ≡ false = not_false (eqb y x) (all_each (λ v. not (eqb (owner_of v).0 x)) h.operands l v n) in
      let other : eqb x y ≡ false = ne_eqb x y (λ e. true≢false (sym (eq-eqb y x (sym e)) ∙ apart)) in
      ap (λ l. not (list_any (λ z. eqb z y) l)) alone ∙ ap (λ b. not (b || false)) other)

  outside : unused_outside x t ≡ true
  outside =
      (λ j. every (λ o. leaves_within (found j) (head o)) (without x t))
      ∙ sym (stands_every (λ o. leaves_within (Some here) (head o)) [] (without x t))
      ∙ each_all (λ (s : OpWithPathOf N T A). leaves_within (Some here) (head s.here)) (stands [] (without x t)) one
    where
      spared : (s : OpWithPathOf N T A) → In s (stands [] t) → leaves x (head s.here) ≡ true
      spared = all_each (λ (s : OpWithPathOf N T A). leaves x (head s.here)) (stands [] t) (stands_every (λ o. leaves x (head o)) [] t ∙ why.spared)

      one : (s : OpWithPathOf N T A) → In s (stands [] (without x t)) → leaves_within (Some here) (head s.here) ≡ true
      one s h =
          let w = member_left x t s h in
          let same : head s.here ≡ head w.0.here = ap (λ (s : OpWithPathOf N T A). head s.here) w.3 ∙ same_head x (dropping x) w.0.here in
          ap (leaves_within (Some here)) same ∙ leaves_all (head w.0.here) (spared w.0 w.1)

  pub may_erase : erase_reason x t ≡ None
  may_erase = passed _ NoSuchOp _ why.there (passed _ IsRoot _ (ap not why.inner) (passed _ HasUses None outside refl))
