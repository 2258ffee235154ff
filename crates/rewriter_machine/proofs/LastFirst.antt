-- An operation is erased from its last operation on: the remaining part can be erased too.
use Rattle.std.proofs.Common.{◌≡◌, refl, ap, sym, ◌∙◌, subst, ℕ, Bool, true, false, true≢false, not, eqb, eq-eqb, List, [], ◌∷◌, ◌++◌, reverse, Some, None, inl, inr}
use Rattle.std.proofs.lemmas.List.{reverse-reverse, reverse-append}
use Rattle.ir_event.specs.types.declared.refusal.Refusal.TheVariants.{NoSuchOp, HasUses, IsRoot}
use Rattle.ir_event.specs.trees.declared.place.Place.{Place}
use Rattle.ir_event.specs.trees.Tree.{HeadOf, OpOf, head}
use Rattle.ir_event.specs.trees.Ids.{ids, has_id, find}
use Rattle.ir_event.specs.trees.Frames.{owner_of}
use Rattle.ir_event.specs.trees.Limits.{every}
use Rattle.ir_event.specs.trees.Places.{put, put_here, without}
use Rattle.ir_event.specs.trees.WellFormed.{ModuleOf, IsWellFormed}
use Rattle.ir_event.proofs.of_trees.Moves.{take_put}
use Rattle.ir_event.specs.tree_laws.Members.{In}
use Rattle.ir_event.specs.tree_laws.Reads.{is_within}
use Rattle.ir_event.specs.tree_laws.Reasons.{take_reason, leaves_within, unused_outside}
use Rattle.ir_event.specs.tree_laws.Stands.{OpWithPathOf, stands}
use Rattle.ir_event.proofs.of_tree_laws.Listed.{bool_cases, all_each, each_all, not_false}
use Rattle.ir_event.proofs.of_tree_laws.Readings.{stands_every}
use Rattle.ir_event.proofs.of_tree_laws.Members.{found_stands}
use Rattle.ir_event.proofs.of_tree_laws.Around.{stand_present}
use Rattle.ir_event.proofs.of_tree_laws.Without.{same_head}
use Rattle.ir_event.proofs.of_tree_laws.PutForm.{put_found}
use Rattle.rewriter_machine.specs.Edits.{TestsOf, Erase, erase_reason, reason_by}
use Rattle.rewriter_machine.specs.Erasing.{ids_in, erase_order}
use Rattle.rewriter_machine.proofs.Taken.{Erasing, taken_along, taken_goes_on, id_stays}
use Rattle.rewriter_machine.proofs.Erased.{Erased, erased, erased_may, erased_wellformed, erased_left}
use Rattle.std.proofs.lemmas.Bool.{ne_eqb}
use Rattle.ir_event.proofs.Facts.{own_id}
use Rattle.ir_event.proofs.of_tree_laws.Reverted.{passed}
use Rattle.ir_event.proofs.of_tree_laws.Nested.{unequal}

-- operation q is at a place of a tree that is otherwise `rest`, and no other operation uses a value from within it
module _ {N T A : Type 0} (isolated : N → Bool) (place : Place) (rest : OpOf N T A) (free x : ℕ) (q : OpOf N T A) (i : Erasing isolated place rest free q) (id : (head q).id ≡ x) where
  found : find x (put place q rest) ≡ Some q
  found = ap (λ y. find y (put place q rest)) (sym id) ∙ put_found place q rest i.may

  there : has_id x (put place q rest) ≡ true
  there = let s = found_stands x (put place q rest) q found in subst (λ y. has_id y (put place q rest) ≡ true) s.2 (stand_present [] (put place q rest) s.0 s.1)

  not_in_rest : has_id x rest ≡ false
  not_in_rest = i.may.apart x (subst (λ y. has_id y q ≡ true) id (own_id q))

  inner : eqb (head (put place q rest)).id x ≡ false
  inner =
      ap (λ (h : HeadOf N T A). eqb h.id x) (same_head x (put_here place q) rest)
      ∙ ne_eqb (head rest).id x (λ e. true≢false (sym (subst (λ z. has_id z rest ≡ true) e (own_id rest)) ∙ not_in_rest))

  pub goes_out : without x (put place q rest) ≡ rest
  goes_out = ap (λ z. without z (put place q rest)) (sym id) ∙ take_put place q rest (i.may.apart (head q).id (own_id q))

  alone : unused_outside x (put place q rest) ≡ true
  alone =
      (λ j. every (λ o. leaves_within (found j) (head o)) (goes_out j))
      ∙ sym (stands_every (λ o. leaves_within (Some q) (head o)) [] rest)
      ∙ each_all (λ (s : OpWithPathOf N T A). leaves_within (Some q) (head s.here)) (stands [] rest) one
    where
      one : (s : OpWithPathOf N T A) → In s (stands [] rest) → leaves_within (Some q) (head s.here) ≡ true
      one s h = each_all (λ v. not (is_within (owner_of v).0 (Some q))) (head s.here).operands (λ v n. elim (bool_cases (has_id (owner_of v).0 q)) [
        | inr k ↦ ap not k
        | inl k ↦ (let y = (owner_of v).0 in
            let apart = not_false (eqb y y) (all_each (λ v. not (eqb (owner_of v).0 y)) (head s.here).operands (i.spared y k s h) v n) in
            absurd (true≢false (sym (eq-eqb y y refl) ∙ apart)))
      ])

  pub may_erase : erase_reason x (put place q rest) ≡ None
  may_erase = passed _ NoSuchOp _ there (passed _ IsRoot _ (ap not inner) (passed _ HasUses None alone refl))

module _ {N T A : Type 0} (w : TestsOf N T) (x y : ℕ) (ys : List ℕ) (m : ModuleOf N T A) (f : IsWellFormed w.isolated m) (e : reason_by w (Erase x) m ≡ None) (is : ids_in (find x m.tree) ≡ ys ++ y ∷ []) where
  order : (y ∷ []) ++ reverse ys ≡ erase_order x m.tree
  order = sym (ap reverse is ∙ reverse-append ys (y ∷ []))

  pub last_allowed : take_reason y m.tree ≡ None
  last_allowed = erased_may w x m f e [] (reverse ys) y order

  pub last_wellformed : IsWellFormed w.isolated (record m { tree = without y m.tree })
  last_wellformed = erased_wellformed w x m f e (y ∷ []) (reverse ys) order

  pub last_fewer : ids_in (find x (without y m.tree)) ≡ ys
  last_fewer =
      sym (reverse-reverse (ids_in (find x (without y m.tree))))
      ∙ ap reverse (erased_left w x m f e (y ∷ []) (reverse ys) order)
      ∙ reverse-reverse ys

  module _ (other : eqb y x ≡ false) where
    abbrev it : Erased w x m f e
    it = erased w x m f e

    abbrev rest : OpOf N T A
    rest = without x m.tree

    own : ids it.here ≡ ys ++ y ∷ []
    own = sym (ap ids_in it.found) ∙ is

    under : eqb (head it.here).id y ≡ false
    under = ap (λ z. eqb z y) it.id ∙ unequal y x other

    along : without y m.tree ≡ put it.place (without y it.here) rest
    along = ap (without y) (sym it.is) ∙ taken_along w.isolated it.place rest m.next it.here it.goes ys y own under

    goes_on : Erasing w.isolated it.place rest m.next (without y it.here)
    goes_on = taken_goes_on w.isolated it.place rest m.next it.here it.goes ys y own under

    id : (head (without y it.here)).id ≡ x
    id = id_stays w.isolated it.place rest m.next y it.here ∙ it.id

    pub last_still : reason_by w (Erase x) (record m { tree = without y m.tree }) ≡ None
    last_still = ap (erase_reason x) along ∙ may_erase w.isolated it.place rest m.next x (without y it.here) goes_on id

    pub last_same : without x (without y m.tree) ≡ without x m.tree
    last_same = ap (without x) along ∙ goes_out w.isolated it.place rest m.next x (without y it.here) goes_on id
