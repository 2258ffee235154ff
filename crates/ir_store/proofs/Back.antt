-- An operation that was shifted can be shifted back, and the store is then as before.
use Rattle.std.proofs.Common.{◌≡◌, refl, ap, sym, ◌∙◌, subst, ℕ, true, false, ◌||◌, eqb, Option, Some, None}
use Rattle.ir_store_reads.specs.trees.declared.place.Place.{Place}
use Rattle.ir_store_reads.specs.trees.Tree.{HeadOf, Op, OpOf, head}
use Rattle.ir_store_reads.specs.trees.Ids.{HasDistinctIds, find, has_id}
use Rattle.ir_store_reads.specs.trees.Places.{place_of, put_here, put_found, without, shifted}
use Rattle.ir_store_reads.proofs.of_trees.Returns.{put_take}
use Rattle.ir_store_reads.specs.tree_laws.Reasons.{has_place, leads_inside, before_within}
use Rattle.ir_store_reads.specs.tree_laws.Stands.{dropping}
use Rattle.ir_store_reads.proofs.of_tree_laws.Without.{same_head}
use Rattle.ir_store_reads.proofs.of_tree_laws.Changed.{point_left}
use Rattle.ir_store_reads.proofs.of_tree_laws.Reverted.{inside_goes, point_parent, point_before, point_was}
use Rattle.ir_store_reads.proofs.of_tree_laws.Shift.{Inner, inner_of, inner_place, is_put, shift_distinct, shift_found, shift_rest}
use Rattle.ir_store_reads.specs.Stored.{Stored}
use Rattle.ir_store.specs.Calls.{after_shift}
use Rattle.ir_store.specs.Shifting.{CanRelink}
use Rattle.ir_store.proofs.Tabled.{found_there}
use Rattle.ir_store.proofs.Rising.{the_op}

module _ {N T A : Type 0} (x : ℕ) (place : Place) (t o : OpOf N T A) (d : HasDistinctIds t) (found : find x t ≡ Some o) (root : eqb (head t).id x ≡ false) (point : has_place place t ≡ true) (out : leads_inside place (Some o) ≡ false) where
  abbrev after : OpOf N T A
  after = shifted x place t

  abbrev left : OpOf N T A
  left = without x t

  pub after_distinct : HasDistinctIds (shifted x place t)
  after_distinct = subst HasDistinctIds (sym (is_put x place t o d found root point out)) (shift_distinct x place t o d found root point out)

  pub after_found : find x (shifted x place t) ≡ Some o
  after_found = ap (find x) (is_put x place t o d found root point out) ∙ shift_found x place t o d found root point out ∙ found

  after_rest : without x after ≡ left
  after_rest = ap (without x) (is_put x place t o d found root point out) ∙ shift_rest x place t o d found root point out

  pub root_stays : eqb (head (shifted x place t)).id x ≡ false
  root_stays = ap (λ (h : HeadOf N T A). eqb h.id x) (ap (λ (z : OpOf N T A). head z) (is_put x place t o d found root point out) ∙ same_head x (put_here place o) left ∙ same_head x (dropping x) t) ∙ root

  module _ (old : Place) (was : place_of x t ≡ Some old) where
    pub back : shifted x old (shifted x place t) ≡ t
    back = (λ i. put_found old (after_found i) (after_rest i)) ∙ put_take x old o t d was found

    inner : Inner x t o
    inner = inner_of x t o found root

    point_out : has_place old left ≡ true
    point_out = point_left (λ _. false) x t d o inner.step_in inner.path inner.there inner.id old (sym (inner_place x t o d inner) ∙ was)

    pub point_back : has_place old (shifted x place t) ≡ true
    point_back = point_was x old after after_distinct (ap (has_place old) after_rest ∙ point_out)

    gone : (y : ℕ) → has_id y left ≡ true → has_id y o ≡ false
    gone y k = inside_goes t d o inner.step_in inner.path inner.there y (ap (λ b. has_id y (without b t)) inner.id ∙ k)

    before_out : (b : Option ℕ) → old.before ≡ b → before_within b (Some o) ≡ false
    before_out None k = refl
    before_out (Some b) k = gone b (point_before old left point_out b k)

    pub outside_back : leads_inside old (find x (shifted x place t)) ≡ false
    outside_back = ap (leads_inside old) after_found ∙ (λ i. gone old.parent (point_parent old left point_out) i || before_out old.before refl i)

module _ (x : ℕ) (place : Place) (t : Op) (d : HasDistinctIds t) (can : CanRelink x place t) (old : Place) (was : place_of x t ≡ Some old) where
  own : (o : Op) × (find x t ≡ Some o)
  own = the_op t d x can.there

  out : leads_inside place (Some own.0) ≡ false
  out = ap (leads_inside place) (sym own.1) ∙ can.outside

  -- the precondition of shifting back
  pub can_go_back : CanRelink x old (shifted x place t)
  can_go_back = record {
    there = found_there x (shifted x place t) own.0 (after_found x place t own.0 d own.1 can.inner can.point out);
    inner = root_stays x place t own.0 d own.1 can.inner can.point out;
    point = point_back x place t own.0 d own.1 can.inner can.point out old was;
    outside = outside_back x place t own.0 d own.1 can.inner can.point out old was;
  }

  pub shifted_back : shifted x old (shifted x place t) ≡ t
  shifted_back = back x place t own.0 d own.1 can.inner can.point out old was

-- shifting back restores the store
pub gone_back : (x : ℕ) (place old : Place) (s : Stored) → HasDistinctIds s.module_of.tree → CanRelink x place s.module_of.tree → place_of x s.module_of.tree ≡ Some old → after_shift x old (after_shift x place s) ≡ s
gone_back x place old s d can was = λ i. record s { module_of = record s.module_of { tree = shifted_back x place s.module_of.tree d can old was i } }
