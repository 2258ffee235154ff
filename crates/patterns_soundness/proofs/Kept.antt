-- Properties of the operations that an edit leaves alone.
use Rattle.std.proofs.Common.{◌≡◌, refl, ap, sym, ◌∙◌, subst, ℕ, ◌+◌, ◌<◌, ◌≤◌, Bool, true, false, true≢false, ◌&&◌, eqb, eqb-true, List, [], ◌∷◌, ◌++◌, length, Option, Some, None, option_map, inl, inr, ◌⊎◌, arith}
use Rattle.std.specs.List.{list_all}
use Rattle.std.specs.Prelude.{nat_lt}
use Rattle.std.proofs.lemmas.Bool.{lt-ltb}
use Rattle.ir_event.specs.trees.declared.value.Value.{Value}
use Rattle.ir_event.specs.trees.declared.place.Place.{Place}
use Rattle.ir_event.specs.trees.Tree.{HeadOf, OpOf, op, RegionsOf, no_regions, region, empty, block, no_ops, next, head, regions}
use Rattle.ir_event.specs.trees.Ids.{HasDistinctIds, find, has_id, op_count}
use Rattle.ir_event.specs.trees.Uses.{uses_of}
use Rattle.ir_event.specs.trees.Frames.{owner_of}
use Rattle.ir_event.specs.trees.Limits.{most_next, most_ops, op_fits}
use Rattle.ir_event.specs.trees.Sites.{visible}
use Rattle.ir_event.specs.trees.Places.{put, without}
use Rattle.ir_event.specs.trees.WellFormed.{ModuleOf, IsWellFormed}
use Rattle.ir_event.specs.tree_laws.Stands.{OpWithPathOf, op_with_path_id, stands, left_stand, dropping}
use Rattle.ir_event.specs.tree_laws.Members.{In}
use Rattle.ir_event.specs.tree_laws.Reads.{around}
use Rattle.ir_event.specs.tree_laws.Reasons.{fits_around, has_place, hold_none, leads_inside, put_reason, with_id}
use Rattle.ir_event.specs.tree_laws.Restores.{MayPut}
use Rattle.ir_event.specs.tree_laws.Values.{has_value}
use Rattle.ir_event.proofs.of_tree_laws.Around.{present_stand, stand_present}
use Rattle.ir_event.proofs.of_tree_laws.Edited.{around_stays, head_stays, put_op_count, put_uses, dominance_stays}
use Rattle.ir_event.proofs.of_tree_laws.Wellformed.{ids_below}
use Rattle.ir_event.proofs.of_tree_laws.Listed.{both_hold, each_all, in_left, in_parts, in_right}
use Rattle.ir_event.proofs.of_tree_laws.PutForm as put_form
use Rattle.ir_event.proofs.of_tree_laws.Reasoned.{none_ids}
use Rattle.ir_event.proofs.of_tree_laws.WellKept.{may_put_leaf, put_keeps}
use Rattle.ir_event.proofs.of_tree_laws.Without.{member_left, same_head}
use Rattle.patterns_soundness.proofs.Ordered.{Before, Inside, before_back, inside_back}
use Rattle.patterns_soundness.proofs.Moving as moving
use Rattle.ir_event.proofs.of_tree_laws.Facts.{new_id, new_operands, new_results}
use Rattle.ir_event.proofs.of_tree_laws.Reverted.{passed}

module _ {N T A : Type 0} (isolated : N → Bool) (B : ℕ → Type 0) where
  -- the operations of B stay, with the dominance between them
  pub record Kept (t u : OpOf N T A) : Type 0 where
    pub present : (b : ℕ) → B b → has_id b u ≡ true
    pub heads : (b : ℕ) → B b → option_map head (find b u) ≡ option_map head (find b t)
    pub dominance : (b : ℕ) → B b → (v : Value) → B (owner_of v).0 → visible isolated u b v ≡ visible isolated t b v
    pub before : (a b : ℕ) → B a → B b → Before a b t → Before a b u
    pub inside : (p r b : ℕ) → B b → Inside p r b t → Inside p r b u
    pub arounds : (b : ℕ) → B b → around b u ≡ around b t

  pub kept_both : (t u v : OpOf N T A) → Kept t u → Kept u v → Kept t v
  kept_both t u v k l = record {
    present = l.present;
    heads = λ b h. l.heads b h ∙ k.heads b h;
    dominance = λ b h w o. l.dominance b h w o ∙ k.dominance b h w o;
    before = λ a b g h e. l.before a b g h (k.before a b g h e);
    inside = λ p r b h e. l.inside p r b h (k.inside p r b h e);
    arounds = λ b h. l.arounds b h ∙ k.arounds b h;
  }

  pub kept_none : (t : OpOf N T A) → ((b : ℕ) → B b → has_id b t ≡ true) → Kept t t
  kept_none t all = record { present = all; heads = λ b h. refl; dominance = λ b h w o. refl; before = λ a b g h e. e; inside = λ p r b h e. e; arounds = λ b h. refl }

module _ {N T A : Type 0} where
  -- an operation of the remaining tree was in the tree
  pub was_there : (z : ℕ) (t : OpOf N T A) (b : ℕ) → has_id b (without z t) ≡ true → has_id b t ≡ true
  was_there z t b h =
      let u = present_stand [] (without z t) b h in
      let m = member_left z t u.0 u.1 in
      ap (λ i. has_id i t) (sym (ap (λ (y : HeadOf N T A). y.id) (sym (same_head z (dropping z) m.0.here)) ∙ ap (λ (y : OpWithPathOf N T A). op_with_path_id y) (sym m.3) ∙ u.2)) ∙ stand_present [] t m.0 m.1

  one_op : (n : ℕ) (o : OpOf N T A) → hold_none (regions o) ≡ true → op_count (with_id n o) ≡ 1
  one_op n (op h rs) e = ap (λ l. length (n ∷ l)) (none_ids rs e)

-- an operation is made
module _ {N T A : Type 0} (isolated : N → Bool) (m : ModuleOf N T A) (w : IsWellFormed isolated m) (place : Place) (point : has_place place m.tree ≡ true) (o : OpOf N T A) (leaf : hold_none (regions o) ≡ true) where
  abbrev t : OpOf N T A
  t = m.tree

  abbrev after : OpOf N T A
  after = put place (with_id m.next o) m.tree

  pub may : MayPut place (with_id m.next o) m.tree
  may = may_put_leaf isolated place o m w leaf point

  pub made_distinct : HasDistinctIds (put place (with_id m.next o) m.tree)
  made_distinct = put_form.put_distinct place (with_id m.next o) m.tree may

  pub made_back : without m.next (put place (with_id m.next o) m.tree) ≡ m.tree
  made_back = ap (λ i. without i after) (sym (new_id m.next o)) ∙ put_form.put_back place (with_id m.next o) m.tree may

  pub made_found : find m.next (put place (with_id m.next o) m.tree) ≡ Some (with_id m.next o)
  made_found = ap (λ i. find i after) (sym (new_id m.next o)) ∙ put_form.put_found place (with_id m.next o) m.tree may

  pub made_count : op_count (put place (with_id m.next o) m.tree) ≡ op_count m.tree + 1
  made_count = put_op_count place (with_id m.next o) m.tree may ∙ ap (λ k. op_count m.tree + k) (one_op m.next o leaf)

  -- an operation of the module isn't the new one
  pub not_new : (b : ℕ) → has_id b m.tree ≡ true → eqb b m.next ≡ false
  not_new b h = go (eqb b m.next) refl
    where
      go : (c : Bool) → eqb b m.next ≡ c → eqb b m.next ≡ false
      go false e = e
      go true e = (let s = present_stand [] t b h in let lt = ids_below m.next m.tree w.below s.0 s.1 in let i = s.2 in let j = eqb-true b m.next e in absurd (omega (arith, lt, i, j)))

  module _ (B : ℕ → Type 0) (all : (b : ℕ) → B b → has_id b m.tree ≡ true) where
    still : (b : ℕ) → B b → has_id b (without m.next (put place (with_id m.next o) m.tree)) ≡ true
    still b h = ap (has_id b) made_back ∙ all b h

    pub made_kept : Kept isolated B m.tree (put place (with_id m.next o) m.tree)
    made_kept = record {
      present = λ b h. was_there m.next after b (still b h);
      heads = λ b h. sym (head_stays m.next after made_distinct b (still b h)) ∙ ap (λ q. option_map head (find b q)) made_back;
      dominance = λ b h v g. sym (dominance_stays m.next after made_distinct b (still b h) isolated v (not_new (owner_of v).0 (all (owner_of v).0 g))) ∙ ap (λ q. visible isolated q b v) made_back;
      before = λ a b g h e. before_back m.next a b after (subst (Before a b) (sym made_back) e);
      inside = λ p r b h e. inside_back m.next p r b after (subst (Inside p r b) (sym made_back) e);
      arounds = λ b h. sym (around_stays m.next after made_distinct b (still b h)) ∙ ap (around b) made_back;
    }

  pub made_dominance : (b : ℕ) → has_id b m.tree ≡ true → (v : Value) → eqb (owner_of v).0 m.next ≡ false → visible isolated (put place (with_id m.next o) m.tree) b v ≡ visible isolated m.tree b v
  made_dominance b h v e = sym (dominance_stays m.next after made_distinct b (ap (has_id b) made_back ∙ h) isolated v e) ∙ ap (λ q. visible isolated q b v) made_back

  -- a user of a value after the insertion used it before, or is the new operation
  pub made_uses : (v : Value) (u : ℕ × ℕ) → In u (uses_of v (put place (with_id m.next o) m.tree)) → In u (uses_of v m.tree) ⊎ In u (uses_of v (with_id m.next o))
  made_uses v u h =
      let p = put_uses place (with_id m.next o) t may v in
      elim (in_parts u p.0 (uses_of v (with_id m.next o) ++ p.1) (subst (In u) p.3 h)) [
        | inl k ↦ inl (subst (In u) (sym p.2) (in_left u p.0 p.1 k))
        | inr k ↦ elim (in_parts u (uses_of v (with_id m.next o)) p.1 k) [ inl l ↦ inr l | inr l ↦ inl (subst (In u) (sym p.2) (in_right u p.0 p.1 l)) ]
      ]

  module _ (parent : has_id place.parent m.tree ≡ true) (fits : op_fits o ≡ true) (headroom : nat_lt (op_count m.tree) most_ops ≡ true) (more : nat_lt m.next most_next ≡ true) (levels : fits_around 0 (around place.parent m.tree) ≡ true)
      (values : (v : Value) → In v (head o).operands → has_value v m.tree ≡ true) (seen : (v : Value) → In v (head o).operands → visible isolated (put place (with_id m.next o) m.tree) m.next v ≡ true) where
    pub made_free : put_reason isolated place o m.next m.tree ≡ None
    made_free =
        passed _ _ _ parent
        (passed _ _ _ point
        (passed _ _ _ (both_hold _ _ headroom fits)
        (passed _ _ _ more
        (passed _ _ _ levels
        (passed _ _ _ (each_all (λ v. has_value v m.tree) (head o).operands values)
        (passed _ _ _ (each_all (visible isolated after m.next) (head o).operands seen) refl))))))

    pub made_wellformed : IsWellFormed isolated (record { tree = put place (with_id m.next o) m.tree; next = m.next + 1 })
    made_wellformed = put_keeps isolated place o m w leaf made_free

-- an operation is moved
module _ {N T A : Type 0} (isolated is_table : N → Bool) (m : ModuleOf N T A) (w : IsWellFormed isolated m) (z : OpOf N T A) (place : Place) (found : find (head z).id m.tree ≡ Some z) (root : eqb (head m.tree).id (head z).id ≡ false) (point : has_place place m.tree ≡ true) (outside : leads_inside place (Some z) ≡ false)
    (B : ℕ → Type 0) (all : (b : ℕ) → B b → has_id b m.tree ≡ true) (out : (b : ℕ) → B b → has_id b z ≡ false) where
  pub apart : (b : ℕ) → has_id b z ≡ false → eqb b (head z).id ≡ false
  apart b h = go (eqb b (head z).id) refl
    where
      own : (z : OpOf N T A) → has_id (head z).id z ≡ true
      own (op h rs) = stand_present [] (op h rs) (record { here = op h rs; path = [] }) (inl refl)

      go : (c : Bool) → eqb b (head z).id ≡ c → eqb b (head z).id ≡ false
      go false e = e
      go true e = absurd (true≢false (sym (ap (λ i. has_id i z) (eqb-true b (head z).id e) ∙ own z) ∙ h))

  pub moved_kept : Kept isolated B m.tree (put place z (without (head z).id m.tree))
  moved_kept = record {
    present = λ b h. was_there (head z).id (put place z (without (head z).id m.tree)) b (moving.left_after isolated is_table m w z place found root point outside b (all b h) (out b h));
    heads = λ b h. moving.head_same isolated is_table m w z place found root point outside b (all b h) (out b h);
    dominance = λ b h v g. moving.dominance isolated is_table m w z place found root point outside b (all b h) (out b h) v (apart (owner_of v).0 (out (owner_of v).0 g));
    before = λ a b g h e. moving.before_same isolated is_table m w z place found root point outside b (all b h) (out b h) a (apart a (out a g)) e;
    inside = λ p r b h e. moving.inside_same isolated is_table m w z place found root point outside b (all b h) (out b h) p r e;
    arounds = λ b h. moving.around_same isolated is_table m w z place found root point outside b (all b h) (out b h);
  }
