-- An accepted erasure takes out operation by operation.
use Rattle.std.proofs.Common.{◌≡◌, refl, ap, sym, ◌∙◌, subst, ℕ, true, false, true≢false, not, eqb, eqb-true, List, [], ◌∷◌, ◌++◌, reverse, append-nil, Some, None, inl, inr}
use Rattle.ir_event.specs.types.declared.refusal.Refusal.TheVariants.{NoSuchOp, HasUses, IsRoot}
use Rattle.ir_event.specs.trees.declared.place.Place.{Place}
use Rattle.ir_event.specs.trees.Tree.{OpOf, head}
use Rattle.ir_event.specs.trees.Ids.{ids, has_id, find}
use Rattle.ir_event.specs.trees.Limits.{every}
use Rattle.ir_event.specs.trees.Frames.{owner_of}
use Rattle.ir_event.specs.trees.Places.{first_id, put, without}
use Rattle.ir_event.specs.trees.WellFormed.{ModuleOf, IsWellFormed}
use Rattle.ir_event.proofs.of_trees.Left.{left_distinct, gone}
use Rattle.ir_event.proofs.of_trees.Returns.{put_take}
use Rattle.ir_event.specs.tree_laws.Members.{In}
use Rattle.ir_event.specs.tree_laws.Reads.{is_within}
use Rattle.ir_event.specs.tree_laws.Reasons.{leaves, take_reason, leaves_within, unused_outside}
use Rattle.ir_event.specs.tree_laws.Stands.{OpWithPathOf, stands}
use Rattle.ir_event.proofs.of_tree_laws.Listed.{bool_cases, all_each, each_all, not_false}
use Rattle.ir_event.proofs.of_tree_laws.Readings.{stands_every}
use Rattle.ir_event.proofs.of_tree_laws.Members.{stand_found}
use Rattle.ir_event.proofs.of_tree_laws.Around.{present_stand, absent_find}
use Rattle.ir_event.proofs.of_tree_laws.Changed.{point_left}
use Rattle.ir_event.proofs.of_tree_laws.Reasoned.{no_unless}
use Rattle.ir_event.proofs.of_tree_laws.Reverted.{inside_goes}
use Rattle.ir_event.proofs.of_tree_laws.PutForm.{put_found}
use Rattle.ir_event.proofs.of_tree_laws.Shift.{Inner, inner_of, inner_place, own_distinct}
use Rattle.rewriter_machine.specs.Edits.{TestsOf, Erase, reason_by}
use Rattle.rewriter_machine.specs.Erasing.{ids_in, erase_order, all_taken}
use Rattle.rewriter_machine.proofs.Taken.{Erasing, reach, each_may, all_gone, each_wellformed}

module _ {N T A : Type 0} (w : TestsOf N T) (x : ℕ) (m : ModuleOf N T A) (f : IsWellFormed w.isolated m) (e : reason_by w (Erase x) m ≡ None) where
  abbrev t : OpOf N T A
  t = m.tree

  abbrev rest : OpOf N T A
  rest = without x m.tree

  known : has_id x m.tree ≡ true
  known = (no_unless (has_id x t) NoSuchOp _ e).0

  not_root : eqb (head m.tree).id x ≡ false
  not_root = not_false (eqb (head t).id x) (no_unless (not (eqb (head t).id x)) IsRoot _ (no_unless (has_id x t) NoSuchOp _ e).1).0

  alone : unused_outside x m.tree ≡ true
  alone = (no_unless (unused_outside x t) HasUses None (no_unless (not (eqb (head t).id x)) IsRoot _ (no_unless (has_id x t) NoSuchOp _ e).1).1).0

  -- the erased operation, with its place
  pub record Erased : Type 0 where
    pub here : OpOf N T A
    pub found : find x m.tree ≡ Some here
    pub place : Place
    pub id : (head here).id ≡ x
    pub is : put place here (without x m.tree) ≡ m.tree
    pub goes : Erasing w.isolated place (without x m.tree) m.next here

  pub erased : Erased
  erased = record { here = o; found = found; place = place; id = i.id; is = is; goes = goes }
    where
      s : (s : OpWithPathOf N T A) × In s (stands [] m.tree) × ((head s.here).id ≡ x)
      s = present_stand [] m.tree x known

      o : OpOf N T A
      o = s.0.here

      found : find x m.tree ≡ Some o
      found = ap (λ z. find z m.tree) (sym s.2) ∙ stand_found m.tree f.distinct s.0 s.1

      i : Inner x m.tree o
      i = inner_of x m.tree o found not_root

      place : Place
      place = record { parent = (head i.step_in.parent).id; region = i.step_in.region; before = first_id i.step_in.rest }

      is : put place o (without x m.tree) ≡ m.tree
      is = put_take x place o m.tree f.distinct (inner_place x m.tree o f.distinct i) found

      apart : (y : ℕ) → has_id y o ≡ true → has_id y (without x m.tree) ≡ false
      apart y h = elim (bool_cases (has_id y (without x m.tree))) [
        | inr k ↦ k
        | inl k ↦ absurd (true≢false (sym h ∙ inside_goes m.tree f.distinct o i.step_in i.path i.there y (ap (λ z. has_id y (without z m.tree)) i.id ∙ k)))
      ]

      spared : (y : ℕ) → has_id y o ≡ true → (s : OpWithPathOf N T A) → In s (stands [] (without x m.tree)) → leaves y (head s.here) ≡ true
      spared y h s k =
          let all = all_each (λ (z : OpWithPathOf N T A). leaves_within (Some o) (head z.here)) (stands [] rest) (stands_every (λ z. leaves_within (Some o) (head z)) [] rest
          ∙ sym (ap (λ q. every (λ z. leaves_within q (head z)) rest) found) ∙ alone) s k in
          each_all (λ v. not (eqb (owner_of v).0 y)) (head s.here).operands (λ v n. elim (bool_cases (eqb (owner_of v).0 y)) [
            | inr j ↦ ap not j
            | inl j ↦ absurd (true≢false (sym (ap (λ z. has_id z o) (eqb-true (owner_of v).0 y j) ∙ h) ∙ not_false (is_within (owner_of v).0 (Some o)) (all_each (λ v. not (is_within (owner_of v).0 (Some o))) (head s.here).operands all v n)))
          ])

      goes : Erasing w.isolated place (without x m.tree) m.next o
      goes = record {
        may = record {
          distinct = left_distinct x m.tree f.distinct;
          own = own_distinct x m.tree o f.distinct found;
          apart = apart;
          point = point_left w.isolated x m.tree f.distinct o i.step_in i.path i.there i.id place refl;
        };
        wellformed = subst (λ (t : OpOf N T A). IsWellFormed w.isolated (record { tree = t; next = m.next })) (sym is) f;
        spared = spared;
      }

  order_is : (ys : List ℕ) → ys ≡ erase_order x m.tree → ys ≡ reverse (ids erased.here)
  order_is ys k = k ∙ ap (λ q. reverse (ids_in q)) erased.found

  taken_is : (ys : List ℕ) → all_taken ys m.tree ≡ all_taken ys (put erased.place erased.here (without x m.tree))
  taken_is ys = ap (all_taken ys) (sym erased.is)

  pub erased_whole : all_taken (erase_order x m.tree) m.tree ≡ without x m.tree
  erased_whole =
      ap (λ l. all_taken l m.tree) (order_is (erase_order x m.tree) refl)
      ∙ taken_is (reverse (ids erased.here))
      ∙ all_gone w.isolated erased.place (without x m.tree) m.next erased.here erased.goes

  pub erased_may : (ys zs : List ℕ) (y : ℕ) → ys ++ y ∷ zs ≡ erase_order x m.tree → take_reason y (all_taken ys m.tree) ≡ None
  erased_may ys zs y k = ap (take_reason y) (taken_is ys) ∙ each_may w.isolated erased.place (without x m.tree) m.next ys y zs erased.here erased.goes (order_is (ys ++ y ∷ zs) k)

  pub erased_wellformed : (ys zs : List ℕ) → ys ++ zs ≡ erase_order x m.tree → IsWellFormed w.isolated (record m { tree = all_taken ys m.tree })
  erased_wellformed ys zs k =
      subst (λ (t : OpOf N T A). IsWellFormed w.isolated (record { tree = t; next = m.next })) (sym (taken_is ys))
      (each_wellformed w.isolated erased.place (without x m.tree) m.next ys zs erased.here erased.goes (order_is (ys ++ zs) k))

  pub erased_left : (ys zs : List ℕ) → ys ++ zs ≡ erase_order x m.tree → erase_order x (all_taken ys m.tree) ≡ zs
  erased_left ys [] k =
      ap (erase_order x) (ap (λ l. all_taken l m.tree) (sym (append-nil ys) ∙ k) ∙ erased_whole)
      ∙ ap (λ q. reverse (ids_in q)) (absent_find x (without x m.tree) (gone x m.tree not_root))
  erased_left ys (z ∷ zs) k =
      let r = reach w.isolated erased.place (without x m.tree) m.next ys z zs erased.here erased.goes (order_is (ys ++ z ∷ zs) k) in
      ap (erase_order x) (taken_is ys ∙ r.is)
      ∙ ap (λ q. reverse (ids_in q)) (ap (λ y. find y (put erased.place r.here (without x m.tree))) (sym (r.same ∙ erased.id)) ∙ put_found erased.place r.here (without x m.tree) r.goes_on.may)
      ∙ r.order
