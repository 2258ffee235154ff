-- Properties of an operation and the one before it while placeholders around them are replaced and erased.
use Rattle.std.proofs.Common.{◌≡◌, refl, ap, sym, ◌∙◌, subst, ℕ, zero, suc, ◌+◌, ◌<◌, ◌≤◌, Bool, true, false, true≢false, cond, not, ◌&&◌, ◌||◌, eqb, eq-eqb, eqb-true, List, [], ◌∷◌, ◌++◌, length, map, Option, Some, None, option_map, inl, inr, ◌⊎◌, arith}
use Rattle.std.specs.List.{list_all, list_any}
use Rattle.std.specs.Option.{option_eq}
use Rattle.std.specs.Prelude.{is_some, option_and_then, slice_get}
use Rattle.std.proofs.lemmas.List.{length-map}
use Rattle.ir_event.specs.types.Words.{is_isolated}
use Rattle.ir_event.specs.types.Terms.{TypeTerm, AttrTerm}
use Rattle.ir_event.specs.types.SameTypes.{same_type}
use Rattle.ir_event.specs.trees.declared.value.Value.{Value}
use Rattle.ir_event.specs.trees.declared.value.Value.TheVariants.{Result, Arg}
use Rattle.ir_event.specs.trees.declared.place.Place.{Place}
use Rattle.ir_event.specs.trees.Tree.{op, head}
use Rattle.ir_event.specs.trees.Ids.{HasDistinctIds, find, has_id, ids, op_count}
use Rattle.ir_event.specs.trees.Edits.{each_head, put_value, put_values, with_value_replaced}
use Rattle.ir_event.specs.trees.Frames.{owner_of}
use Rattle.ir_event.specs.trees.Limits.{every}
use Rattle.ir_event.specs.trees.Places.{without}
use Rattle.ir_event.specs.trees.Sites.{arguments, results_of, shows, visible}
use Rattle.ir_event.specs.trees.Uses.{same_value, uses_of}
use Rattle.ir_event.specs.trees.Meaning.{Operation}
use Rattle.ir_event.specs.trees.WellFormed.{IsWellFormed}
use Rattle.ir_event.proofs.of_trees.Heads.{head_find}
use Rattle.ir_event.proofs.of_trees.Replaced.{old_unused, others_stay}
use Rattle.ir_event.specs.tree_laws.Stands.{OpWithPathOf, StepOf, gone_in, is_gone, op_with_path_id, stands, dominated_by as dominated_by_from}
use Rattle.ir_event.specs.tree_laws.Members.{In}
use Rattle.ir_event.specs.tree_laws.Reasons.{is_visible_to_users}
use Rattle.ir_event.specs.tree_laws.Values.{has_value, type_of_value}
use Rattle.ir_event.proofs.of_tree_laws.Around.{around_there, present_stand, stand_present, within_gone}
use Rattle.ir_event.proofs.of_tree_laws.Edited.{around_stays, head_stays, dominance_stays, taken_op_count}
use Rattle.ir_event.proofs.of_tree_laws.Wellformed.{left_well_formed}
use Rattle.ir_event.proofs.of_tree_laws.HeadForm.{edit_ids, replaced_keeps}
use Rattle.ir_event.proofs.of_tree_laws.Heads.{Alike}
use Rattle.ir_event.proofs.of_tree_laws.Listed.{all_each, bool_cases, both, both_hold, each_all, either, one_any, or_left, or_right}
use Rattle.ir_event.proofs.of_tree_laws.Members.{HasAround, found_stands, has_around, same_stand, stand, stand_found, within}
use Rattle.ir_event.proofs.of_tree_laws.DominatedBy.{stands_operands, visible_there}
use Rattle.ir_event.proofs.of_tree_laws.Values.{seen_by}
use Rattle.ir_event.specs.Modules.{Module}
use Rattle.rewriter_machine.specs.Contents.{Edit, all_edited, edit_reason, edited}
use Rattle.rewriter_machine.specs.Edits.{Erase, Replace}
use Rattle.patterns_base.specs.Lists.{Free}
use Rattle.patterns_base.proofs.Erasing.{nobody_uses}
use Rattle.patterns_base.proofs.Preceding.{stands_before}
use Rattle.patterns_base.proofs.Given.{seen_is, user}
use Rattle.patterns_base.proofs.Headed as headed
use Rattle.patterns_base.proofs.Plans.{StandsAt, dominated_by}
use Rattle.patterns_soundness.specs.base.Looks.{Header}
use Rattle.patterns_soundness.proofs.Across.{argument_within, before_is, after_inside, child_within, inside_after, not_root}
use Rattle.patterns_soundness.proofs.Arguments.{replaced_uses}
use Rattle.patterns_soundness.proofs.CastsAccepted.{Headroom}
use Rattle.patterns_soundness.proofs.ChoicesAccepted.{used_value}
use Rattle.patterns_soundness.proofs.Kept.{Kept, was_there}
use Rattle.patterns_soundness.proofs.Ordered.{Before, Inside, before_left, inside_left, there_left}
use Rattle.patterns_soundness.proofs.Results.{type_kept}
use Rattle.patterns_soundness.proofs.Points.{own_operand}
use Rattle.patterns_soundness.proofs.Steps.{there_of}
use Rattle.std.proofs.lemmas.Option.{slice_get_within}
use Rattle.ir_event.proofs.Facts.{own_id}
use Rattle.ir_event.proofs.of_tree_laws.Reverted.{passed}

abbrev OpWithPath : Type 0
OpWithPath = OpWithPathOf (List ℕ) TypeTerm AttrTerm

-- the results of an operation of a tree, and how many operands it has
abbrev pub results_in : ℕ → Operation → Option (List TypeTerm)
results_in b t = option_map (λ (h : Header). h.results) (option_map head (find b t))

abbrev pub operands_in : ℕ → Operation → Option ℕ
operands_in b t = option_map (λ (h : Header). length h.operands) (option_map head (find b t))

pub there_by : (b : ℕ) (t : Operation) (rs : List TypeTerm) → results_in b t ≡ Some rs → (o : Operation) × (find b t ≡ Some o) × ((head o).results ≡ rs)
there_by b t rs e = go (find b t) refl e
  where
    go : (f : Option Operation) → find b t ≡ f → option_map (λ (h : Header). h.results) (option_map head f) ≡ Some rs → (o : Operation) × (find b t ≡ Some o) × ((head o).results ≡ rs)
    go None p q = absurd cc
    go (Some o) p q = (o, p, cc)

pub there_is : (b : ℕ) (t : Operation) (rs : List TypeTerm) → results_in b t ≡ Some rs → has_id b t ≡ true
there_is b t rs e = (let o = there_by b t rs e in let w = found_stands b t o.0 o.1 in ap (λ i. has_id i t) (sym w.2) ∙ stand_present [] t w.0 w.1)

pub result_type : (b : ℕ) (t : Operation) (ty : TypeTerm) → results_in b t ≡ Some (ty ∷ []) → type_of_value (Result b 0) t ≡ Some ty
result_type b t ty e = (let o = there_by b t (ty ∷ []) e in ap (λ f. option_and_then (λ (z : Operation). slice_get (head z).results 0) f) o.1 ∙ ap (λ l. slice_get l 0) o.2)

-- ---- taking out an operation takes out the operations inside it
module _ (t z : Operation) (d : HasDistinctIds t) (found : find (head z).id t ≡ Some z) (B : ℕ → Type 0) (all : (b : ℕ) → B b → has_id b t ≡ true) (out : (b : ℕ) → B b → has_id b z ≡ false) where
  apart : (b : ℕ) → B b → eqb b (head z).id ≡ false
  apart b h = go (eqb b (head z).id) refl
    where
      go : (c : Bool) → eqb b (head z).id ≡ c → eqb b (head z).id ≡ false
      go false e = e
      go true e = absurd (true≢false (sym (ap (λ i. has_id i z) (eqb-true b (head z).id e) ∙ own_id z) ∙ out b h))

  pub left_kept : Kept is_isolated B t (without (head z).id t)
  left_kept = record {
    present = λ b h. there_left t z d found b (all b h) (out b h);
    heads = λ b h. head_stays (head z).id t d b (there_left t z d found b (all b h) (out b h));
    dominance = λ b h v g. dominance_stays (head z).id t d b (there_left t z d found b (all b h) (out b h)) is_isolated v (apart (owner_of v).0 g);
    before = λ a b g h e. before_left (head z).id a b t d (there_left t z d found b (all b h) (out b h)) (apart a g) e;
    inside = λ p r b h e. inside_left (head z).id p r b t d (there_left t z d found b (all b h) (out b h)) e;
    arounds = λ b h. around_stays (head z).id t d b (there_left t z d found b (all b h) (out b h));
  }

-- ---- an operation without used results is erased
module _ (m : Module) (w : IsWellFormed is_isolated m) (h : ℕ) (o : Operation) (found : find h m.tree ≡ Some o) (root : eqb (head m.tree).id h ≡ false) (unused : (k : ℕ) → k < length (head o).results → uses_of (Result h k) m.tree ≡ []) where
  abbrev t : Operation
  t = m.tree

  pub erase_reason : edit_reason (Erase h) m ≡ None
  erase_reason =
      (let k = found_stands h t o found in
      passed _ _ _ (ap (λ i. has_id i t) (sym k.2) ∙ stand_present [] t k.0 k.1)
      (passed _ _ _ (ap not root)
      (passed _ _ _ (nobody_uses is_isolated h t o w.distinct root found w.wellformed.visible unused) refl)))

  pub erase_wellformed : IsWellFormed is_isolated (edited (Erase h) m)
  erase_wellformed = left_well_formed is_isolated h m w (λ s i gone. each_all (λ v. not (eqb (owner_of v).0 h)) (head s.here).operands (λ v j. ap not (spared s i gone v j (eqb (owner_of v).0 h) refl)))
    where
      spared : (s : OpWithPath) → In s (stands [] m.tree) → is_gone h s ≡ false → (v : Value) → In v (head s.here).operands → (b : Bool) → eqb (owner_of v).0 h ≡ b → eqb (owner_of v).0 h ≡ false
      spared s i gone v j false e = e
      spared s i gone (Result q k) j true e =
          (let own = own_operand t w.distinct w.wellformed.visible s i (Result q k) j in
          let g = seen_by is_isolated t w.distinct s i (Result q k) own in
          let same = eqb-true q h e in
          let is : is_some (option_and_then (λ (z : Operation). slice_get (head z).results k) (find h t)) ≡ true = subst (λ z. is_some (option_and_then (λ (z : Operation). slice_get (head z).results k) (find z t)) ≡ true) same g.is in
          absurd (used_value t s i (Result q k) j (ap (λ z. uses_of (Result z k) t) same ∙ unused k (few k (slice_get (head o).results k) refl (sym (ap (λ f. is_some (option_and_then (λ (z : Operation). slice_get (head z).results k) f)) found) ∙ is)))))
        where
          few : (k : ℕ) (f : Option TypeTerm) → slice_get (head o).results k ≡ f → is_some f ≡ true → k < length (head o).results
          few k None e h = absurd (true≢false (sym h))
          few k (Some ty) e h = slice_get_within (head o).results k ty e
      spared s i gone (Arg q r k) j true e =
          (let own = own_operand t w.distinct w.wellformed.visible s i (Arg q r k) j in
          let f = found_stands h t o found in
          let same = eqb-true q h e in
          let here : In (stand o f.0.path) (stands [] t) = subst (λ (z : Operation). In (stand z f.0.path) (stands [] t)) f.3 f.1 in
          let id : (head o).id ≡ h = ap (λ (z : Operation). (head z).id) (sym f.3) ∙ f.2 in
          let inner = argument_within t w.distinct o f.0.path here is_isolated s.here s.path i r k (ap (λ z. dominated_by_from is_isolated s.path (Arg z r k)) (id ∙ sym same) ∙ own) in
          let u = present_stand f.0.path o (op_with_path_id s) inner in
          let one = same_stand t w.distinct u.0 s (within o f.0.path u.0 u.1 [] t here) i u.2 in
          absurd (true≢false (sym (ap (is_gone h) (sym one) ∙ within_gone h o f.0.path (goes f.0.path here id) u.0 u.1) ∙ gone)))
        where
          goes : (p : List (StepOf (List ℕ) TypeTerm AttrTerm)) → In (stand o p) (stands [] m.tree) → (head o).id ≡ h → gone_in h o p ≡ true
          goes [] there id =
              (let bad : eqb (head m.tree).id h ≡ true = eq-eqb (head m.tree).id h (ap (λ (z : OpWithPath). op_with_path_id z) (sym (at_top (has_around [] m.tree (stand o []) there))) ∙ id) in
              absurd (true≢false (sym bad ∙ root)))
            where
              at_top : (stand o [] ≡ stand m.tree []) ⊎ HasAround (stand o []) (stands [] m.tree) → stand o [] ≡ stand m.tree []
              at_top (inl k) = k
              at_top (inr w) = (let bad : [] ≡ w.0 ∷ w.1 = w.2 in absurd cc)
          goes (a ∷ p) there id = or_left (eqb (head o).id h) _ (eq-eqb (head o).id h id)

-- ---- a value defined outside an operation that dominates an operation inside also dominates the outer one
module _ (t : Operation) (d : HasDistinctIds t) (z : Operation) (zp : List (StepOf (List ℕ) TypeTerm AttrTerm)) (there : In (stand z zp) (stands [] t)) (v0 : Value) (out : has_id (owner_of v0).0 z ≡ false) where
  pub inner_more : (o : Operation) (p : List (StepOf (List ℕ) TypeTerm AttrTerm)) → In (stand o p) (stands [] t) → has_id (head o).id z ≡ true → dominated_by_from is_isolated p v0 ≡ true → (v : Value) → dominated_by_from is_isolated zp v ≡ true → dominated_by_from is_isolated p v ≡ true
  inner_more o [] h i e v s = absurd (true≢false (sym e))
  inner_more o (a ∷ q) h i e v s =
      (let u = present_stand zp z (head o).id i in
      let same = same_stand t d u.0 (stand o (a ∷ q)) (within z zp u.0 u.1 [] t there) h u.2 in
      elim (has_around zp z u.0 u.1) [
        | inl k ↦ (let paths : zp ≡ a ∷ q = ap (λ (s : OpWithPath). s.path) (sym k ∙ same) in subst (λ l. dominated_by_from is_isolated l v ≡ true) paths s)
        | inr w ↦ (let steps : w.0 ∷ w.1 ≡ a ∷ q = sym w.2 ∙ ap (λ (s : OpWithPath). s.path) same in
            let one : w.0 ≡ a = cc in
            let two : w.1 ≡ q = cc in
            let up : In (stand a.parent q) (stands zp z) = subst (λ (s : OpWithPath). In s (stands zp z)) (λ j. stand (one j).parent (two j)) w.4 in
            let parent_in : has_id (head a.parent).id z ≡ true = stand_present zp z (stand a.parent q) up in
            around parent_in (λ b. inner_more a.parent q (around_there t o a q h).1 parent_in b v s))
      ])
    where
      around : has_id (head a.parent).id z ≡ true → (dominated_by_from is_isolated q v0 ≡ true → dominated_by_from is_isolated q v ≡ true) → dominated_by_from is_isolated (a ∷ q) v ≡ true
      around inside later = elim (either (list_any (λ f. shows v0 (results_of f)) a.preceding) _ e) [
        | inl m ↦ (let f = one_any (λ f. shows v0 (results_of f)) a.preceding m in
            let g = stands_before t o f.0 a q h f.1 in
            let sib = child_within t d z zp there f.0 g.step_in q g.there (ap (λ (k : Operation). has_id (head k).id z) g.parent ∙ inside) in
            absurd (true≢false (sym (ap (λ k. has_id k z) (owner_is v0 f.0 f.2) ∙ sib) ∙ out)))
        | inr m ↦ elim (either (shows v0 (arguments (head a.parent).id a.region (length a.args))) _ m) [
          | inl l ↦ absurd (true≢false (sym (ap (λ k. has_id k z) (argument_of v0 l) ∙ inside) ∙ out))
          | inr l ↦ (let b = both (not (is_isolated (head a.parent).name)) (dominated_by_from is_isolated q v0) l in
              or_right (list_any (λ f. shows v (results_of f)) a.preceding) _ (or_right (shows v (arguments (head a.parent).id a.region (length a.args))) _ (both_hold _ _ b.0 (later b.1))))
        ]
      ]
        where
          owner_is : (u : Value) (f : Operation) → shows u (results_of f) ≡ true → (owner_of u).0 ≡ (head f).id
          owner_is (Arg b r k) f c = absurd (true≢false (sym c))
          owner_is (Result b k) f c = eqb-true b (head f).id (both (eqb b (head f).id) _ c).0

          argument_of : (u : Value) → shows u (arguments (head a.parent).id a.region (length a.args)) ≡ true → (owner_of u).0 ≡ (head a.parent).id
          argument_of (Result b k) c = absurd (true≢false (sym c))
          argument_of (Arg b r k) c = eqb-true b (head a.parent).id (both (eqb b (head a.parent).id) _ c).0
