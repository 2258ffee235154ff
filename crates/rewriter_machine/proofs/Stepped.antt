-- An accepted edit is a list of steps.
use Rattle.std.proofs.Common.{◌≡◌, refl, ap, sym, ◌∙◌, subst, ℕ, suc, false, List, [], ◌∷◌, ◌++◌, length, append_assoc, append-nil, None, inl, inr}
use Rattle.std.proofs.lemmas.List.{length-reverse}
use Rattle.ir_event.specs.types.Things.{ContextModel}
use Rattle.ir_event.specs.trees.declared.value.Value.{Value}
use Rattle.ir_event.specs.trees.declared.place.Place.{Place}
use Rattle.ir_event.specs.trees.Tree.{Op}
use Rattle.ir_event.specs.trees.Ids.{IsNumberedFrom, find, op_count}
use Rattle.ir_event.specs.trees.Uses.{uses_of}
use Rattle.ir_event.specs.trees.Edits.{with_operand}
use Rattle.ir_event.specs.trees.Places.{put, without}
use Rattle.ir_event.specs.trees.Meaning.{IsSoundIn, isolated_in}
use Rattle.ir_event.specs.trees.WellFormed.{IsWellFormed, Module as Numbered}
use Rattle.ir_event.proofs.of_trees.SoundEdits.{operand_sound, put_sound, without_sound}
use Rattle.ir_event.specs.tree_laws.Members.{In}
use Rattle.ir_event.proofs.of_tree_laws.Listed.{in_left}
use Rattle.ir_event.specs.declared.event.Event.{Event}
use Rattle.ir_event.specs.declared.event.Event.TheVariants as event
use Rattle.ir_event.specs.Modules.{Module, module_meaning}
use Rattle.ir_event.specs.Step.{Step, Steps}
use Rattle.ir_event.proofs.Stepped.{take_steps}
use Rattle.rewriter_machine.specs.Edits.{Insert, Make, Erase, Move, SetOperand, Replace, SetAttr, DropAttr, edited_by, reason_by}
use Rattle.rewriter_machine.specs.Contents.{tests_in, NumberedEdit, EditIsOf, IsElementary, edit_meaning, edited}
use Rattle.rewriter_machine.proofs.Numbers.{edited_meaning}
use Rattle.rewriter_machine.proofs.Single.{elementary_step}
use Rattle.rewriter_machine.specs.Replacing.{all_set}
use Rattle.rewriter_machine.specs.Erasing.{ids_in, erase_order, all_taken}
use Rattle.rewriter_machine.specs.Inserting.{headers, all_made}
use Rattle.rewriter_machine.specs.Events.{event_count}
use Rattle.rewriter_machine.proofs.Parts.{in_middle}
use Rattle.rewriter_machine.proofs.Setting.{all_set_more, all_replaced}
use Rattle.rewriter_machine.proofs.Allowed.{set_wellformed, set_allowed}
use Rattle.rewriter_machine.proofs.Taken.{taken_more}
use Rattle.rewriter_machine.proofs.Erased.{erased_whole, erased_wellformed, erased_may}
use Rattle.rewriter_machine.proofs.Built.{header_count, all_put}
use Rattle.rewriter_machine.proofs.Inserted.{header_bare, header_allowed, made_wellformed, made_more, made_tree, all_made_whole}
use Rattle.rewriter_machine.proofs.Bare.{header_sound}

module _ (c : ContextModel) where
  -- this many events lead from one module to another
  abbrev pub InSteps : ℕ → Module → Module → Type 0
  InSteps n a b = (what : List Event) × (length what ≡ n) × Steps c what a b

  -- if each edit of a list is a step, the list is a list of steps
  module _ {X : Type 0} (at : List X → Numbered) (all : List X) (one : (us vs : List X) (u : X) → us ++ u ∷ vs ≡ all → (what : Event) × Step c what (module_meaning c (at us)) (module_meaning c (at (us ++ u ∷ [])))) where
    run : (us vs : List X) → us ++ vs ≡ all → InSteps (length vs) (module_meaning c (at us)) (module_meaning c (at all))
    run us [] k = ([], refl, ap (λ l. module_meaning c (at l)) (sym k ∙ append-nil us))
    run us (u ∷ vs) k =
        let s = one us vs u k in
        let r = run (us ++ u ∷ []) vs (append_assoc us (u ∷ []) vs ∙ k) in
        (s.0 ∷ r.0, ap suc r.1, (module_meaning c (at (us ++ u ∷ [])), s.1, r.2))

  -- an edit of one event
  one_edit : (e : NumberedEdit) (m n : Numbered) → IsElementary e → IsWellFormed (isolated_in c) m → IsSoundIn c m.tree → EditIsOf c m e → reason_by (tests_in c) e m ≡ None → n ≡ edited_by (tests_in c) e m → (what : Event) × Step c what (module_meaning c m) (module_meaning c n)
  one_edit e m n is w sound of free same =
      let s = elementary_step c e m is w sound of free in
      (s.0, subst (λ z. Step c s.0 (module_meaning c m) z) (edited_meaning c e m ∙ ap (module_meaning c) (sym same)) s.1)

  module _ (m : Numbered) (w : IsWellFormed (isolated_in c) m) (sound : IsSoundIn c m.tree) where
    -- replacing
    module _ (old new : Value) (e : reason_by (tests_in c) (Replace old new) m ≡ None) where
      set_sound : (us : List (ℕ × ℕ)) (t : Op) → IsSoundIn c t → IsSoundIn c (all_set new us t)
      set_sound [] t s = s
      set_sound (u ∷ us) t s = set_sound us (with_operand u.0 u.1 new t) (operand_sound c u.0 u.1 new t s)

      abbrev set_so_far : List (ℕ × ℕ) → Numbered
      set_so_far us = record m { tree = all_set new us m.tree }

      one_set : (us vs : List (ℕ × ℕ)) (u : ℕ × ℕ) → us ++ u ∷ vs ≡ uses_of old m.tree → (what : Event) × Step c what (module_meaning c (set_so_far us)) (module_meaning c (set_so_far (us ++ u ∷ [])))
      one_set us vs u k =
          one_edit (SetOperand u.0 u.1 new) (set_so_far us) (set_so_far (us ++ u ∷ [])) tt (set_wellformed (tests_in c) old new m w e us (u ∷ vs) k) (set_sound us m.tree sound) tt
          (set_allowed (tests_in c) old new m w e us vs u k) (ap (λ (t : Op). record m { tree = t }) (all_set_more new us (u ∷ []) m.tree))

      replace_steps : InSteps (length (uses_of old m.tree)) (module_meaning c m) (module_meaning c (edited_by (tests_in c) (Replace old new) m))
      replace_steps =
          subst (λ (t : Op). InSteps (length (uses_of old m.tree)) (module_meaning c m) (module_meaning c (record m { tree = t }))) (all_replaced old new m.tree w.distinct)
          (run set_so_far (uses_of old m.tree) one_set [] (uses_of old m.tree) refl)

    -- erasing
    module _ (x : ℕ) (e : reason_by (tests_in c) (Erase x) m ≡ None) where
      taken_sound : (ys : List ℕ) (t : Op) → IsSoundIn c t → IsSoundIn c (all_taken ys t)
      taken_sound [] t s = s
      taken_sound (y ∷ ys) t s = taken_sound ys (without y t) (without_sound c y t s)

      abbrev taken_so_far : List ℕ → Numbered
      taken_so_far ys = record m { tree = all_taken ys m.tree }

      one_taken : (ys zs : List ℕ) (y : ℕ) → ys ++ y ∷ zs ≡ erase_order x m.tree → (what : Event) × Step c what (module_meaning c (taken_so_far ys)) (module_meaning c (taken_so_far (ys ++ y ∷ [])))
      one_taken ys zs y k =
          let s = take_steps c y (taken_so_far ys) (erased_wellformed (tests_in c) x m w e ys (y ∷ zs) k) (taken_sound ys m.tree sound) (erased_may (tests_in c) x m w e ys zs y k) in
          (event.Take y s.0 false, subst (λ (t : Op). Step c (event.Take y s.0 false) (module_meaning c (taken_so_far ys)) (module_meaning c (record m { tree = t }))) (sym (taken_more ys (y ∷ []) m.tree)) s.1)

      erase_steps : InSteps (length (ids_in (find x m.tree))) (module_meaning c m) (module_meaning c (edited_by (tests_in c) (Erase x) m))
      erase_steps =
          subst (λ (t : Op). InSteps (length (ids_in (find x m.tree))) (module_meaning c m) (module_meaning c (record m { tree = t }))) (erased_whole (tests_in c) x m w e)
          (subst (λ n. InSteps n (module_meaning c m) (module_meaning c (taken_so_far (erase_order x m.tree)))) (length-reverse (ids_in (find x m.tree)))
          (run taken_so_far (erase_order x m.tree) one_taken [] (erase_order x m.tree) refl))

    -- inserting
    module _ (place : Place) (o : Op) (own : IsSoundIn c o) (numbered : IsNumberedFrom m.next o) (e : reason_by (tests_in c) (Insert place o) m ≡ None) where
      put_all_sound : (us : List (Place × Op)) (t : Op) → ((u : Place × Op) → In u us → IsSoundIn c u.1) → IsSoundIn c t → IsSoundIn c (all_put us t)
      put_all_sound [] t f s = s
      put_all_sound (u ∷ us) t f s = put_all_sound us (put u.0 u.1 t) (λ z h. f z (inr h)) (put_sound c u.0 u.1 t (f u (inl refl)) s)

      abbrev made_so_far : List (Place × Op) → Numbered
      made_so_far us = all_made (tests_in c) us m

      one_made : (us vs : List (Place × Op)) (u : Place × Op) → us ++ u ∷ vs ≡ headers place o → (what : Event) × Step c what (module_meaning c (made_so_far us)) (module_meaning c (made_so_far (us ++ u ∷ [])))
      one_made us vs u k =
          let there : In u (headers place o) = subst (In u) k (in_middle us vs u) in
          let so_far : IsSoundIn c (made_so_far us).tree = subst (IsSoundIn c) (sym (made_tree (tests_in c) place o m w numbered e us (u ∷ vs) k))
          (put_all_sound us m.tree (λ z h. header_sound c place o own z (subst (In z) k (in_left z us (u ∷ vs) h))) sound) in
          one_edit (Make u.0 u.1) (made_so_far us) (made_so_far (us ++ u ∷ [])) tt (made_wellformed (tests_in c) place o m w numbered e us (u ∷ vs) k) so_far
          (header_sound c place o own u there, header_bare place o u there) (header_allowed (tests_in c) place o m w numbered e us vs u k) (made_more (tests_in c) us (u ∷ []) m)

      insert_steps : InSteps (op_count o) (module_meaning c m) (module_meaning c (edited_by (tests_in c) (Insert place o) m))
      insert_steps =
          subst (λ (n : Numbered). InSteps (op_count o) (module_meaning c m) (module_meaning c n)) (all_made_whole (tests_in c) place o m w numbered e)
          (subst (λ n. InSteps n (module_meaning c m) (module_meaning c (made_so_far (headers place o)))) (header_count place o)
          (run made_so_far (headers place o) one_made [] (headers place o) refl))

    single : (e : NumberedEdit) → IsElementary e → EditIsOf c m e → reason_by (tests_in c) e m ≡ None → InSteps 1 (module_meaning c m) (module_meaning c (edited_by (tests_in c) e m))
    single e is of free =
        let s = one_edit e m (edited_by (tests_in c) e m) is w sound of free refl in
        (s.0 ∷ [], refl, (module_meaning c (edited_by (tests_in c) e m), s.1, refl))

    numbered_steps : (e : NumberedEdit) → EditIsOf c m e → reason_by (tests_in c) e m ≡ None → InSteps (event_count e m) (module_meaning c m) (module_meaning c (edited_by (tests_in c) e m))
    numbered_steps (Insert place o) of free = insert_steps place o of.0 of.1 free
    numbered_steps (Make place o) of free = single (Make place o) tt of free
    numbered_steps (Erase x) of free = erase_steps x free
    numbered_steps (Move x place) of free = single (Move x place) tt of free
    numbered_steps (SetOperand x k v) of free = single (SetOperand x k v) tt of free
    numbered_steps (Replace old new) of free = replace_steps old new free
    numbered_steps (SetAttr x k a) of free = single (SetAttr x k a) tt of free
    numbered_steps (DropAttr x k) of free = single (DropAttr x k) tt of free

    pub edit_steps : (e : NumberedEdit) → EditIsOf c m e → reason_by (tests_in c) e m ≡ None → InSteps (event_count e m) (module_meaning c m) (edited (edit_meaning c e) (module_meaning c m))
    edit_steps e of free = subst (λ n. InSteps (event_count e m) (module_meaning c m) n) (sym (edited_meaning c e m)) (numbered_steps e of free)
